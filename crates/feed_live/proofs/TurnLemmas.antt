-- How a turn stays at places of the log.
use Rattle.std.proofs.Common.{◌≡◌, ◌≢◌, refl, eqb-true, inl, inr, sym, ap, ◌∙◌, subst, ℕ, List, [], length, nat_eq, Bool, None, Some, Option, ◌<◌, ◌≤◌}
use Rattle.std.proofs.lemmas.Bool.Decides.{eqb_tells}
use Rattle.std.specs.Prelude.{◌==◌, ◌⊎◌, ◌&&◌, ◌||◌, if◌then◌else◌, nat_le, true, not, Contains, false, is_none, is_some, IsSome, string_bytes}
use Rattle.std.proofs.lemmas.List.{nil_from_length}
use Rattle.slab.specs.Slab.{Slab}
use Rattle.feed_settings.specs.Limits.{Limits}
use Rattle.feed_node.specs.Mirroring.{MirrorState}
use Rattle.feed_node.specs.States.{NodeState, published_token}
use Rattle.feed_world.specs.Log.{Log}
use Rattle.feed_hub.specs.declared.hub.Hub.{Hub}
use Rattle.feed_laws.specs.Laws.{IsInLog}
use Rattle.feed_device.specs.Calls.{LinkCalls, HasBegun, CalledAtLeastOnce}
use Rattle.feed_device.specs.Links.{Exchanges}
use Rattle.feed_device.specs.Sockets.{AllSockets}
use Rattle.feed_screens.specs.declared.conn.Conn.{Conn}
use Rattle.feed_device.specs.declared.desk.Desk.{Desk}
use Rattle.feed_screens.specs.declared.screens.Screens.{Screens}
use Rattle.feed_live.specs.declared.source.Reach.{Reach}
use Rattle.feed_live.specs.declared.source.Reach.TheVariants.{Away}
use Rattle.feed_live.specs.declared.source.returning.Returning.{Returning}
use Rattle.feed_live.specs.Leaving.{BeginsOne, IsToLeave, has_left_quiet, is_past, late_at, why_late, why_left}
use Rattle.feed_live.specs.Leading.{asks_all, is_first, look_time}
use Rattle.feed_live.specs.declared.source.leading.Leading.{Leading}
use Rattle.feed_live.specs.declared.source.patience.Patience.{Patience}
use Rattle.feed_live.specs.declared.source.rechecking.Rechecking.{Rechecking}
use Rattle.feed_live.specs.declared.source.settling.Settling.{Settling}
use Rattle.feed_device.specs.declared.report.Why.{Why}
use Rattle.feed_device.specs.declared.report.Why.TheVariants.{Silent}
use Rattle.feed_hub.specs.Upstream.{later}
use Rattle.feed_hub.specs.declared.upstream.Upstream.{Upstream}
use Rattle.feed_live.specs.declared.source.Source.{Source}
use Rattle.feed_live.specs.declared.turn.Input.{Input}
use Rattle.feed_live.specs.declared.turn.Input.TheVariants.{End}
use Rattle.feed_live.specs.declared.turn.Live.{Live}
use Rattle.feed_live.specs.Answering.{has_heard}
use Rattle.feed_live.specs.Ending.{SameBeside}
use Rattle.feed_live.specs.Relaying.{pursuit, pursuit_of, MayFollow, AnswersFromLog, FollowsServers, IsRelaying, SameSource, SameWaiting, MayHaveMore, OnlyServes, GoesOnFrom, IsToConnect, followed_by, screen_side, within_turn}
use Rattle.feed_screens.specs.Serving.{ServesScreens, StillServing}
use Rattle.feed_live.specs.States.{states_of}
use Rattle.feed_live.specs.Taking.{IsTakingInput, ShowsInput, BeginsInput}
use Rattle.feed_live.specs.Upstream.{Servers, AreKnownHonest}
use Rattle.feed_screens.specs.Waiting.{TakesNobody}
use Rattle.feed_files.proofs.InputLemmas.{takes_so}
use Rattle.feed_live.proofs.RelayLemmas.{either, among_shown, among_blank, shows_still, same_shows, with_same, with_screens}

-- ---- only screens are served

pub same_none : (source : Source) → SameSource source source
same_none source = record { servers = refl; shown = refl; blank = refl; coming = refl; follower = refl; reach = refl; request = refl; rest = refl; opened = refl }

pub waiting_none : (source : Source) → SameWaiting source source
waiting_none source = record { leading = refl; patience = refl; settling = refl; rechecking = refl; upstream = refl; reach = refl; returning = refl; opened = refl; body_since = refl }

pub waiting_then : {a b c : Source} → SameWaiting b c → SameWaiting a b → SameWaiting a c
waiting_then two one =
    record {
      leading = two.leading ∙ one.leading;
      patience = two.patience ∙ one.patience;
      settling = two.settling ∙ one.settling;
      rechecking = two.rechecking ∙ one.rechecking;
      upstream = two.upstream ∙ one.upstream;
      reach = two.reach ∙ one.reach;
      returning = two.returning ∙ one.returning;
      opened = two.opened ∙ one.opened;
      body_since = two.body_since ∙ one.body_since;
    }

pub same_then : {a b c : Source} → SameSource b c → SameSource a b → SameSource a c
same_then two one =
    record {
      servers = two.servers ∙ one.servers;
      shown = two.shown ∙ one.shown;
      blank = two.blank ∙ one.blank;
      coming = two.coming ∙ one.coming;
      follower = two.follower ∙ one.follower;
      reach = two.reach ∙ one.reach;
      request = two.request ∙ one.request;
      rest = two.rest ∙ one.rest;
      opened = two.opened ∙ one.opened;
    }

-- ---- a server is waited for

-- a connection is due in either
pub to_connect_same : {a b : Source} {now : ℕ} → SameWaiting a b → SameSource a b → IsToConnect a now → IsToConnect b now
to_connect_same {a} {b} {now} waiting same is =
    record {
      away = waiting.reach ∙ is.away;
      none = ap (λ u. u.follower) waiting.upstream ∙ is.none;
      due = subst (λ u. u.since ≤ now) (sym waiting.upstream) is.due;
      place = subst (λ u. u.place < length b.places.items) (sym waiting.upstream) (subst (λ s. a.upstream.place < length s.places) (sym same.servers) is.place);
    }

connects_by : Returning → Leading → Patience → ℕ
connects_by returning leading patience = if has_left_quiet returning || patience.is_again || is_some leading.looks_from then 2000 else 10000

answers_by : ℕ → Leading → Patience → ℕ
answers_by place leading patience = if is_some leading.looks_from || patience.is_again && is_first leading place then look_time leading else patience.time

answered_by : ℕ → Leading → Rechecking → Settling → Option ℕ → Bool
answered_by place leading rechecking settling body_since =
    is_some body_since && not (is_some leading.looks_from && is_some rechecking.again)
    && not (asks_all leading place && nat_eq settling.lines 0)

why_by : Upstream → Reach → Returning → Leading → Patience → Rechecking → Settling → ℕ → Option ℕ → ℕ → ℕ → Option Why
why_by upstream reach returning leading patience rechecking settling opened body_since idle now =
    if is_some upstream.follower && nat_le (later (later upstream.since idle) idle) now then Some Silent
    else if is_past (late_at reach (connects_by returning leading patience) (answers_by upstream.place leading patience) opened (answered_by upstream.place leading rechecking settling body_since)) now then Some (why_late reach)
    else None

-- a server is left for the same
pub why_same : {a b : Source} (idle now : ℕ) → SameWaiting a b → why_left b idle now ≡ why_left a idle now
unfolding why_by connects_by answers_by answered_by
why_same {a} {b} idle now waiting =
    ap (λ u. why_by u b.reach b.returning b.leading b.patience b.rechecking b.settling b.opened b.body_since idle now) waiting.upstream
    ∙ ap (λ r. why_by a.upstream r b.returning b.leading b.patience b.rechecking b.settling b.opened b.body_since idle now) waiting.reach
    ∙ ap (λ r. why_by a.upstream a.reach r b.leading b.patience b.rechecking b.settling b.opened b.body_since idle now) waiting.returning
    ∙ ap (λ l. why_by a.upstream a.reach a.returning l b.patience b.rechecking b.settling b.opened b.body_since idle now) waiting.leading
    ∙ ap (λ p. why_by a.upstream a.reach a.returning a.leading p b.rechecking b.settling b.opened b.body_since idle now) waiting.patience
    ∙ ap (λ r. why_by a.upstream a.reach a.returning a.leading a.patience r b.settling b.opened b.body_since idle now) waiting.rechecking
    ∙ ap (λ s. why_by a.upstream a.reach a.returning a.leading a.patience a.rechecking s b.opened b.body_since idle now) waiting.settling
    ∙ ap (λ o. why_by a.upstream a.reach a.returning a.leading a.patience a.rechecking a.settling o b.body_since idle now) waiting.opened
    ∙ ap (λ s. why_by a.upstream a.reach a.returning a.leading a.patience a.rechecking a.settling a.opened s idle now) waiting.body_since

pub left_same : {a b : Source} (idle now : ℕ) → SameWaiting a b → IsToLeave a idle now → IsToLeave b idle now
left_same {a} {b} idle now waiting is =
    (λ away. is.0 (sym waiting.reach ∙ away), λ none. is.1 (sym (why_same idle now waiting) ∙ none))

-- one was begun, from the same to the same
pub begins_same : {before after : LinkCalls} (a b c d : Source) {now time : ℕ} → b.upstream ≡ a.upstream → b.leading ≡ a.leading → d.upstream ≡ c.upstream → time ≡ now
    → BeginsOne before after b c time → BeginsOne before after a d now
begins_same {before} {after} a b c d {now} {time} old leads new at begins =
    subst (λ l. HasBegun before after ⊎ ((after ≡ before) × GoesOnFrom l.looks_from a.upstream d.upstream now)) leads
    (subst (λ u. HasBegun before after ⊎ ((after ≡ before) × GoesOnFrom b.leading.looks_from a.upstream u now)) (sym new)
    (subst (λ u. HasBegun before after ⊎ ((after ≡ before) × GoesOnFrom b.leading.looks_from u c.upstream now)) old
    (subst (λ t. HasBegun before after ⊎ ((after ≡ before) × GoesOnFrom b.leading.looks_from b.upstream c.upstream t)) at begins)))

-- one was begun, or there still is none
pub away_still : {A : Type 0} {reach later : Reach} → later ≡ reach → A ⊎ (reach ≡ Away) → A ⊎ (later ≡ Away)
away_still same (inl begun) = inl begun
away_still same (inr away) = inr (same ∙ away)

-- nor was one begun since
pub left_on : {first before after : LinkCalls} {reach later : Reach} → after ≡ before → later ≡ reach → HasBegun first before ⊎ (reach ≡ Away) → HasBegun first after ⊎ (later ≡ Away)
left_on {first} same reach (inl begun) = inl (subst (λ k. HasBegun first k) (sym same) begun)
left_on same reach (inr away) = inr (reach ∙ away)

-- numbers that differ
pub differ_so : (a b : ℕ) → a ≢ b → not (a == b) ≡ true
differ_so a b differ = by (eqb_tells a b)
  where
    by : (((a == b) ≡ true) × (a ≡ b)) ⊎ (((a == b) ≡ false) × (a ≢ b)) → not (a == b) ≡ true
    by (inl (_, same)) = absurd (differ same)
    by (inr (is, _)) = ap not is

-- and that don't
pub same_so : (a b : ℕ) → a ≡ b → not (a == b) ≡ false
same_so a b same = by (eqb_tells a b)
  where
    by : (((a == b) ≡ true) × (a ≡ b)) ⊎ (((a == b) ≡ false) × (a ≢ b)) → not (a == b) ≡ false
    by (inl (is, _)) = ap not is
    by (inr (_, differ)) = absurd (differ same)

-- whether a server was heard is the same, too
pub heard_same : {a b : Source} → SameSource a b → b.is_heard ≡ a.is_heard → has_heard b ≡ has_heard a
heard_same {a} {b} same is =
    ap (λ h. h && not (is_some b.coming && is_none (published_token b.answers.shown.mirror.node))) is
    ∙ ap (λ c. a.is_heard && not (is_some c && is_none (published_token b.answers.shown.mirror.node))) same.coming
    ∙ ap (λ m. a.is_heard && not (is_some a.coming && is_none (published_token m.node))) same.shown

more_then : (a b c : Source) → c.reach ≡ b.reach → MayHaveMore b c → MayHaveMore a b → MayHaveMore a c
more_then a b c same two one there = by (two there) (one (λ away. there (same ∙ away)))
  where
    by : (c.has_more ≡ b.has_more) ⊎ (c.has_more ≡ true) → (b.has_more ≡ a.has_more) ⊎ (b.has_more ≡ true) → (c.has_more ≡ a.has_more) ⊎ (c.has_more ≡ true)
    by (inr more) was = inr more
    by (inl still) (inl is) = inl (still ∙ is)
    by (inl still) (inr more) = inr (still ∙ more)

pub serves_none : (live : Live) (sockets : AllSockets) → OnlyServes live live sockets sockets
serves_none live sockets =
    record { contest = refl; ends = (refl, refl); feeds = refl; source = same_none live.source; waiting = waiting_none live.source; heard = refl; epoch = refl; rests = λ rest. rest; more = λ there. inl refl; serves = λ nodes shown blank serving. serving }

pub serves_then : {a b c : Live} {before between after : AllSockets} → OnlyServes b c between after → OnlyServes a b before between → OnlyServes a c before after
serves_then {a} {b} {c} {before} {between} {after} two one =
    record {
      contest = two.contest ∙ one.contest;
      ends = (two.ends.0 ∙ one.ends.0, two.ends.1 ∙ one.ends.1);
      feeds = two.feeds ∙ one.feeds;
      source = same_then two.source one.source;
      waiting = waiting_then two.waiting one.waiting;
      heard = two.heard ∙ one.heard;
      epoch = two.epoch ∙ one.epoch;
      rests = λ rest. two.rests (one.rests rest);
      more = more_then a.source b.source c.source two.source.reach two.more one.more;
      serves = λ nodes shown blank serving.
          let later : StillServing nodes (string_bytes b.contest) b.screens c.screens between after =
          two.serves nodes (subst (λ m. Contains nodes m.node) (sym one.source.shown) shown) (λ none. subst (λ m. Contains nodes m.node) (sym one.source.blank) (blank (sym (heard_same one.source one.heard) ∙ none))) in
          subst (λ t. StillServing nodes (string_bytes t) b.screens c.screens between after) one.contest later (one.serves nodes shown blank serving);
    }

pub beside_then : {a b c : Live} → SameBeside b c → SameBeside a b → SameBeside a c
beside_then two one =
    record { saved = two.saved ∙ one.saved; epoch = two.epoch ∙ one.epoch; reported = two.reported ∙ one.reported }

-- the screens changed alone, and the desk
pub screens_only : (live : Live) (screens : Screens) (desk : Desk) {before after : AllSockets}
    → ((nodes : List NodeState) → Contains nodes live.source.answers.shown.mirror.node → (has_heard live.source ≡ false → Contains nodes live.source.answers.blank.mirror.node)
    → StillServing nodes (string_bytes live.contest) live.screens screens before after)
    → OnlyServes live (record live { screens = screens; desk = desk }) before after
screens_only live screens desk serves = record { contest = refl; ends = (refl, refl); feeds = refl; source = same_none live.source; waiting = waiting_none live.source; heard = refl; epoch = refl; rests = λ rest. rest; more = λ there. inl refl; serves = serves }

module _ (limits : Limits) (log : Log) where
  -- its feed is its input
  pub input_begun : {contest : List ℕ} {hub : Hub} {conns : Slab Conn} {sockets : AllSockets} {old new : Source} (mirror blank : MirrorState)
      → BeginsInput old new → old.answers.shown.mirror ≡ mirror → old.answers.blank.mirror ≡ blank
      → mirror.limits ≡ limits → IsInLog limits log mirror.node → IsInLog limits log blank.node → ServesScreens (states_of limits log) contest hub conns sockets
      → AnswersFromLog limits log contest (screen_side new.answers.shown.mirror new.answers.blank.mirror hub conns) sockets
  input_begun mirror blank begins shown blank_is bounds at blank_at serving =
      record {
        limits_are = begins.limits ∙ ap (λ m. m.limits) shown ∙ bounds;
        shown_is = subst (λ n. IsInLog limits log n) (sym (begins.node ∙ ap (λ m. m.node) shown)) at;
        blank_is = subst (λ m. IsInLog limits log m.node) (sym (begins.blank ∙ blank_is)) blank_at;
        serving = serving;
      }

  -- ---- a whole turn

  pub takes_only : {begun : MirrorState} {input : List ℕ} {old new : Live} {before after : AllSockets} → OnlyServes old new before after
      → IsTakingInput limits log begun input old before → IsTakingInput limits log begun input new after
  takes_only {begun} {input} {old} {new} {before} {after} only is =
      record {
        no_places = ap (λ s. s.places) only.source.servers ∙ is.no_places;
        shows = subst (λ c. ShowsInput limits log (string_bytes c) begun input new.source new.screens after) (sym only.contest)
            (λ honest. let here = is.shows honest in
            same_shows limits log only.source
            (shows_still limits log (only.serves (states_of limits log) (among_shown limits log here) (λ _. among_blank limits log here)) here));
        takes = λ feeds. takes_so only.source.rest only.source.shown (is.takes (sym only.feeds ∙ feeds));
      }

  -- nothing changed
  pub takes_still : {begun : MirrorState} {input : List ℕ} {old new : Live} {sockets : AllSockets} → new ≡ old
      → IsTakingInput limits log begun input old sockets → IsTakingInput limits log begun input new sockets
  takes_still {begun} {input} {old} {new} {sockets} same is = subst (λ live. IsTakingInput limits log begun input live sockets) (sym same) is

module _ (limits : Limits) (log : Log) (servers : Servers) where
  -- a relay begins: no server is followed
  pub with_begun : (exchanges : Exchanges) {contest : List ℕ} {hub : Hub} {conns : Slab Conn} {sockets : AllSockets} (source : Source) (mirror blank : MirrorState)
      → source.answers.shown.mirror ≡ mirror → source.answers.blank.mirror ≡ blank → source.upstream.follower ≡ None → source.reach ≡ Away
      → mirror.limits ≡ limits → IsInLog limits log mirror.node → IsInLog limits log blank.node → ServesScreens (states_of limits log) contest hub conns sockets
      → (AreKnownHonest limits log servers exchanges → AnswersFromLog limits log contest (screen_side source.answers.shown.mirror source.answers.blank.mirror hub conns) sockets)
      × (IsSome exchanges → MayFollow limits log servers exchanges (pursuit_of source source.rest.items))
  with_begun exchanges source mirror blank shown blank_is follower away bounds at blank_at serving = (
    λ honest. record {
      limits_are = ap (λ m. m.limits) shown ∙ bounds;
      shown_is = subst (λ m. IsInLog limits log m.node) (sym shown) at;
      blank_is = subst (λ m. IsInLog limits log m.node) (sym blank_is) blank_at;
      serving = serving;
    },
    λ known. subst (λ f. MayFollow limits log servers exchanges (pursuit (is_none source.coming) source.reach source.request.items source.rest.items f (followed_by source))) (sym follower) away,
  )

  -- a whole turn
  pub relays_on : {old new : Live} {before after : AllSockets} (exchanges : Exchanges) → OnlyServes old new before after
      → IsRelaying limits log servers exchanges old before → IsRelaying limits log servers exchanges new after
  relays_on {old} {new} {before} {after} exchanges only is =
      let follows : FollowsServers limits log servers (string_bytes old.contest) (within_turn exchanges new.source new.source.rest.items new.screens) after = (
        only.source.servers ∙ is.1.0,
        with_same limits log servers only.source exchanges old.source.rest.items new.source.rest.items only.source.rest
            (with_screens limits log servers exchanges (λ shows serving. only.serves (states_of limits log) (among_shown limits log shows) (λ _. among_blank limits log shows) serving) is.1.1),
      ) in (
        only.feeds ∙ is.0,
        subst (λ c. FollowsServers limits log servers (string_bytes c) (within_turn exchanges new.source new.source.rest.items new.screens) after) (sym only.contest) follows,
      )

-- a list that is not empty is not found to be
pub not_empty : {A : Type 0} (found : Bool) (xs : List A) → found ≡ nat_eq (length xs) 0 → xs ≢ [] → found ≡ false
not_empty found xs is some = either found (λ yes'. absurd (some (nil_from_length xs (eqb-true (length xs) 0 (sym is ∙ yes'))))) (λ no. no)

-- ---- who waits is asked for

pub asked_then : (first before new : Option ℕ) (old later : Screens) (now : ℕ) → before ≡ first → later.accept_at ≡ old.accept_at
    → CalledAtLeastOnce before new ⊎ TakesNobody old now → CalledAtLeastOnce first new ⊎ TakesNobody later now
asked_then first before new old later now same at (inl asked) = inl (subst (λ a. CalledAtLeastOnce a new) same asked)
asked_then first before new old later now same at (inr (inl paused)) = inr (inl (subst (λ a. now < a) (sym at) paused))
asked_then first before new old later now same at (inr (inr last)) = inr (inr last)

-- ---- it ends only with its input

pub goes_with : {V : Type 0} (old new : Live) → new.limits ≡ old.limits → V ⊎ (old.limits.ends_with_input ≡ false)
    → V ⊎ (new.limits.ends_with_input ≡ false)
goes_with old new same (inl goes_on) = inl goes_on
goes_with old new same (inr never) = inr (ap (λ l. l.ends_with_input) same ∙ never)

pub ends_now : {input : Input} {V W : Type 0} → input ≡ End → (W → V) → (input ≢ End) ⊎ W → V
ends_now is then_so (inl differs) = absurd (differs is)
ends_now is then_so (inr never) = then_so never
