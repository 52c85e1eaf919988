-- How a relay stays at places of the log, step by step.
use Rattle.std.proofs.Common.{◌≡◌, ◌⊎◌, inl, inr, suc, ◌-◌, refl, sym, ap, ◌∙◌, subst, ℕ, ◌+◌, ◌≤◌, arith, List, [], ◌∷◌, ◌++◌, length, length-append, take, drop, append-nil, append_assoc, Option, Some, None}
use Rattle.std.specs.Result.{is_err}
use Rattle.std.specs.Prelude.{Result, Ok, Err, OnOk, Bool, true, false, Contains, option_map, is_none, is_some, IfSome, IsSome, if◌then◌else◌}
use Rattle.std.proofs.lemmas.List.{take-take, drop-take, take-append-drop}
use Rattle.slab.specs.Slab.{Slab}
use Rattle.feed_settings.specs.Limits.{Limits}
use Rattle.feed_node.specs.Mirroring.{MirrorState, refused_off, new_mirror}
use Rattle.feed_node.specs.Publishing.{Published}
use Rattle.feed_node.specs.Saved.{restored_from}
use Rattle.feed_node.specs.States.{NodeState, published_token}
use Rattle.feed_follow.specs.declared.fault.FollowFault.{FollowFault}
use Rattle.feed_follow.specs.declared.fault.FollowFault.TheVariants.{BadChunk}
use Rattle.feed_follow.specs.declared.fault.Progress.{Progress}
use Rattle.feed_follow.specs.declared.fault.Progress.TheVariants as reached
use Rattle.feed_follow.specs.Follower.{FollowerState, FollowsAt, GoesOn}
use Rattle.feed_follow.specs.Following.{Fails}
use Rattle.feed_follow.specs.Standing.{Standing, in_head, token_refused, in_body, done, failed}
use Rattle.feed_world.specs.Log.{Log, state_after, tokens_of}
use Rattle.feed_world.specs.Position.{Position, node_at, commits_after}
use Rattle.feed_world.proofs.Commits.{light_here}
use Rattle.feed_hub.specs.declared.hub.Hub.{Hub}
use Rattle.feed_laws.specs.Laws.{IsInLog}
use Rattle.feed_hub.specs.Upstream.{IsFollowing, IsPushed}
use Rattle.feed_device.specs.Links.{Exchange, Exchanges, Shown, nothing_shown, once_at, all_from, shown_first, shown_so, one_more, asked_more, received_more}
use Rattle.feed_device.specs.Sockets.{AllSockets}
use Rattle.feed_screens.specs.declared.conn.Conn.{Conn}
use Rattle.feed_screens.specs.declared.screens.Screens.{Screens}
use Rattle.feed_live.specs.declared.source.Reach.{Reach}
use Rattle.feed_live.specs.declared.source.Reach.TheVariants.{Away, Connects, Asks, Reads}
use Rattle.feed_live.specs.declared.source.Source.{Source}
use Rattle.feed_live.specs.Relaying.{pursuit, pursuit_of, servers_of, IsShownSo, FollowsResponse, MayFollow, MayShow, FollowsServers, IsToShow, AnswersFromLog, SameSource, SameButUnread, WasLeft, KeepsShown, PushesOnly, IsNowShown, ShowsAlone, following_mirror, followed_by, counted_within_turn, screen_side, within_turn}
use Rattle.feed_screens.specs.Serving.{ServesScreens}
use Rattle.feed_live.specs.States.{states_of}
use Rattle.feed_live.specs.Upstream.{AsksInLog, Servers, IsRequestOf, IsOfLog, wants_memory, StaysInLog, EndsInLog, IsHonestAs, IsHonest, AreHonest, AreKnownHonest}
use Rattle.feed_live.proofs.StateLemmas.{among_states, of_log, has_read, has_read_all}

-- what holds where it is no error
pub where_ok : {A E P : Type 0} (result : Result A E) → is_err result ≡ false → OnOk result P → P
where_ok (Ok a) none holds = holds
where_ok (Err e) is holds = absurd (cc)

-- by either case of a test
pub either : {X : Type 0} (test : Bool) → (test ≡ true → X) → (test ≡ false → X) → X
either true yes' otherwise = yes' refl
either false yes' otherwise = otherwise refl

-- the second part changes alone
pub within : {A B C : Type 0} → (B → C) → A × B → A × C
within change both = (both.0, change both.1)

-- these are the servers
pub servers_are : (source : Source) (servers : Servers) → source.places.items ≡ servers.places → source.identity ≡ servers.identity → servers_of source ≡ servers
servers_are source servers places identity =
    let first : servers_of source ≡ record { places = servers.places; identity = source.identity } = ap (λ p. record { places = p; identity = source.identity }) places in
    let second : record { places = servers.places; identity = source.identity } ≡ servers = ap (λ i. record { places = servers.places; identity = i }) identity in
    first ∙ second

pub head_goes_on : {p : Progress} → p ≡ reached.Head → p ≡ reached.TokenRefused → ⊥
head_goes_on is refused = let e = sym is ∙ refused in cc

pub body_goes_on : {p : Progress} → p ≡ reached.Body → p ≡ reached.TokenRefused → ⊥
body_goes_on is refused = let e = sym is ∙ refused in cc

pub done_goes_on : {p : Progress} → p ≡ reached.Done → p ≡ reached.TokenRefused → ⊥
done_goes_on is refused = let e = sym is ∙ refused in cc

-- bytes were followed, and more may be
pub record IsTaken (bounds : Limits) (lines : Log) (asked : Servers) (is_shown : Bool) (request next : List ℕ) (exchanges : Exchanges) (follower : Option FollowerState) (mirror : MirrorState) : Type 0 where
  pub at : AreKnownHonest bounds lines asked exchanges → is_shown ≡ true → IsInLog bounds lines mirror.node
  pub follows : MayFollow bounds lines asked exchanges (pursuit is_shown Reads request next follower mirror)

module _ (limits : Limits) (log : Log) where
  -- ---- what is shown

  pub among_shown : {contest : List ℕ} {shown blank : MirrorState} {hub : Hub} {conns : Slab Conn} {sockets : AllSockets}
      → AnswersFromLog limits log contest (screen_side shown blank hub conns) sockets → Contains (states_of limits log) shown.node
  among_shown {shown = shown} shows = among_states limits log shown.node shows.shown_is

  pub among_blank : {contest : List ℕ} {shown blank : MirrorState} {hub : Hub} {conns : Slab Conn} {sockets : AllSockets}
      → AnswersFromLog limits log contest (screen_side shown blank hub conns) sockets → Contains (states_of limits log) blank.node
  among_blank {blank = blank} shows = among_states limits log blank.node shows.blank_is

  -- the screens changed, and are served as before
  pub shows_still : {contest : List ℕ} {shown blank : MirrorState} {hub hub_new : Hub} {conns conns_new : Slab Conn} {sockets sockets_new : AllSockets}
      → (ServesScreens (states_of limits log) contest hub conns sockets → ServesScreens (states_of limits log) contest hub_new conns_new sockets_new)
      → AnswersFromLog limits log contest (screen_side shown blank hub conns) sockets → AnswersFromLog limits log contest (screen_side shown blank hub_new conns_new) sockets_new
  shows_still still shows =
      record { limits_are = shows.limits_are; shown_is = shows.shown_is; blank_is = shows.blank_is; serving = still shows.serving }

  -- the mirror changed, and is at a place of the log
  pub shows_at : {contest : List ℕ} {shown shown_new blank blank_new : MirrorState} {hub : Hub} {conns : Slab Conn} {sockets : AllSockets}
      → shown_new.limits ≡ shown.limits → IsInLog limits log shown_new.node → blank_new ≡ blank
      → AnswersFromLog limits log contest (screen_side shown blank hub conns) sockets → AnswersFromLog limits log contest (screen_side shown_new blank_new hub conns) sockets
  shows_at bounds at same shows =
      record {
        limits_are = bounds ∙ shows.limits_are;
        shown_is = at;
        blank_is = subst (λ b. IsInLog limits log b.node) (sym same) shows.blank_is;
        serving = shows.serving;
      }

  -- ---- what didn't change

  pub same_shows : {old new : Source} → SameSource old new
      → {contest : List ℕ} {hub : Hub} {conns : Slab Conn} {sockets : AllSockets}
      → AnswersFromLog limits log contest (screen_side old.answers.shown.mirror old.answers.blank.mirror hub conns) sockets
      → AnswersFromLog limits log contest (screen_side new.answers.shown.mirror new.answers.blank.mirror hub conns) sockets
  same_shows {old} {new} same {contest} {hub} {conns} {sockets} shows =
      subst (λ m. AnswersFromLog limits log contest (screen_side m new.answers.blank.mirror hub conns) sockets) (sym same.shown)
      (subst (λ m. AnswersFromLog limits log contest (screen_side old.answers.shown.mirror m hub conns) sockets) (sym same.blank) shows)

-- the same mirror follows
pub same_followed : {before after : Option MirrorState} {old new : MirrorState} → after ≡ before → new ≡ old → following_mirror after new ≡ following_mirror before old
same_followed {before} {after} {old} {new} coming shown = ap (λ c. following_mirror c new) coming ∙ ap (λ s. following_mirror before s) shown

-- the exchanges were known before
pub known_before : (f : List Exchange → List Exchange) (before after : Exchanges) → after ≡ option_map f before → IsSome after → IsSome before
known_before f None after is known = subst (λ e. IsSome e) is known
known_before f (Some before) after is known = refl

-- so they are where it is noted what is shown from here on
pub known_begun : (coming : Option MirrorState) (before after : Exchanges)
    → after ≡ (if is_none coming then option_map (shown_so all_from 0) before else before) → IsSome after → IsSome before
known_begun None before after is known = known_before (shown_so all_from 0) before after is known
known_begun (Some coming) before after is known = subst (λ e. IsSome e) is known

module _ (limits : Limits) (log : Log) (servers : Servers) where
  -- honest exchanges are known
  pub known_of : (exchanges : Exchanges) → AreKnownHonest limits log servers exchanges → IsSome exchanges
  known_of None honest = absurd honest
  known_of (Some exchanges) honest = refl

  -- those before the latest one are honest, too
  before_honest : (exchanges : Exchanges) (latest : Exchange) (before : List Exchange) → exchanges ≡ Some (latest ∷ before) → AreKnownHonest limits log servers exchanges → AreHonest limits log servers before
  before_honest exchanges latest before is honest =
      let all : AreKnownHonest limits log servers (Some (latest ∷ before)) = subst (λ e. AreKnownHonest limits log servers e) is honest in all.1

  -- all that is followed may be written in another way
  pub follows_as : (exchanges : Exchanges) {is_shown is_shown_new : Bool} {reach reach_new : Reach} {request request_new unread unread_new : List ℕ} {follower follower_new : Option FollowerState} {mirror mirror_new : MirrorState}
      → is_shown_new ≡ is_shown → request_new ≡ request → unread_new ≡ unread → reach_new ≡ reach → follower_new ≡ follower → mirror_new ≡ mirror
      → MayFollow limits log servers exchanges (pursuit is_shown reach request unread follower mirror)
      → MayFollow limits log servers exchanges (pursuit is_shown_new reach_new request_new unread_new follower_new mirror_new)
  follows_as exchanges {is_shown} {is_shown_new} {reach} {reach_new} {request} {request_new} {unread} {unread_new} {follower} {follower_new} {mirror} {mirror_new} shown_is request_is unread_is reach_is follower_is mirror_is follows =
      subst (λ s. MayFollow limits log servers exchanges (pursuit s reach_new request_new unread_new follower_new mirror_new)) (sym shown_is)
      (subst (λ m. MayFollow limits log servers exchanges (pursuit is_shown reach_new request_new unread_new follower_new m)) (sym mirror_is)
      (subst (λ f. MayFollow limits log servers exchanges (pursuit is_shown reach_new request_new unread_new f mirror)) (sym follower_is)
      (subst (λ u. MayFollow limits log servers exchanges (pursuit is_shown reach_new request_new u follower mirror)) (sym unread_is)
      (subst (λ r. MayFollow limits log servers exchanges (pursuit is_shown reach_new r unread follower mirror)) (sym request_is)
      (subst (λ r. MayFollow limits log servers exchanges (pursuit is_shown r request unread follower mirror)) (sym reach_is) follows)))))

  -- it is followed as before
  pub same_follows : {old new : Source} → SameSource old new
      → (exchanges : Exchanges) (unread left : List ℕ) → left ≡ unread
      → MayFollow limits log servers exchanges (pursuit_of old unread)
      → MayFollow limits log servers exchanges (pursuit_of new left)
  same_follows {old} {new} same exchanges unread left rest follows =
      follows_as exchanges (ap is_none same.coming) same.request rest same.reach same.follower (same_followed same.coming same.shown) follows

  -- ---- a server is left

  pub left_shows : {old new : Source} {before after : Exchanges} → WasLeft old new before after
      → {contest : List ℕ} {hub : Hub} {conns : Slab Conn} {sockets : AllSockets}
      → AnswersFromLog limits log contest (screen_side old.answers.shown.mirror old.answers.blank.mirror hub conns) sockets
      → AnswersFromLog limits log contest (screen_side new.answers.shown.mirror new.answers.blank.mirror hub conns) sockets
  left_shows left shows =
      shows_at limits log left.limits (subst (λ n. IsInLog limits log n) (sym left.node) shows.shown_is) left.blank shows

  pub left_honest : {old new : Source} {before after : Exchanges} → WasLeft old new before after
      → AreKnownHonest limits log servers after → AreKnownHonest limits log servers before
  left_honest left honest = subst (λ e. AreKnownHonest limits log servers e) left.exchanges honest

  pub left_follows : {old new : Source} {before after : Exchanges} → WasLeft old new before after
      → (request unread : List ℕ) (mirror : MirrorState)
      → MayFollow limits log servers after (pursuit (is_none new.coming) new.reach request unread new.upstream.follower mirror)
  left_follows {old} {new} {before} {after} left request unread mirror =
      subst (λ f. MayFollow limits log servers after (pursuit (is_none new.coming) new.reach request unread f mirror)) (sym left.follower) left.reach

  -- ---- what is shown is noted

  as_first : (begun : MirrorState) (received : List ℕ) (shown now : Shown) → IsHonestAs limits log begun (shown_first shown now) received → IsHonestAs limits log begun shown received
  as_first begun received nothing_shown now honest = tt
  as_first begun received (once_at count) now honest = honest
  as_first begun received (all_from least) now honest = honest

  pub shown_so_honest : (how : ℕ → Shown) (unread : ℕ) (before after : Exchanges) → after ≡ option_map (shown_so how unread) before
      → AreKnownHonest limits log servers after → AreKnownHonest limits log servers before
  shown_so_honest how unread None after is honest = subst (λ e. AreKnownHonest limits log servers e) is honest
  shown_so_honest how unread (Some []) after is honest = subst (λ e. AreKnownHonest limits log servers e) is honest
  shown_so_honest how unread (Some (e ∷ es)) after is honest =
      let there = subst (λ e. AreKnownHonest limits log servers e) is honest in
      (λ begun text more asks is_request asked. as_first begun e.received e.shown (how (length e.received - unread)) (there.0 begun text more asks is_request asked), there.1)

  -- ---- a connection is begun

  -- what comes to the mirror that is shown is shown from the first byte on
  pub begun_honest : (coming : Option MirrorState) (before after : Exchanges)
      → after ≡ (if is_none coming then option_map (shown_so all_from 0) before else before)
      → AreKnownHonest limits log servers after → AreKnownHonest limits log servers before
  begun_honest None before after is honest = shown_so_honest all_from 0 before after is honest
  begun_honest (Some coming) before after is honest = subst (λ e. AreKnownHonest limits log servers e) is honest

  pub one_more_honest : (server : ℕ) (before after : Exchanges) → after ≡ option_map (one_more server) before
      → AreKnownHonest limits log servers after → AreKnownHonest limits log servers before
  one_more_honest server None after is honest = subst (λ e. AreKnownHonest limits log servers e) is honest
  one_more_honest server (Some before) after is honest = (subst (λ e. AreKnownHonest limits log servers e) is honest).1

  asks_at : (since : Option (List ℕ)) (node : NodeState) → IfSome since (λ token. published_token node ≡ Some token)
      → since ≡ (if is_none since then None else published_token node)
  asks_at None node _ = refl
  asks_at (Some token) node is = sym is

  asks_in_log : (mirror : MirrorState) → mirror.limits ≡ limits → IsInLog limits log mirror.node
      → IfSome mirror.since (λ token. published_token mirror.node ≡ Some token) → AsksInLog limits log mirror
  asks_in_log mirror bounds (place, is_place, is) since =
      record {
        place = place;
        is_place = is_place;
        asks = record {
          limits_are = bounds;
          opening = ap (λ n. record { before = n; fresh = is_none mirror.since }) is;
          since = subst (λ n. mirror.since ≡ (if is_none mirror.since then None else published_token n)) is (asks_at mirror.since mirror.node since);
        };
      }

  pub begun_follows : (coming : Option MirrorState) (server : ℕ) (request : List ℕ) (before begun after : Exchanges) (since : ℕ) (follower : Option FollowerState) (mirror : MirrorState)
      → begun ≡ option_map (one_more server) before → after ≡ (if is_none coming then option_map (shown_so all_from 0) begun else begun)
      → IsSome after
      → (AreKnownHonest limits log servers before → (mirror.limits ≡ limits) × IsInLog limits log mirror.node)
      → IfSome mirror.since (λ token. published_token mirror.node ≡ Some token)
      → IsRequestOf servers server mirror request → IsFollowing mirror [] in_head follower mirror
      → MayFollow limits log servers after (pursuit (is_none coming) (Connects since) request [] follower mirror)
  begun_follows coming server request before begun after since None mirror is noted known at asks is_request following = absurd following
  begun_follows coming server request None begun after since (Some follower) mirror is noted known at asks is_request following =
      let wrong : false ≡ true = subst (λ e. IsSome e) is (known_begun coming begun after noted known) in absurd (cc)
  begun_follows None server request (Some before) begun after since (Some follower) mirror is noted known at asks is_request following =
      record {
        start = mirror;
        is_request = is_request;
        latest = record { server = server; asked = []; received = []; shown = all_from 0 };
        before = before;
        exchanges_are = noted ∙ ap (λ e. option_map (shown_so all_from 0) e) is;
        asks = λ honest. asks_in_log mirror (at honest).0 (at honest).1 asks;
        asked = refl;
        bytes = [];
        received = refl;
        standing = in_head;
        follows = following;
        shown = omega arith;
      }
  begun_follows (Some coming) server request (Some before) begun after since (Some follower) mirror is noted known at asks is_request following =
      record {
        start = mirror;
        is_request = is_request;
        latest = record { server = server; asked = []; received = []; shown = nothing_shown };
        before = before;
        exchanges_are = noted ∙ is;
        asks = λ honest. asks_in_log mirror (at honest).0 (at honest).1 asks;
        asked = refl;
        bytes = [];
        received = refl;
        standing = in_head;
        follows = following;
        shown = refl;
      }

  -- what may be asked with: what is shown, or a mirror that begins afresh
  pub begins_in_log : (coming : Option MirrorState) (shown : MirrorState) → IfSome coming (λ mirror. mirror ≡ new_mirror shown.limits)
      → shown.limits ≡ limits → IsInLog limits log shown.node → ((following_mirror coming shown).limits ≡ limits) × IsInLog limits log (following_mirror coming shown).node
  begins_in_log None shown is bounds at = (bounds, at)
  begins_in_log (Some mirror) shown is bounds at = (ap (λ m. m.limits) is ∙ bounds, subst (λ m. IsInLog limits log m.node) (sym is) (None, tt, refl))

  -- ---- more is asked

  asked_honest : (bytes : List ℕ) (e : Exchange) → IsHonest limits log servers (record { server = e.server; asked = e.asked ++ bytes; received = e.received; shown = e.shown }) → IsHonest limits log servers e
  asked_honest bytes e honest =
      λ begun text more asks is_request is. honest begun text (more ++ bytes) asks is_request (ap (λ a. a ++ bytes) is ∙ append_assoc text more bytes)

  pub asked_more_honest : (bytes : List ℕ) (before after : Exchanges) → after ≡ option_map (asked_more bytes) before
      → AreKnownHonest limits log servers after → AreKnownHonest limits log servers before
  asked_more_honest bytes None after is honest = subst (λ e. AreKnownHonest limits log servers e) is honest
  asked_more_honest bytes (Some []) after is honest = subst (λ e. AreKnownHonest limits log servers e) is honest
  asked_more_honest bytes (Some (e ∷ es)) after is honest =
      let there = subst (λ e. AreKnownHonest limits log servers e) is honest in
      (asked_honest bytes e there.0, there.1)

  take_more : (count more : ℕ) (xs : List ℕ) → take count xs ++ take more (drop count xs) ≡ take (count + more) xs
  take_more count more xs =
      let front : take count (take (count + more) xs) ≡ take count xs = take-take count (count + more) xs (omega arith) in
      ap (λ f. f ++ take more (drop count xs)) (sym front) ∙ ap (λ b. take count (take (count + more) xs) ++ b) (sym (drop-take count more xs))
      ∙ take-append-drop count (take (count + more) xs)

  pub asks_follows : (is_shown : Bool) (request unread rest : List ℕ) (before after : Exchanges) (count more : ℕ) (follower : Option FollowerState) (mirror : MirrorState)
      → after ≡ option_map (asked_more (take more rest)) before → rest ≡ drop count request
      → MayFollow limits log servers before (pursuit is_shown (Asks count) request unread follower mirror)
      → MayFollow limits log servers after (pursuit is_shown (Asks (count + more)) request unread follower mirror)
  asks_follows is_shown request unread rest before after count more None mirror is here follows = absurd (no_away follows)
    where
      no_away : Asks count ≡ Away → ⊥
      no_away e = cc
  asks_follows is_shown request unread rest before after count more (Some follower) mirror is here follows =
      record {
        start = follows.start;
        asks = follows.asks;
        is_request = follows.is_request;
        latest = record { server = follows.latest.server; asked = follows.latest.asked ++ take more rest; received = follows.latest.received; shown = follows.latest.shown };
        before = follows.before;
        exchanges_are = is ∙ ap (λ e. option_map (asked_more (take more rest)) e) follows.exchanges_are;
        asked = ap (λ a. a ++ take more rest) follows.asked ∙ ap (λ r. take count request ++ take more r) here ∙ take_more count more request;
        bytes = follows.bytes;
        received = follows.received;
        standing = follows.standing;
        follows = follows.follows;
        shown = follows.shown;
      }

  take_whole : (count : ℕ) (xs : List ℕ) → [] ≡ drop count xs → take count xs ≡ xs
  take_whole count xs none = sym (append-nil (take count xs)) ∙ ap (λ b. take count xs ++ b) none ∙ take-append-drop count xs

  -- all was asked
  pub asked_follows : (is_shown : Bool) (request unread rest : List ℕ) (exchanges : Exchanges) (count : ℕ) (follower : Option FollowerState) (mirror : MirrorState)
      → rest ≡ [] → rest ≡ drop count request
      → MayFollow limits log servers exchanges (pursuit is_shown (Asks count) request unread follower mirror)
      → MayFollow limits log servers exchanges (pursuit is_shown Reads request unread follower mirror)
  asked_follows is_shown request unread rest exchanges count None mirror none here follows = absurd (no_away follows)
    where
      no_away : Asks count ≡ Away → ⊥
      no_away e = cc
  asked_follows is_shown request unread rest exchanges count (Some follower) mirror none here follows =
      record {
        start = follows.start;
        asks = follows.asks;
        is_request = follows.is_request;
        latest = follows.latest;
        before = follows.before;
        exchanges_are = follows.exchanges_are;
        asked = follows.asked ∙ take_whole count request (sym none ∙ here);
        bytes = follows.bytes;
        received = follows.received;
        standing = follows.standing;
        follows = follows.follows;
        shown = follows.shown;
      }

  -- the connection is open, and nothing is asked yet
  pub opens_follows : (is_shown : Bool) (request unread : List ℕ) (exchanges : Exchanges) (since : ℕ) (follower : Option FollowerState) (mirror : MirrorState)
      → MayFollow limits log servers exchanges (pursuit is_shown (Connects since) request unread follower mirror)
      → MayFollow limits log servers exchanges (pursuit is_shown (Asks 0) request unread follower mirror)
  opens_follows is_shown request unread exchanges since None mirror follows = absurd (no_away follows)
    where
      no_away : Connects since ≡ Away → ⊥
      no_away e = cc
  opens_follows is_shown request unread exchanges since (Some follower) mirror follows =
      record {
        start = follows.start;
        asks = follows.asks;
        is_request = follows.is_request;
        latest = follows.latest;
        before = follows.before;
        exchanges_are = follows.exchanges_are;
        asked = follows.asked;
        bytes = follows.bytes;
        received = follows.received;
        standing = follows.standing;
        follows = follows.follows;
        shown = follows.shown;
      }

  -- ---- more is received

  received_stays : {begun : MirrorState} (least : ℕ) (more bytes : List ℕ) → StaysInLog limits log begun least (bytes ++ more) → StaysInLog limits log begun least bytes
  received_stays least more bytes stays =
      record {
        shows = λ before behind standing follower mirror is. stays.shows before (behind ++ more) standing follower mirror (sym (append_assoc before behind more) ∙ ap (λ b. b ++ more) is);
        fails = λ before piece behind mirror fault is.
            stays.fails before piece (behind ++ more) mirror fault (sym (append_assoc (before ++ piece) behind more) ∙ ap (λ b. b ++ more) is);
      }

  received_ends : {begun : MirrorState} (count : ℕ) (more bytes : List ℕ) → EndsInLog log begun count (bytes ++ more) → EndsInLog log begun count bytes
  received_ends count more bytes ends =
      record {
        shows = λ before behind standing follower mirror is. ends.shows before (behind ++ more) standing follower mirror (sym (append_assoc before behind more) ∙ ap (λ b. b ++ more) is);
        fails = λ before piece behind mirror fault is.
            ends.fails before piece (behind ++ more) mirror fault (sym (append_assoc (before ++ piece) behind more) ∙ ap (λ b. b ++ more) is);
      }

  received_as : (begun : MirrorState) (shown : Shown) (more bytes : List ℕ) → IsHonestAs limits log begun shown (bytes ++ more) → IsHonestAs limits log begun shown bytes
  received_as begun nothing_shown more bytes honest = tt
  received_as begun (once_at count) more bytes honest = received_ends count more bytes honest
  received_as begun (all_from least) more bytes honest = received_stays least more bytes honest

  pub received_more_honest : (bytes : List ℕ) (before after : Exchanges) → after ≡ option_map (received_more bytes) before
      → AreKnownHonest limits log servers after → AreKnownHonest limits log servers before
  received_more_honest bytes None after is honest = subst (λ e. AreKnownHonest limits log servers e) is honest
  received_more_honest bytes (Some []) after is honest = subst (λ e. AreKnownHonest limits log servers e) is honest
  received_more_honest bytes (Some (e ∷ es)) after is honest =
      let there = subst (λ e. AreKnownHonest limits log servers e) is honest in
      (λ begun text more asks is_request asked. received_as begun e.shown bytes e.received (there.0 begun text more asks is_request asked), there.1)

  pub reads_follows : (is_shown : Bool) (reach : Reach) (request bytes : List ℕ) (before after : Exchanges) (follower : Option FollowerState) (mirror : MirrorState)
      → after ≡ option_map (received_more bytes) before
      → MayFollow limits log servers before (pursuit is_shown reach request [] follower mirror)
      → MayFollow limits log servers after (pursuit is_shown reach request bytes follower mirror)
  reads_follows is_shown reach request bytes before after None mirror is follows = follows
  reads_follows is_shown reach request bytes before after (Some follower) mirror is follows =
      record {
        start = follows.start;
        asks = follows.asks;
        is_request = follows.is_request;
        latest = record { server = follows.latest.server; asked = follows.latest.asked; received = follows.latest.received ++ bytes; shown = follows.latest.shown };
        before = follows.before;
        exchanges_are = is ∙ ap (λ e. option_map (received_more bytes) e) follows.exchanges_are;
        asked = follows.asked;
        bytes = follows.bytes;
        received = ap (λ r. r ++ bytes) (follows.received ∙ append-nil follows.bytes);
        standing = follows.standing;
        follows = follows.follows;
        shown = follows.shown;
      }

  -- ---- what came is taken

  longer : (n : ℕ) (xs ys : List ℕ) → n ≤ length xs → n ≤ length (xs ++ ys)
  longer n xs ys le = let e = length-append xs ys in omega (arith, e)

  later_shown : (is_shown : Bool) (shown : Shown) (xs ys : List ℕ) → IsShownSo is_shown shown (length xs) → IsShownSo is_shown shown (length (xs ++ ys))
  later_shown false shown xs ys is = is
  later_shown true (all_from least) xs ys is = longer least xs ys is
  later_shown true (once_at count) xs ys is = is
  later_shown true nothing_shown xs ys is = is

  -- the mirror that is shown stays in the log from some byte on
  record StaysFrom (start : MirrorState) (count : ℕ) (bytes : List ℕ) : Type 0 where
    pub least : ℕ
    pub within : least ≤ count
    pub stays : StaysInLog limits log start least bytes

  stays_from : {start : MirrorState} (shown : Shown) (count : ℕ) (received bytes : List ℕ) → received ≡ bytes → IsShownSo true shown count → IsHonestAs limits log start shown received → StaysFrom start count bytes
  stays_from {start} (all_from least) count received bytes is so honest = record { least = least; within = so; stays = subst (λ b. StaysInLog limits log start least b) is honest }
  stays_from (once_at at) count received bytes is so honest = absurd so
  stays_from nothing_shown count received bytes is so honest = absurd so

  -- what is followed and shown stays in the log, since the exchange is honest
  stays_in_log : {is_shown : Bool} (request unread : List ℕ) (exchanges : Exchanges) (follower : FollowerState) (mirror : MirrorState) → is_shown ≡ true
      → AreKnownHonest limits log servers exchanges → (follows : FollowsResponse limits log servers exchanges (pursuit is_shown Reads request unread (Some follower) mirror) follower)
      → StaysFrom follows.start (length follows.bytes) (follows.bytes ++ unread)
  stays_in_log request unread exchanges follower mirror is honest follows =
      let all : AreKnownHonest limits log servers (Some (follows.latest ∷ follows.before)) = subst (λ e. AreKnownHonest limits log servers e) follows.exchanges_are honest in
      stays_from follows.latest.shown (length follows.bytes) follows.latest.received (follows.bytes ++ unread) follows.received
      (subst (λ b. IsShownSo b follows.latest.shown (length follows.bytes)) is follows.shown)
      (all.0 follows.start request [] (follows.asks all.1) follows.is_request (follows.asked ∙ sym (append-nil request)))

  -- a push that goes on, where a response is followed then
  abbrev GoesOnSo : MirrorState → List ℕ → Option FollowerState → MirrorState → Progress → Type 0
  GoesOnSo start bytes None mirror progress = ⊥
  GoesOnSo start bytes (Some follower) mirror progress = GoesOn start bytes follower mirror progress

  goes_on : (start : MirrorState) (bytes : List ℕ) (follower : Option FollowerState) (mirror : MirrorState) (progress : Progress)
      → (progress ≡ reached.TokenRefused → ⊥) → IsPushed start bytes follower mirror progress → GoesOnSo start bytes follower mirror progress
  goes_on start bytes None mirror progress on pushed = pushed
  goes_on start bytes (Some follower) mirror reached.Head on pushed = pushed
  goes_on start bytes (Some follower) mirror reached.Body on pushed = pushed
  goes_on start bytes (Some follower) mirror reached.Done on pushed = pushed
  goes_on start bytes (Some follower) mirror reached.TokenRefused on pushed = absurd (on refl)

  pub taken : {is_shown : Bool} (request line next : List ℕ) (exchanges : Exchanges) (old new : Option FollowerState) (before after : MirrorState) (progress : Progress)
      → (progress ≡ reached.TokenRefused → ⊥)
      → ((start : MirrorState) (bytes : List ℕ) (standing : Standing) → IsFollowing start bytes standing old before → IsPushed start (bytes ++ line) new after progress)
      → MayFollow limits log servers exchanges (pursuit is_shown Reads request (line ++ next) old before)
      → IsTaken limits log servers is_shown request next exchanges new after
  taken request line next exchanges None new before after progress on push follows = absurd (no_away follows)
    where
      no_away : Reads ≡ Away → ⊥
      no_away e = cc
  taken {is_shown} request line next exchanges (Some follower) new before after progress on push follows =
      by new (goes_on follows.start (follows.bytes ++ line) new after progress on (push follows.start follows.bytes follows.standing follows.follows))
    where
      by : (now : Option FollowerState) → GoesOnSo follows.start (follows.bytes ++ line) now after progress → IsTaken limits log servers is_shown request next exchanges now after
      by None goes = absurd goes
      by (Some now) goes =
          record {
            at = λ honest is.
                let st = stays_in_log request (line ++ next) exchanges follower before is honest follows in
                st.stays.shows (follows.bytes ++ line) next goes.0 now after (append_assoc follows.bytes line next) (longer st.least follows.bytes line st.within) goes.2;
            follows = record {
              start = follows.start;
              asks = follows.asks;
              is_request = follows.is_request;
              latest = follows.latest;
              before = follows.before;
              exchanges_are = follows.exchanges_are;
              asked = follows.asked;
              bytes = follows.bytes ++ line;
              received = follows.received ∙ sym (append_assoc follows.bytes line next);
              standing = goes.0;
              follows = goes.2;
              shown = later_shown is_shown follows.latest.shown follows.bytes line follows.shown;
            };
          }

  -- the token was refused: the mirror stays where it was
  pub refused_at : {is_shown : Bool} (request line next : List ℕ) (exchanges : Exchanges) (old new : Option FollowerState) (before after : MirrorState) (progress : Progress)
      → progress ≡ reached.TokenRefused
      → ((start : MirrorState) (bytes : List ℕ) (standing : Standing) → IsFollowing start bytes standing old before → IsPushed start (bytes ++ line) new after progress)
      → AreKnownHonest limits log servers exchanges → MayFollow limits log servers exchanges (pursuit is_shown Reads request (line ++ next) old before)
      → is_shown ≡ true → IsInLog limits log after.node
  refused_at request line next exchanges None new before after progress is push honest follows shown = absurd (no_away follows)
    where
      no_away : Reads ≡ Away → ⊥
      no_away e = cc
  refused_at request line next exchanges (Some follower) new before after progress is push honest follows shown =
      by new (subst (λ p. IsPushed follows.start (follows.bytes ++ line) new after p) is (push follows.start follows.bytes follows.standing follows.follows))
    where
      by : (now : Option FollowerState) → IsPushed follows.start (follows.bytes ++ line) now after reached.TokenRefused → IsInLog limits log after.node
      by None pushed = absurd pushed
      by (Some now) pushed =
          let st = stays_in_log request (line ++ next) exchanges follower before shown honest follows in
          st.stays.shows (follows.bytes ++ line) next _ now (refused_off after) (append_assoc follows.bytes line next) (longer st.least follows.bytes line st.within) pushed.1

  -- a fault
  pub failed_at : {is_shown : Bool} (request line next : List ℕ) (exchanges : Exchanges) (old : Option FollowerState) (before after : MirrorState) (fault : FollowFault)
      → ((start : MirrorState) (bytes : List ℕ) (standing : Standing) → IsFollowing start bytes standing old before
      → (had_token : Bool) × (had_token ≡ is_some start.since) × Fails start had_token bytes line after fault)
      → AreKnownHonest limits log servers exchanges → MayFollow limits log servers exchanges (pursuit is_shown Reads request (line ++ next) old before)
      → is_shown ≡ true → IsInLog limits log after.node
  failed_at request line next exchanges None before after fault fail honest follows shown = absurd (no_away follows)
    where
      no_away : Reads ≡ Away → ⊥
      no_away e = cc
  failed_at request line next exchanges (Some follower) before after fault fail honest follows shown =
      let failed = fail follows.start follows.bytes follows.standing follows.follows in
      let st = stays_in_log request (line ++ next) exchanges follower before shown honest follows in
      st.stays.fails follows.bytes line next after fault (append_assoc follows.bytes line next) (has_read st.least follows.bytes line fault st.within)
      (subst (λ had. Fails follows.start had follows.bytes line after fault) failed.1 failed.2)

  -- ---- whole states: what is shown and what is followed, as long as all was honest

  -- the screens changed, and are served as before
  pub with_screens : (exchanges : Exchanges) {contest : List ℕ} {X : Type 0} {shown blank : MirrorState} {hub hub_new : Hub} {conns conns_new : Slab Conn} {sockets sockets_new : AllSockets}
      → (AnswersFromLog limits log contest (screen_side shown blank hub conns) sockets → ServesScreens (states_of limits log) contest hub conns sockets → ServesScreens (states_of limits log) contest hub_new conns_new sockets_new)
      → (AreKnownHonest limits log servers exchanges → AnswersFromLog limits log contest (screen_side shown blank hub conns) sockets) × X
      → (AreKnownHonest limits log servers exchanges → AnswersFromLog limits log contest (screen_side shown blank hub_new conns_new) sockets_new) × X
  with_screens exchanges still follows = (λ honest. let here = follows.0 honest in shows_still limits log (still here) here, follows.1)

  -- what is followed and shown is the same
  pub with_same : {contest : List ℕ} {old new : Source} → SameSource old new
      → (exchanges : Exchanges) {hub : Hub} {conns : Slab Conn} {sockets : AllSockets} (unread left : List ℕ) → left ≡ unread
      → (AreKnownHonest limits log servers exchanges → AnswersFromLog limits log contest (screen_side old.answers.shown.mirror old.answers.blank.mirror hub conns) sockets)
      × (IsSome exchanges → MayFollow limits log servers exchanges (pursuit_of old unread))
      → (AreKnownHonest limits log servers exchanges → AnswersFromLog limits log contest (screen_side new.answers.shown.mirror new.answers.blank.mirror hub conns) sockets)
      × (IsSome exchanges → MayFollow limits log servers exchanges (pursuit_of new left))
  with_same same exchanges unread left rest follows = (λ honest. same_shows limits log same (follows.0 honest), λ known. same_follows same exchanges unread left rest (follows.1 known))

  -- the server is left
  pub with_left : {contest : List ℕ} {old new : Source} {before after : Exchanges} → WasLeft old new before after
      → {hub : Hub} {conns : Slab Conn} {sockets : AllSockets} (unread : List ℕ)
      → (AreKnownHonest limits log servers before → AnswersFromLog limits log contest (screen_side old.answers.shown.mirror old.answers.blank.mirror hub conns) sockets)
      → (AreKnownHonest limits log servers after → AnswersFromLog limits log contest (screen_side new.answers.shown.mirror new.answers.blank.mirror hub conns) sockets)
      × (IsSome after → MayFollow limits log servers after (pursuit_of new unread))
  with_left {old} {new} left unread shows =
      (λ honest. left_shows left (shows (left_honest left honest)), λ known. left_follows left new.request.items unread (followed_by new))

  -- what is unread is this
  pub with_unread : {X : Type 0} (is_shown : Bool) (exchanges : Exchanges) (reach : Reach) (request : List ℕ) (follower : Option FollowerState) (mirror : MirrorState) {unread other : List ℕ} → other ≡ unread
      → X × (IsSome exchanges → MayFollow limits log servers exchanges (pursuit is_shown reach request unread follower mirror))
      → X × (IsSome exchanges → MayFollow limits log servers exchanges (pursuit is_shown reach request other follower mirror))
  with_unread is_shown exchanges reach request follower mirror is follows =
      (follows.0, λ known. subst (λ u. MayFollow limits log servers exchanges (pursuit is_shown reach request u follower mirror)) (sym is) (follows.1 known))

  -- what is kept changed alone
  pub with_kept : {contest : List ℕ} {hub : Hub} {conns : Slab Conn} {sockets : AllSockets} {old new : Source} → SameButUnread old new
      → (exchanges : Exchanges) (unread left : List ℕ) → left ≡ unread
      → (AreKnownHonest limits log servers exchanges → AnswersFromLog limits log contest (screen_side old.answers.shown.mirror old.answers.blank.mirror hub conns) sockets)
      × (IsSome exchanges → MayFollow limits log servers exchanges (pursuit_of old unread))
      → (AreKnownHonest limits log servers exchanges → AnswersFromLog limits log contest (screen_side new.answers.shown.mirror new.answers.blank.mirror hub conns) sockets)
      × (IsSome exchanges → MayFollow limits log servers exchanges (pursuit_of new left))
  with_kept {contest} {hub} {conns} {sockets} {old} {new} same exchanges unread left rest follows = (
    λ honest. subst (λ a. AnswersFromLog limits log contest (screen_side a.shown.mirror a.blank.mirror hub conns) sockets) (sym same.answers) (follows.0 honest),
    λ known. follows_as exchanges (ap is_none same.coming) (ap (λ r. r.items) same.request) rest same.reach (ap (λ u. u.follower) same.upstream) (same_followed same.coming (ap (λ a. a.shown.mirror) same.answers)) (follows.1 known),
  )

  -- ---- bytes come to the mirror that follows

  -- what follows is at a place of the log then: so is what is shown
  shown_after : (coming now : Option MirrorState) {contest : List ℕ} {hub : Hub} {conns : Slab Conn} {sockets : AllSockets} (old new blank blank_new : MirrorState)
      → KeepsShown coming now old new → (following_mirror now new).limits ≡ (following_mirror coming old).limits → (is_none coming ≡ true → IsInLog limits log (following_mirror now new).node) → blank_new ≡ blank
      → AnswersFromLog limits log contest (screen_side old blank hub conns) sockets → AnswersFromLog limits log contest (screen_side new blank_new hub conns) sockets
  shown_after None now {contest} {hub} {conns} {sockets} old new blank blank_new keeps bounds at same shows =
      shows_at limits log (subst (λ n. (following_mirror n new).limits ≡ old.limits) keeps bounds) (subst (λ n. IsInLog limits log (following_mirror n new).node) keeps (at refl)) same shows
  shown_after (Some coming) now {contest} {hub} {conns} {sockets} old new blank blank_new keeps bounds at same shows =
      shows_at limits log (ap (λ m. m.limits) keeps) (subst (λ m. IsInLog limits log m.node) (sym keeps) shows.shown_is) same shows

  pub with_shown : (exchanges : Exchanges) {contest : List ℕ} {hub : Hub} {conns : Slab Conn} {sockets : AllSockets} {old new : Source} → PushesOnly old new
      → (AreKnownHonest limits log servers exchanges → is_none old.coming ≡ true → IsInLog limits log (followed_by new).node)
      → (AreKnownHonest limits log servers exchanges → AnswersFromLog limits log contest (screen_side old.answers.shown.mirror old.answers.blank.mirror hub conns) sockets)
      → AreKnownHonest limits log servers exchanges → AnswersFromLog limits log contest (screen_side new.answers.shown.mirror new.answers.blank.mirror hub conns) sockets
  with_shown exchanges {old = old} {new = new} only at shows honest =
      shown_after old.coming new.coming old.answers.shown.mirror new.answers.shown.mirror old.answers.blank.mirror new.answers.blank.mirror only.shown only.limits (at honest) only.blank (shows honest)

  -- what came is taken: a push goes on
  pub with_taken : (exchanges : Exchanges) {contest : List ℕ} {hub : Hub} {conns : Slab Conn} {sockets : AllSockets} {old new : Source} (line next : List ℕ) (progress : Progress)
      → old.reach ≡ Reads → PushesOnly old new → (progress ≡ reached.TokenRefused → ⊥)
      → ((start : MirrorState) (bytes : List ℕ) (standing : Standing) → IsFollowing start bytes standing old.upstream.follower (followed_by old) → IsPushed start (bytes ++ line) new.upstream.follower (followed_by new) progress)
      → (AreKnownHonest limits log servers exchanges → AnswersFromLog limits log contest (screen_side old.answers.shown.mirror old.answers.blank.mirror hub conns) sockets)
      × (IsSome exchanges → MayFollow limits log servers exchanges (pursuit_of old (line ++ next)))
      → (AreKnownHonest limits log servers exchanges → AnswersFromLog limits log contest (screen_side new.answers.shown.mirror new.answers.blank.mirror hub conns) sockets)
      × (IsSome exchanges → MayFollow limits log servers exchanges (pursuit_of new next))
  with_taken exchanges {old = old} {new = new} line next progress reads only on push follows = (
    with_shown exchanges only (λ honest. (is_taken (known_of exchanges honest)).at honest) follows.0,
    λ known. follows_as exchanges only.coming only.request refl (only.reach ∙ reads) refl refl (is_taken known).follows,
  )
    where
      is_taken : IsSome exchanges → IsTaken limits log servers (is_none old.coming) old.request.items next exchanges new.upstream.follower (followed_by new)
      is_taken known =
          taken old.request.items line next exchanges old.upstream.follower new.upstream.follower (followed_by old) (followed_by new) progress on push
          (subst (λ r. MayFollow limits log servers exchanges (pursuit (is_none old.coming) r old.request.items (line ++ next) old.upstream.follower (followed_by old))) reads (follows.1 known))

  -- or the token was refused
  pub with_refused : (exchanges : Exchanges) {contest : List ℕ} {hub : Hub} {conns : Slab Conn} {sockets : AllSockets} {old new : Source} (line next : List ℕ) (progress : Progress)
      → old.reach ≡ Reads → PushesOnly old new → progress ≡ reached.TokenRefused
      → ((start : MirrorState) (bytes : List ℕ) (standing : Standing) → IsFollowing start bytes standing old.upstream.follower (followed_by old) → IsPushed start (bytes ++ line) new.upstream.follower (followed_by new) progress)
      → (AreKnownHonest limits log servers exchanges → AnswersFromLog limits log contest (screen_side old.answers.shown.mirror old.answers.blank.mirror hub conns) sockets)
      × (IsSome exchanges → MayFollow limits log servers exchanges (pursuit_of old (line ++ next)))
      → AreKnownHonest limits log servers exchanges → AnswersFromLog limits log contest (screen_side new.answers.shown.mirror new.answers.blank.mirror hub conns) sockets
  with_refused exchanges {old = old} {new = new} line next progress reads only is push follows =
      with_shown exchanges only (λ honest. refused_at old.request.items line next exchanges old.upstream.follower new.upstream.follower (followed_by old) (followed_by new) progress is push honest
      (subst (λ r. MayFollow limits log servers exchanges (pursuit (is_none old.coming) r old.request.items (line ++ next) old.upstream.follower (followed_by old))) reads (follows.1 (known_of exchanges honest)))) follows.0

  -- or it failed
  pub with_failed : (exchanges : Exchanges) {contest : List ℕ} {hub : Hub} {conns : Slab Conn} {sockets : AllSockets} {old new : Source} (line next : List ℕ) (fault : FollowFault)
      → old.reach ≡ Reads → PushesOnly old new
      → ((start : MirrorState) (bytes : List ℕ) (standing : Standing) → IsFollowing start bytes standing old.upstream.follower (followed_by old)
      → (had_token : Bool) × (had_token ≡ is_some start.since) × Fails start had_token bytes line (followed_by new) fault)
      → (AreKnownHonest limits log servers exchanges → AnswersFromLog limits log contest (screen_side old.answers.shown.mirror old.answers.blank.mirror hub conns) sockets)
      × (IsSome exchanges → MayFollow limits log servers exchanges (pursuit_of old (line ++ next)))
      → AreKnownHonest limits log servers exchanges → AnswersFromLog limits log contest (screen_side new.answers.shown.mirror new.answers.blank.mirror hub conns) sockets
  with_failed exchanges {old = old} {new = new} line next fault reads only fail follows =
      with_shown exchanges only (λ honest. failed_at old.request.items line next exchanges old.upstream.follower (followed_by old) (followed_by new) fault fail honest
      (subst (λ r. MayFollow limits log servers exchanges (pursuit (is_none old.coming) r old.request.items (line ++ next) old.upstream.follower (followed_by old))) reads (follows.1 (known_of exchanges honest)))) follows.0

  -- ---- what came afresh is shown

  -- the limits of a mirror that follows stay
  pub limits_stay : {start : MirrorState} (bytes : List ℕ) (standing : Standing) {follower : FollowerState} {mirror : MirrorState} → FollowsAt start bytes standing follower mirror → mirror.limits ≡ start.limits
  limits_stay bytes in_head follows = ap (λ m. m.limits) follows.leaves
  limits_stay bytes token_refused follows = ap (λ m. m.limits) follows.leaves
  limits_stay bytes (in_body payload) follows = follows.leaves.limits
  limits_stay bytes (done payload) follows = follows.leaves.limits
  limits_stay bytes (failed BadChunk payload) follows = ap (λ m. m.limits) follows.leaves.state
  limits_stay bytes (failed fault payload) follows = ap (λ m. m.limits) follows.leaves

  counted : (bytes unread received : List ℕ) → received ≡ bytes ++ unread → length bytes ≡ length received - length unread
  counted bytes unread received is = let e : length received ≡ length bytes + length unread = ap length is ∙ length-append bytes unread in omega (arith, e)

  -- what was pushed last goes on, or failed: then so much of the response came
  module _ (start : MirrorState) (whole unread received : List ℕ) (received_is : received ≡ whole ++ unread) (mirror : MirrorState)
      (shows : (least : ℕ) → least ≤ length whole → StaysInLog limits log start least received → IsInLog limits log mirror.node)
      (ends : EndsInLog log start (length whole) received → IsOfLog log mirror.node.published) where
    once_so : (is_shown : Bool) (shown : Shown) → IsShownSo is_shown shown (length whole) → IsHonestAs limits log start (shown_first shown (once_at (length received - length unread))) received
        → IsOfLog log mirror.node.published
    once_so true (all_from least) so honest = of_log limits log mirror.node (shows least so honest)
    once_so true (once_at count) so honest = absurd so
    once_so true nothing_shown so honest = absurd so
    once_so false shown so honest =
        ends (subst (λ n. EndsInLog log start n received) (sym (counted whole unread received received_is))
        (subst (λ s. IsHonestAs limits log start (shown_first s (once_at (length received - length unread))) received) so honest))

    all_so : (is_shown : Bool) (shown : Shown) → IsShownSo is_shown shown (length whole) → IsHonestAs limits log start (shown_first shown (all_from (length received - length unread))) received
        → IsInLog limits log mirror.node
    all_so true (all_from least) so honest = shows least so honest
    all_so true (once_at count) so honest = absurd so
    all_so true nothing_shown so honest = absurd so
    all_so false shown so honest =
        let here : StaysInLog limits log start (length received - length unread) received = subst (λ s. IsHonestAs limits log start (shown_first s (all_from (length received - length unread))) received) so honest in
        let e = counted whole unread received received_is in
        shows (length received - length unread) (omega (arith, e)) here

  -- the latest exchange, with what is shown of it then
  latest_so : (how : ℕ → Shown) (unread : ℕ) (exchanges : Exchanges) (latest : Exchange) (before : List Exchange) → exchanges ≡ Some (latest ∷ before)
      → AreKnownHonest limits log servers (option_map (shown_so how unread) exchanges)
      → IsHonest limits log servers (record { server = latest.server; asked = latest.asked; received = latest.received; shown = shown_first latest.shown (how (length latest.received - unread)) })
  latest_so how unread exchanges latest before is honest =
      let there : AreKnownHonest limits log servers (option_map (shown_so how unread) (Some (latest ∷ before))) = subst (λ e. AreKnownHonest limits log servers (option_map (shown_so how unread) e)) is honest in
      there.0

  -- what follows may be shown
  pub follows_may_show : (is_shown : Bool) (reach : Reach) (request unread : List ℕ) (exchanges : Exchanges) (follower : Option FollowerState) (mirror : MirrorState) → reach ≡ Reads
      → (IsSome exchanges → MayFollow limits log servers exchanges (pursuit is_shown reach request unread follower mirror))
      → MayShow limits log servers (length unread) exchanges mirror
  follows_may_show is_shown reach request unread exchanges None mirror reads follows =
      record {
        once = λ honest. absurd (no_away (sym reads ∙ follows (known_of exchanges (shown_so_honest once_at (length unread) exchanges _ refl honest))));
        all = λ honest. absurd (no_away (sym reads ∙ follows (known_of exchanges (shown_so_honest all_from (length unread) exchanges _ refl honest))));
      }
    where
      no_away : Reads ≡ Away → ⊥
      no_away e = cc
  follows_may_show is_shown reach request unread exchanges (Some follower) mirror reads follows =
      record {
        once = λ honest.
            let earlier = shown_so_honest once_at (length unread) exchanges _ refl honest in
            let here = read (follows (known_of exchanges earlier)) in
            let asks = here.asks (before_honest exchanges here.latest here.before here.exchanges_are earlier) in (
              bounds here asks,
              once_so here.start here.bytes unread here.latest.received here.received mirror (shows here) (ends here) is_shown here.latest.shown here.shown
                  (latest_so once_at (length unread) exchanges here.latest here.before here.exchanges_are honest here.start request [] asks here.is_request (here.asked ∙ sym (append-nil request))),
            );
        all = λ honest.
            let earlier = shown_so_honest all_from (length unread) exchanges _ refl honest in
            let here = read (follows (known_of exchanges earlier)) in
            let asks = here.asks (before_honest exchanges here.latest here.before here.exchanges_are earlier) in (
              bounds here asks,
              all_so here.start here.bytes unread here.latest.received here.received mirror (shows here) (ends here) is_shown here.latest.shown here.shown
                  (latest_so all_from (length unread) exchanges here.latest here.before here.exchanges_are honest here.start request [] asks here.is_request (here.asked ∙ sym (append-nil request))),
            );
      }
    where
      read : FollowsResponse limits log servers exchanges (pursuit is_shown reach request unread (Some follower) mirror) follower → FollowsResponse limits log servers exchanges (pursuit is_shown Reads request unread (Some follower) mirror) follower
      read here = subst (λ r. FollowsResponse limits log servers exchanges (pursuit is_shown r request unread (Some follower) mirror) follower) reads here

      bounds : (here : FollowsResponse limits log servers exchanges (pursuit is_shown Reads request unread (Some follower) mirror) follower) → AsksInLog limits log here.start → mirror.limits ≡ limits
      bounds here asks = limits_stay here.bytes here.standing here.follows ∙ asks.asks.limits_are

      shows : (here : FollowsResponse limits log servers exchanges (pursuit is_shown Reads request unread (Some follower) mirror) follower) (least : ℕ) → least ≤ length here.bytes → StaysInLog limits log here.start least here.latest.received → IsInLog limits log mirror.node
      shows here least within stays = stays.shows here.bytes unread here.standing follower mirror (sym here.received) within here.follows

      ends : (here : FollowsResponse limits log servers exchanges (pursuit is_shown Reads request unread (Some follower) mirror) follower) → EndsInLog log here.start (length here.bytes) here.latest.received → IsOfLog log mirror.node.published
      ends here end = end.shows here.bytes unread here.standing follower mirror (sym here.received) refl here.follows

  -- so may what failed: what the good lines before that published
  pub failed_may_show : (is_shown : Bool) (reach : Reach) (request line next : List ℕ) (exchanges : Exchanges) (old : Option FollowerState) (before after : MirrorState) (fault : FollowFault) → wants_memory fault ≡ false → reach ≡ Reads
      → after.limits ≡ before.limits
      → ((start : MirrorState) (bytes : List ℕ) (standing : Standing) → IsFollowing start bytes standing old before
      → (had_token : Bool) × (had_token ≡ is_some start.since) × Fails start had_token bytes line after fault)
      → (IsSome exchanges → MayFollow limits log servers exchanges (pursuit is_shown reach request (line ++ next) old before))
      → MayShow limits log servers (length next) exchanges after
  failed_may_show is_shown reach request line next exchanges None before after fault bytes_fail reads same fail follows =
      record {
        once = λ honest. absurd (no_away (sym reads ∙ follows (known_of exchanges (shown_so_honest once_at (length next) exchanges _ refl honest))));
        all = λ honest. absurd (no_away (sym reads ∙ follows (known_of exchanges (shown_so_honest all_from (length next) exchanges _ refl honest))));
      }
    where
      no_away : Reads ≡ Away → ⊥
      no_away e = cc
  failed_may_show is_shown reach request line next exchanges (Some follower) before after fault bytes_fail reads same fail follows =
      record {
        once = λ honest.
            let earlier = shown_so_honest once_at (length next) exchanges _ refl honest in
            let here = read (follows (known_of exchanges earlier)) in
            let asks = here.asks (before_honest exchanges here.latest here.before here.exchanges_are earlier) in (
              bounds here asks,
              once_so here.start (here.bytes ++ line) next here.latest.received (came here) after (shows here) (ends here) is_shown here.latest.shown (later_shown is_shown here.latest.shown here.bytes line here.shown)
                  (latest_so once_at (length next) exchanges here.latest here.before here.exchanges_are honest here.start request [] asks here.is_request (here.asked ∙ sym (append-nil request))),
            );
        all = λ honest.
            let earlier = shown_so_honest all_from (length next) exchanges _ refl honest in
            let here = read (follows (known_of exchanges earlier)) in
            let asks = here.asks (before_honest exchanges here.latest here.before here.exchanges_are earlier) in (
              bounds here asks,
              all_so here.start (here.bytes ++ line) next here.latest.received (came here) after (shows here) (ends here) is_shown here.latest.shown (later_shown is_shown here.latest.shown here.bytes line here.shown)
                  (latest_so all_from (length next) exchanges here.latest here.before here.exchanges_are honest here.start request [] asks here.is_request (here.asked ∙ sym (append-nil request))),
            );
      }
    where
      read : FollowsResponse limits log servers exchanges (pursuit is_shown reach request (line ++ next) (Some follower) before) follower → FollowsResponse limits log servers exchanges (pursuit is_shown Reads request (line ++ next) (Some follower) before) follower
      read here = subst (λ r. FollowsResponse limits log servers exchanges (pursuit is_shown r request (line ++ next) (Some follower) before) follower) reads here

      bounds : (here : FollowsResponse limits log servers exchanges (pursuit is_shown Reads request (line ++ next) (Some follower) before) follower) → AsksInLog limits log here.start → after.limits ≡ limits
      bounds here asks = same ∙ limits_stay here.bytes here.standing here.follows ∙ asks.asks.limits_are

      came : (here : FollowsResponse limits log servers exchanges (pursuit is_shown Reads request (line ++ next) (Some follower) before) follower) → here.latest.received ≡ (here.bytes ++ line) ++ next
      came here = here.received ∙ sym (append_assoc here.bytes line next)

      failed : (here : FollowsResponse limits log servers exchanges (pursuit is_shown Reads request (line ++ next) (Some follower) before) follower) → Fails here.start (is_some here.start.since) here.bytes line after fault
      failed here = let f = fail here.start here.bytes here.standing here.follows in subst (λ had. Fails here.start had here.bytes line after fault) f.1 f.2

      shows : (here : FollowsResponse limits log servers exchanges (pursuit is_shown Reads request (line ++ next) (Some follower) before) follower) (least : ℕ) → least ≤ length (here.bytes ++ line) → StaysInLog limits log here.start least here.latest.received → IsInLog limits log after.node
      shows here least within stays = stays.fails here.bytes line next after fault (sym (came here)) (has_read_all least here.bytes line fault bytes_fail within) (failed here)

      ends : (here : FollowsResponse limits log servers exchanges (pursuit is_shown Reads request (line ++ next) (Some follower) before) follower) → EndsInLog log here.start (length (here.bytes ++ line)) here.latest.received → IsOfLog log after.node.published
      ends here end = end.fails here.bytes line next after fault (sym (came here)) refl bytes_fail (failed here)

  now_shown : (is_shown : Bool) (shown : Shown) (bytes unread received : List ℕ) → received ≡ bytes ++ unread → IsShownSo is_shown shown (length bytes)
      → IsShownSo true (shown_first shown (all_from (length received - length unread))) (length bytes)
  now_shown true (all_from least) bytes unread received is so = so
  now_shown true (once_at count) bytes unread received is so = absurd so
  now_shown true nothing_shown bytes unread received is so = absurd so
  now_shown false shown bytes unread received is so =
      let e = counted bytes unread received is in
      let le : length received - length unread ≤ length bytes = omega (arith, e) in
      subst (λ s. IsShownSo true (shown_first s (all_from (length received - length unread))) (length bytes)) (sym so) le

  -- what follows is shown from here on
  now_follows : (is_shown : Bool) (request unread : List ℕ) (before after : Exchanges) (follower : Option FollowerState) (mirror : MirrorState)
      → after ≡ option_map (shown_so all_from (length unread)) before
      → MayFollow limits log servers before (pursuit is_shown Reads request unread follower mirror)
      → MayFollow limits log servers after (pursuit true Reads request unread follower mirror)
  now_follows is_shown request unread before after None mirror is follows = follows
  now_follows is_shown request unread before after (Some follower) mirror is follows =
      record {
        start = follows.start;
        asks = follows.asks;
        is_request = follows.is_request;
        latest = record {
          server = follows.latest.server;
          asked = follows.latest.asked;
          received = follows.latest.received;
          shown = shown_first follows.latest.shown (all_from (length follows.latest.received - length unread));
        };
        before = follows.before;
        exchanges_are = is ∙ ap (λ e. option_map (shown_so all_from (length unread)) e) follows.exchanges_are;
        asked = follows.asked;
        bytes = follows.bytes;
        received = follows.received;
        standing = follows.standing;
        follows = follows.follows;
        shown = now_shown is_shown follows.latest.shown follows.bytes unread follows.latest.received follows.received follows.shown;
      }

  pub shows_now : {contest : List ℕ} {hub : Hub} {conns : Slab Conn} {sockets : AllSockets} {old new : Source} (unread : ℕ) (before after : Exchanges)
      → after ≡ option_map (shown_so all_from unread) before → IsNowShown old new
      → (AreKnownHonest limits log servers before → AnswersFromLog limits log contest (screen_side old.answers.shown.mirror old.answers.blank.mirror hub conns) sockets)
      → MayShow limits log servers unread before (followed_by old)
      → AreKnownHonest limits log servers after → AnswersFromLog limits log contest (screen_side new.answers.shown.mirror new.answers.blank.mirror hub conns) sockets
  shows_now {old = old} unread before after is now shows may honest =
      let here = shows (shown_so_honest all_from unread before after is honest) in
      let at = may.all (subst (λ e. AreKnownHonest limits log servers e) is honest) in
      record {
        limits_are = ap (λ m. m.limits) now.shown ∙ at.0;
        shown_is = subst (λ m. IsInLog limits log m.node) (sym now.shown) at.1;
        blank_is = subst (λ m. IsInLog limits log m.node) (sym now.blank) here.blank_is;
        serving = here.serving;
      }

  pub with_now_shown : {contest : List ℕ} {hub : Hub} {conns : Slab Conn} {sockets : AllSockets} {old new : Source} (unread : List ℕ) (before after : Exchanges)
      → after ≡ option_map (shown_so all_from (length unread)) before → old.reach ≡ Reads → IsNowShown old new
      → (AreKnownHonest limits log servers before → AnswersFromLog limits log contest (screen_side old.answers.shown.mirror old.answers.blank.mirror hub conns) sockets)
      × (IsSome before → MayFollow limits log servers before (pursuit_of old unread))
      → (AreKnownHonest limits log servers after → AnswersFromLog limits log contest (screen_side new.answers.shown.mirror new.answers.blank.mirror hub conns) sockets)
      × (IsSome after → MayFollow limits log servers after (pursuit_of new unread))
  with_now_shown {old = old} {new = new} unread before after is reads now follows = (
    shows_now (length unread) before after is now follows.0
        (follows_may_show (is_none old.coming) old.reach old.request.items unread before old.upstream.follower (followed_by old) reads follows.1),
    λ known. follows_as after (ap is_none now.coming) now.request refl (now.reach ∙ reads) now.follower (ap (λ c. following_mirror c new.answers.shown.mirror) now.coming ∙ now.shown)
        (now_follows (is_none old.coming) old.request.items unread before after old.upstream.follower (followed_by old) is
        (subst (λ r. MayFollow limits log servers before (pursuit (is_none old.coming) r old.request.items unread old.upstream.follower (followed_by old))) reads
        (follows.1 (known_before (shown_so all_from (length unread)) before after is known)))),
  )

  -- a mirror that shows the same at its own token alone is at a place of the log, too
  alone_in_log : (bounds : Limits) (published : Option Published) → IsOfLog log published → IsInLog limits log (restored_from bounds published).node
  alone_in_log bounds None of = (None, tt, refl)
  alone_in_log bounds (Some published) (k, within, is) =
      let none : k - k ≡ 0 = omega arith in
      let alone : Position = record { at = k; low = k } in
      let there : IsInLog limits log (restored_from bounds (node_at log alone).published).node = (
        Some alone,
        record { order = omega arith; kept = omega arith; light = light_here limits log k; in_log = within },
        ap (λ n. record {
          published = Some (record { tables = state_after log k; token = log.token k });
          held = tokens_of log k (suc n);
          kept = commits_after log k n;
        }) (sym none),
      ) in
      subst (λ p. IsInLog limits log (restored_from bounds (Some p)).node) (sym is) there

  restored_limits : (bounds : Limits) (published : Option Published) → (restored_from bounds published).limits ≡ bounds
  restored_limits bounds None = refl
  restored_limits bounds (Some p) = refl

  pub with_alone : {contest : List ℕ} {hub : Hub} {conns : Slab Conn} {sockets : AllSockets} {old new : Source} (unread : ℕ) (before after : Exchanges)
      → after ≡ option_map (shown_so once_at unread) before → ShowsAlone old new
      → (AreKnownHonest limits log servers before → AnswersFromLog limits log contest (screen_side old.answers.shown.mirror old.answers.blank.mirror hub conns) sockets)
      → MayShow limits log servers unread before (followed_by old)
      → AreKnownHonest limits log servers after → AnswersFromLog limits log contest (screen_side new.answers.shown.mirror new.answers.blank.mirror hub conns) sockets
  with_alone {contest} {hub} {conns} {sockets} {old} {new} unread before after is alone shows may honest =
      by (may.once (subst (λ e. AreKnownHonest limits log servers e) is honest)) alone.shown (shows (shown_so_honest once_at unread before after is honest))
    where
      by : (followed_by old).limits ≡ limits × IsOfLog log (followed_by old).node.published
          → (new.answers.shown.mirror ≡ old.answers.shown.mirror) ⊎ (new.answers.shown.mirror ≡ restored_from (followed_by old).limits (followed_by old).node.published)
          → AnswersFromLog limits log contest (screen_side old.answers.shown.mirror old.answers.blank.mirror hub conns) sockets
          → AnswersFromLog limits log contest (screen_side new.answers.shown.mirror new.answers.blank.mirror hub conns) sockets
      by at (inl same) here = shows_at limits log (ap (λ m. m.limits) same) (subst (λ m. IsInLog limits log m.node) (sym same) here.shown_is) alone.blank here
      by at (inr is_it) here =
          shows_at limits log (ap (λ m. m.limits) is_it ∙ restored_limits _ (followed_by old).node.published ∙ at.0 ∙ sym here.limits_are)
          (subst (λ m. IsInLog limits log m.node) (sym is_it) (alone_in_log _ (followed_by old).node.published at.1)) alone.blank here

  -- ---- what follows may be shown

  pub to_show : {contest : List ℕ} (source : Source) (screens : Screens) {sockets : AllSockets} (exchanges : Exchanges) (unread : List ℕ) → source.reach ≡ Reads
      → FollowsServers limits log servers contest (within_turn exchanges source unread screens) sockets → IsToShow limits log servers contest (counted_within_turn exchanges source (length unread) screens) sockets
  to_show source screens exchanges unread reads follows = (
    follows.0,
    follows.1.0,
    follows_may_show (is_none source.coming) source.reach source.request.items unread exchanges source.upstream.follower (followed_by source) reads follows.1.1,
  )

  pub same_to_show : {contest : List ℕ} {old new : Source} (screens : Screens) {sockets : AllSockets} {exchanges : Exchanges} {unread : ℕ} → SameSource old new
      → IsToShow limits log servers contest (counted_within_turn exchanges old unread screens) sockets → IsToShow limits log servers contest (counted_within_turn exchanges new unread screens) sockets
  same_to_show screens {exchanges = exchanges} {unread = unread} same to = (
    same.servers ∙ to.0,
    λ honest. same_shows limits log same (to.1 honest),
    subst (λ m. MayShow limits log servers unread exchanges m) (sym (same_followed same.coming same.shown)) to.2,
  )

  pub to_show_of : {contest : List ℕ} (source : Source) (screens : Screens) {sockets : AllSockets} {exchanges : Exchanges} {count unread : ℕ} → count ≡ unread
      → IsToShow limits log servers contest (counted_within_turn exchanges source count screens) sockets → IsToShow limits log servers contest (counted_within_turn exchanges source unread screens) sockets
  to_show_of {contest} source screens {sockets} {exchanges} is to = subst (λ n. IsToShow limits log servers contest (counted_within_turn exchanges source n screens) sockets) is to
