-- Where a mirror is that followed what a node sent to it.
use Rattle.std.proofs.Common.{◌≡◌, refl, sym, ap, ◌∙◌, subst, ℕ, suc, ◌+◌, ◌-◌, ◌<◌, ◌≤◌, max, Bool, true, false, ◌&&◌, arith, List, [], ◌∷◌, ◌++◌, length, take, drop, append_assoc, append-nil, length-append, take-append-drop, Option, Some, None, Ok, inl, inr, nat_le, nat_lt, ltb-false, leb-true, leb-false}
use Rattle.std.specs.Prelude.{if◌then◌else◌, ◌==◌, ◌⊎◌, slice_get}
use Rattle.std.specs.Option.{option_and_then}
use Rattle.feed_settings.specs.Limits.{Limits, History}
use Rattle.feed_settings.specs.declared.framing.Framing.{Framing}
use Rattle.feed_settings.specs.declared.framing.Framing.TheVariants.{Close, Chunked}
use Rattle.feed_note.specs.Lines.{rest}
use Rattle.feed_note.specs.declared.line.Line.{Line}
use Rattle.feed_node.specs.declared.fault.FeedFault.{FeedFault}
use Rattle.feed_node.specs.declared.fault.FeedFault.TheVariants.{NotOpen, LongLine, Line as BadLine, StageFull, Memory as FeedMemory}
use Rattle.feed_node.specs.Mirroring.{MirrorState, StandsAt, present_opening, mirror_after, cut_off}
use Rattle.feed_node.specs.Reading.{Reads, FaultsAt, reads, keep_latest, awaits_reset}
use Rattle.feed_node.specs.Serving.{token_before}
use Rattle.feed_node.specs.States.{published_token, place_of}
use Rattle.feed_node.specs.Steps.{ReadingIsOne}
use Rattle.feed_follow.specs.declared.fault.FollowFault.{FollowFault}
use Rattle.feed_follow.specs.declared.fault.FollowFault.TheVariants.{Closed, LongHead, BadHead, Status, BadCoding, BadLength, BadChunk, Feed, Memory as FollowMemory}
use Rattle.feed_follow.specs.Following.{HasReached as Reached, IsCutAfter, Leaves, HasBadLine, HasLostSome, Fails}
use Rattle.feed_follow.specs.Standing.{Standing, in_head, token_refused, in_body, done, failed, Stands}
use Rattle.feed_wire.specs.declared.refusal.Refusal.{Refusal}
use Rattle.feed_wire.specs.Answer.{feed_head, refusal_code, refusal_head, refusal_text}
use Rattle.feed_answer.specs.Answered.{AnswerParts, answer_to, answer_opened}
use Rattle.feed_wire.specs.Asked.{feed, framing_for}
use Rattle.feed_wire.specs.CarriedBytes.{ended_text, carried_by}
use Rattle.feed_answer.specs.Carried.{standing_at, ended_at, refusal_at}
use Rattle.feed_wire.specs.FrameLaws.{joined}
use Rattle.feed_answer.specs.FollowLaws.{ResponsesAreFollowed, EndsAreFollowed, RefusalsAreFollowed}
use Rattle.feed_wire.specs.RequestLaws.{AskedOnce}
use Rattle.feed_answer.specs.Opening.{opens, starts_behind}
use Rattle.feed_answer.specs.Served.{opening_text}
use Rattle.feed_world.specs.Connection.{Part, Snapshot, Commit, Line_feed, Connection, part_text, part_texts, sent_text, blocks_within, moved_by, GoOn, first_parts}
use Rattle.feed_world.specs.Following.{OpensAsked, SessionsOpenAsAsked, number_at, PlacesStay, AllIsReached, IsBroughtBy, CarriesPrefix, CarryFeed, ResponsesCarryFeed, FollowsTo, MirrorsFollow, IsCutInLog, FailsKeepStates, RefusalsKeepNodes}
use Rattle.feed_world.specs.Laws.{SessionsStartBefore}
use Rattle.feed_world.specs.Log.{Log, IsLog, IsNamed, tokens_of, state_text}
use Rattle.feed_world.specs.Position.{Position, IsPosition, IsPlaceOfLog, node_at, node_where, renewed}
use Rattle.feed_world.specs.Reading.{opening_at, IsOpened, SentIsRead}
use Rattle.feed_world.specs.States.{HasAsked, IsAsFarAs}
use Rattle.feed_world.specs.Step.{IsForMemory}
use Rattle.feed_world.proofs.Brought.{place_after, prefix_is}
use Rattle.feed_world.proofs.Growth.{goes_up}
use Rattle.feed_world.proofs.Reached.{blocks_of, all_blocks, comes_to}
use Rattle.feed_world.proofs.Refused.{IsOfRefusal, at_of}
use Rattle.feed_world.proofs.Responses.{joined_parts}
use Rattle.feed_world.proofs.Sending.{token_there}
use Rattle.feed_world.proofs.Tokens.{tokens_tell, token_missing}

-- ---- where blocks bring a mirror

choose : (history : History) (log : Log) (P : Option Position → Type 0) (place : Option Position) (b : Bool)
    (bs : List Part) → P place → P (moved_by history log place bs)
    → P (moved_by history log place (if b then bs else []))
choose history log P place true bs h k = k
choose history log P place false bs h k = h

module _ (history : History) (log : Log) where
  bound_since : (parts : List Part) (p : Position) (k last n : ℕ) → k ≤ p.at → GoOn k parts last
      → number_at (moved_by history log (Some p) (blocks_within log parts n)) ≤ max p.at last
  bound_since [] p k last n to g = omega arith
  bound_since (Line_feed ∷ parts) p k last n to g =
      choose history log (λ q. number_at q ≤ max p.at last) (Some p) (nat_le 1 n)
      (blocks_within log parts (n - 1)) (omega arith) (bound_since parts p k last (n - 1) to g)
  bound_since (Commit j ∷ parts) p k last n to g =
      let m = n - length (part_text log (Commit j)) in
      choose history log (λ q. number_at q ≤ max p.at last) (Some p)
      (nat_le (length (part_text log (Commit j))) n) (Commit j ∷ blocks_within log parts m)
      (omega arith)
      (by (λ q to. bound_since parts q (k + 1) last m to g.1) (goes_up (k + 1) parts last g.1)
      (nat_lt p.at j) refl)
    where
      by : ((q : Position) → k + 1 ≤ q.at
          → number_at (moved_by history log (Some q)
          (blocks_within log parts (n - length (part_text log (Commit j))))) ≤ max q.at last)
          → k + 1 ≤ last → (b : Bool) → nat_lt p.at j ≡ b
          → number_at (moved_by history log (Some (if b then renewed history log j p.low else p))
          (blocks_within log parts (n - length (part_text log (Commit j))))) ≤ max p.at last
      by later up true is =
          let here : j ≡ k + 1 = g.0 in
          let l = later (renewed history log j p.low) (omega (arith, here)) in
          omega (arith, l, up, here)
      by later up false is =
          let less = ltb-false p.at j is in
          later p (omega (arith, less, g.0))
  bound_since (Snapshot j ∷ parts) p k last n to g = absurd g

  bound_either : (fresh : Bool) (place : Option Position) (start : ℕ) (more : List Part)
      (last n : ℕ)
      → (fresh ≡ false → (own : Position) × (place ≡ Some own) × (own.low ≤ start)
      × (start ≤ own.at)) → GoOn start more last
      → number_at (moved_by history log place
      (blocks_within log (first_parts fresh start ++ more) n)) ≤ max (number_at place) last
  bound_either true place start more last n at g =
      let up = goes_up start more last g in
      let l = length (part_text log (Snapshot start)) in
      let later = bound_since more (record { at = start; low = start }) start last (n - l)
      (omega arith) g in
      choose history log (λ q. number_at q ≤ max (number_at place) last) place (nat_le l n)
      (Snapshot start ∷ blocks_within log more (n - l)) (omega arith) (omega (arith, later, up))
  bound_either false place start more last n at g =
      let own = at refl in
      subst (λ q. number_at (moved_by history log q (blocks_within log more n))
      ≤ max (number_at q) last) (sym own.1) (bound_since more own.0 start last n own.3 g)

pub places_stay : PlacesStay
places_stay limits log place c n o = (
  place_after limits log place c n o,
  subst (λ ps. number_at (moved_by limits.history log place (blocks_within log ps n))
      ≤ max (number_at place) c.last) (sym o.order.parts)
      (bound_either limits.history log c.fresh place c.start o.order.more c.last n o.start
      o.order.go_on),
)

pub all_is_reached : AllIsReached
all_is_reached limits log place c o =
    let order = o.order in
    let blocks : blocks_within log c.parts (length (sent_text log c))
    ≡ blocks_of (first_parts c.fresh c.start ++ order.more) =
    all_blocks log c.parts (length (sent_text log c)) refl ∙ ap blocks_of order.parts in
    subst (λ bs. IsAsFarAs (moved_by limits.history log place bs) c.last) (sym blocks)
    (comes_to limits.history log place c.fresh c.start c.last order.more o.start order.go_on)

-- ---- a session that is asked for

module _ (starts : SessionsStartBefore) (limits : Limits) (log : Log) (is_log : IsNamed log)
    (p : Position) (is : IsPosition limits log p) (back : ℕ) where
  -- a token after which a session starts is held
  is_held : (m : ℕ) (token : List ℕ) → m ≤ length log.commits
      → token_before (node_at log p) back (log.token m) ≡ Some token → (p.low ≤ m) × (m ≤ p.at)
  is_held m token small found = by (nat_le p.low m) refl (nat_le m p.at) refl
    where
      not_out : (p.low ≤ m → ¬ (m ≤ p.at)) → ⊥
      not_out h =
          let order = is.order in
          let within = is.in_log in
          let none = token_missing log is_log p.low (suc (p.at - p.low)) m
          (λ a b. h a (omega (arith, b, order))) (omega (arith, order, within)) small in
          let nothing : None ≡ Some token =
          sym (ap (option_and_then (λ place. slice_get (tokens_of log p.low (suc (p.at - p.low)))
          (place - back))) none) ∙ found in
          absurd (cc)

      by : (a : Bool) → nat_le p.low m ≡ a → (b : Bool) → nat_le m p.at ≡ b
          → (p.low ≤ m) × (m ≤ p.at)
      by true e true f = (leb-true _ _ e, leb-true _ _ f)
      by true e false f =
          let over = leb-false _ _ f in absurd (not_out (λ a b. omega (arith, over, b)))
      by false e b f =
          let under = leb-false _ _ e in absurd (not_out (λ a b. omega (arith, under, a)))

  -- the number at which it starts
  starts_at : (m k : ℕ) (token : List ℕ) → m ≤ length log.commits → k ≤ length log.commits
      → token ≡ log.token k → token_before (node_at log p) back (log.token m) ≡ Some token
      → (p.low ≤ m) × (m ≤ p.at) × (k ≡ max p.low (m - back))
  starts_at m k token small fits named found =
      let (from, to) = is_held m token small found in
      let start = starts limits log p m back is_log is from to in
      let both : Some token ≡ Some (log.token (max p.low (m - back))) = sym found ∙ start in
      let same : token ≡ log.token (max p.low (m - back)) = cc in
      let order = is.order in
      let within = is.in_log in (
        from,
        to,
        (tokens_tell log k (max p.low (m - back)) is_log fits
            (omega (arith, to, within, order)) (sym named ∙ same)).0,
      )

  module _ (framing : Framing) (answer : AnswerParts) (opened : List ℕ)
      (session : answer.session ≡ Some opened) where
    after_token : (t : List ℕ) (held : Option (List ℕ))
        → token_before (node_at log p) back t ≡ held → (j : Option ℕ)
        → option_and_then (λ place. slice_get (tokens_of log p.low (suc (p.at - p.low)))
        (place - back)) j ≡ held
        → answer ≡ answer_opened framing (starts_behind held)
        → OpensAsked log p (Some t) back answer opened
    after_token t None found j at e =
        let no : None ≡ Some opened = sym (ap (λ a. a.session) e) ∙ session in absurd (cc)
    after_token t (Some token) found None at e = let no : None ≡ Some token = at in absurd (cc)
    after_token t (Some token) found (Some j) at e =
        let there = token_there log p.low (suc (p.at - p.low)) (j - back) token at in
        let this : Some token ≡ Some opened = sym (ap (λ a. a.session) e) ∙ session in
        let same : token ≡ opened = cc in
        let order = is.order in
        let within = is.in_log in
        let less : j - back < suc (p.at - p.low) = there.1 in
        let fits : p.low + (j - back) ≤ length log.commits = omega (arith, order, within, less) in
        record {
          k = p.low + (j - back);
          in_log = fits;
          token_is = sym same ∙ there.0;
          text_is = ap (λ a. a.text) e
              ∙ ap (λ f. opening_text f []) (sym (ap (λ a. a.framing) e));
          newest = λ none. let no : Some t ≡ None = none in absurd (cc);
          own = λ m small asked.
              let this : Some t ≡ Some (log.token m) = asked in
              let same_token : t ≡ log.token m = cc in
              starts_at m (p.low + (j - back)) token small fits there.0
              (sym (ap (token_before (node_at log p) back) same_token) ∙ found);
        }

    from_start : answer ≡ answer_opened framing
        (Ok (record { token = log.token p.at; text = state_text log p.at }))
        → OpensAsked log p None back answer opened
    from_start e =
        let this : Some (log.token p.at) ≡ Some opened = sym (ap (λ a. a.session) e) ∙ session in
        let same : log.token p.at ≡ opened = cc in
        record {
          k = p.at;
          in_log = is.in_log;
          token_is = sym same;
          text_is = ap (λ a. a.text) e
              ∙ ap (λ f. opening_text f (state_text log p.at)) (sym (ap (λ a. a.framing) e));
          newest = λ none. refl;
          own = λ m small asked. let no : None ≡ Some (log.token m) = asked in absurd (cc);
        }

pub open_as_asked : AskedOnce → SessionsStartBefore → SessionsOpenAsAsked
open_as_asked once starts limits log node place head contest minor since framing back answer
    opened is_log is_place shown asks answers session =
    by place since is_place
    (answers.answer_is
    ∙ ap (λ asked. answer_to asked node framing back)
    (once head contest answers.asked (feed minor since) answers.asks asks)
    ∙ ap (λ n. answer_opened (framing_for minor framing) (opens n back since)) shown)
  where
    by : (q : Option Position) (s : Option (List ℕ)) → IsPlaceOfLog limits log q
        → answer ≡ answer_opened (framing_for minor framing) (opens (node_where log q) back s)
        → (p : Position) × (q ≡ Some p) × OpensAsked log p s back answer opened
    by None s is e =
        let no : None ≡ Some opened = sym (ap (λ a. a.session) e) ∙ session in absurd (cc)
    by (Some p) None is e = (
      p,
      refl,
      from_start starts limits log is_log p is back (framing_for minor framing) answer opened
          session e,
    )
    by (Some p) (Some t) is e = (
      p,
      refl,
      after_token starts limits log is_log p is back (framing_for minor framing) answer opened
          session t (token_before (node_at log p) back t) refl (place_of (node_at log p) t) refl e,
    )

-- ---- a mirror that follows

prefix_within : (text prefix behind : List ℕ) → prefix ++ behind ≡ text → length prefix ≤ length text
prefix_within text prefix behind e =
    let l = length-append prefix behind in
    let s = ap length e in
    omega (arith, l, s)

pub responses_carry : ResponsesAreFollowed → EndsAreFollowed → ResponsesCarryFeed
responses_carry responses ends log c framing had are = (
  λ n. (
    standing_at framing (part_texts log c.parts) n,
    responses framing (part_texts log c.parts) n had are,
    at n,
  ),
  λ n. (
    ended_at framing (part_texts log c.parts) n,
    ends framing (part_texts log c.parts) n had are,
    ended framing n,
  ),
)
  where
    text : joined (part_texts log c.parts) ≡ sent_text log c
    text = joined_parts log c.parts

    cut_prefix : (f : Framing) (n : ℕ) (b : Bool) → CarriesPrefix (sent_text log c)
        (if b then in_head
        else in_body (take (carried_by f (part_texts log c.parts) n)
        (joined (part_texts log c.parts))))
    cut_prefix f n true = tt
    cut_prefix f n false = (
      drop (carried_by f (part_texts log c.parts) n) (joined (part_texts log c.parts)),
      take-append-drop (carried_by f (part_texts log c.parts) n)
          (joined (part_texts log c.parts)) ∙ text,
    )

    at : (n : ℕ) → CarriesPrefix (sent_text log c) (standing_at framing (part_texts log c.parts) n)
    at n = cut_prefix framing n (nat_lt n (length (feed_head framing)))

    whole : (n : ℕ) (b : Bool) → CarriesPrefix (sent_text log c)
        (if b then standing_at Chunked (part_texts log c.parts) n
        else done (joined (part_texts log c.parts)))
    whole n true = cut_prefix Chunked n (nat_lt n (length (feed_head Chunked)))
    whole n false = ([], append-nil (joined (part_texts log c.parts)) ∙ text)

    ended : (f : Framing) (n : ℕ)
        → CarriesPrefix (sent_text log c) (ended_at f (part_texts log c.parts) n)
    ended Close n = cut_prefix Close n (nat_lt n (length (feed_head Close)))
    ended Chunked n = whole n (nat_lt n (length (ended_text Chunked (part_texts log c.parts))))

module _ (prefixes : SentIsRead) (one : ReadingIsOne) (limits : Limits) (log : Log)
    (place : Option Position) (c : Connection) (begun : MirrorState) (is_log : IsLog limits log)
    (o : IsOpened limits log place c) (asked : HasAsked limits log place c.fresh begun) where
  -- a mirror that was fed a prefix of the text
  reached_so : (prefix behind : List ℕ) (mirror : MirrorState) → prefix ++ behind ≡ sent_text log c
      → Reached begun prefix mirror → IsBroughtBy limits log place c (length prefix) mirror
  reached_so prefix behind mirror whole h =
      let opening = opening_at log place c.fresh in
      let bounds : mirror.limits ≡ limits = h.limits ∙ asked.limits_are in
      let stands : StandsAt opening prefix h.notes mirror =
      subst (λ q. StandsAt q prefix h.notes mirror) asked.opening h.stands in
      let read = prefixes limits log place c prefix behind is_log o whole in
      let same : read.notes ≡ h.notes =
      one.notes limits opening prefix read.notes h.notes read.nothing_bad
      (subst (λ l. Reads l opening prefix h.notes) bounds stands.nothing_bad) in
      record {
        bounds = bounds;
        node = ap (λ s. s.node) stands.state
            ∙ ap (λ l. keep_latest l.history (reads l.history opening h.notes)) bounds
            ∙ ap (λ ns. keep_latest limits.history (reads limits.history opening ns)) (sym same)
            ∙ read.shows;
        since = ap (λ s. s.since) stands.state
            ∙ ap (λ l. if awaits_reset opening h.notes then None
            else published_token (reads l.history opening h.notes)) bounds
            ∙ ap (λ ns. if awaits_reset opening ns then None
            else published_token (reads limits.history opening ns)) (sym same)
            ∙ (λ i. if read.awaits i then None else published_token (read.shows i));
      }

  -- and cut then
  cut_so : (prefix behind : List ℕ) (mirror : MirrorState) → prefix ++ behind ≡ sent_text log c
      → IsCutAfter begun prefix mirror
      → (mirror.connection ≡ None) × IsBroughtBy limits log place c (length prefix) mirror
  cut_so prefix behind mirror whole h =
      let stood : MirrorState =
      mirror_after begun.limits (present_opening begun) h.notes (rest prefix) in
      let b = reached_so prefix behind stood whole (record {
        limits = refl;
        notes = h.notes;
        stands = record { nothing_bad = h.nothing_bad; state = refl };
      }) in (
        ap (λ s. s.connection) h.state,
        record {
          bounds = ap (λ s. s.limits) h.state ∙ b.bounds;
          node = ap (λ s. s.node) h.state ∙ b.node;
          since = ap (λ s. s.since) h.state ∙ b.since;
        },
      )

  -- no line of the text is bad
  none_bad : (prefix behind : List ℕ) (notes : List Line) (fault : FeedFault)
      → prefix ++ behind ≡ sent_text log c
      → FaultsAt begun.limits (present_opening begun) prefix notes fault → ⊥
  none_bad prefix behind notes fault whole first =
      let opening = opening_at log place c.fresh in
      let read = prefixes limits log place c prefix behind is_log o whole in
      one.faultless limits opening prefix read.notes notes fault read.nothing_bad
      (subst (λ q. FaultsAt limits q prefix notes fault) asked.opening
      (subst (λ l. FaultsAt l (present_opening begun) prefix notes fault) asked.limits_are first))

  module _ (had : Bool) (bytes : List ℕ) (carry : CarryFeed had (sent_text log c) bytes) where
    -- however a prefix of the bytes stands, it carries a prefix of the text
    prefix_carries : (prefix behind : List ℕ) (s : Standing) → prefix ++ behind ≡ bytes
        → Stands had prefix s → CarriesPrefix (sent_text log c) s
    prefix_carries prefix behind s whole stands =
        let n = length prefix in
        let w = carry n in
        let there = subst (λ bs. Stands had bs s) (sym (prefix_is prefix behind bytes whole)) stands in
        subst (CarriesPrefix (sent_text log c)) (sym (w.1.only s there)) w.2

    module _ (before piece later : List ℕ) (whole : (before ++ piece) ++ later ≡ bytes)
        (mirror : MirrorState) where
      lost : HasLostSome begun had before piece mirror
          → IsCutInLog limits log place c begun mirror
      lost l =
          let ends : (before ++ l.counted) ++ (l.uncounted ++ later) ≡ bytes =
          append_assoc before l.counted (l.uncounted ++ later)
          ∙ ap (λ bs. before ++ bs) (sym (append_assoc l.counted l.uncounted later)
          ∙ ap (λ bs. bs ++ later) (sym l.whole))
          ∙ sym (append_assoc before piece later) ∙ whole in
          elim l.left [
            | inl head ↦ inl head.1
            | inr body ↦
                let payload = body.0 in
                let behind : (behind : List ℕ) × (payload ++ behind ≡ sent_text log c) =
                elim body.1 [
                  | inl going ↦ prefix_carries (before ++ l.counted) (l.uncounted ++ later)
                      (in_body payload) ends going
                  | inr all ↦ prefix_carries (before ++ l.counted) (l.uncounted ++ later)
                      (done payload) ends all
                ] in
                let cut = cut_so payload behind.0 mirror behind.1 body.2 in
                inr (
                  length payload,
                  prefix_within (sent_text log c) payload behind.0 behind.1,
                  cut.0,
                  cut.1,
                )
          ]

      bad_line : (fault : FeedFault) → HasBadLine begun had (before ++ piece) fault mirror → ⊥
      bad_line fault l =
          let ends : l.prefix ++ (l.later ++ later) ≡ bytes =
          sym (append_assoc l.prefix l.later later) ∙ ap (λ bs. bs ++ later) (sym l.whole)
          ∙ whole in
          let behind : (behind : List ℕ) × (l.payload ++ behind ≡ sent_text log c) =
          elim l.brings [
            | inl going ↦ prefix_carries l.prefix (l.later ++ later) (in_body l.payload) ends going
            | inr all ↦ prefix_carries l.prefix (l.later ++ later) (done l.payload) ends all
          ] in
          none_bad l.payload behind.0 l.cut.notes fault behind.1 l.cut.first

      never : (fault : FollowFault) (payload : List ℕ)
          → Stands had (before ++ piece) (failed fault payload) → ⊥
      never fault payload stands =
          prefix_carries (before ++ piece) later (failed fault payload) whole stands

      fails_so : (fault : FollowFault) → Fails begun had before piece mirror fault
          → IsForMemory fault × IsCutInLog limits log place c begun mirror
      fails_so FollowMemory l = (tt, lost l)
      fails_so (Feed FeedMemory) l = (tt, lost l)
      fails_so (Feed NotOpen) l = absurd (bad_line NotOpen l)
      fails_so (Feed LongLine) l = absurd (bad_line LongLine l)
      fails_so (Feed (BadLine fault)) l = absurd (bad_line (BadLine fault) l)
      fails_so (Feed StageFull) l = absurd (bad_line StageFull l)
      fails_so Closed l =
          absurd (prefix_carries before (piece ++ later) token_refused
          (sym (append_assoc before piece later) ∙ whole) l.0)
      fails_so LongHead l = absurd (never LongHead l.0 l.1)
      fails_so BadHead l = absurd (never BadHead l.0 l.1)
      fails_so (Status n) l = absurd (never (Status n) l.0 l.1)
      fails_so BadCoding l = absurd (never BadCoding l.0 l.1)
      fails_so BadLength l = absurd (never BadLength l.0 l.1)
      fails_so BadChunk l = absurd (never BadChunk l.0 l.1)

pub mirrors_follow : SentIsRead → ReadingIsOne → MirrorsFollow
mirrors_follow prefixes one limits log place c begun mirror reader bytes n s is_log o asked carry f =
    by s (prefix_carries prefixes one limits log place c begun is_log o asked reader.had_token bytes
    carry (take n bytes) (drop n bytes) s (take-append-drop n bytes) f.stands) f.leaves
  where
    by : (s : Standing) → CarriesPrefix (sent_text log c) s → Leaves begun s mirror
        → FollowsTo limits log place c begun mirror s
    by in_head w l = l
    by token_refused w l = absurd w
    by (in_body payload) w l =
        reached_so prefixes one limits log place c begun is_log o asked payload w.0 mirror w.1 l
    by (done payload) w l =
        reached_so prefixes one limits log place c begun is_log o asked payload w.0 mirror w.1 l
    by (failed fault payload) w l = absurd w

pub fails_keep : SentIsRead → ReadingIsOne → FailsKeepStates
fails_keep prefixes one limits log place c begun mirror had bytes before piece later fault is_log o
    asked carry whole fails =
    fails_so prefixes one limits log place c begun is_log o asked had bytes carry before piece later
    whole mirror fault fails

-- ---- a refusal

module _ (refusals : RefusalsAreFollowed) (refusal : Refusal) (begun mirror : MirrorState)
    (had : Bool) (before piece later : List ℕ)
    (whole : (before ++ piece) ++ later ≡ refusal_text refusal) where
  of_refusal : (prefix behind : List ℕ) (s : Standing) → prefix ++ behind ≡ refusal_text refusal
      → Stands had prefix s → s ≡ refusal_at had refusal (length prefix)
  of_refusal prefix behind s e stands =
      (refusals refusal (length prefix) had).only s
      (subst (λ bs. Stands had bs s) (sym (prefix_is prefix behind (refusal_text refusal) e)) stands)

  is_of : (prefix behind : List ℕ) (s : Standing) → prefix ++ behind ≡ refusal_text refusal
      → Stands had prefix s → IsOfRefusal s
  is_of prefix behind s e stands =
      subst IsOfRefusal (sym (of_refusal prefix behind s e stands))
      (at_of refusal had (length prefix))

  status_is : (n : ℕ) (payload : List ℕ) (k : ℕ) → failed (Status n) payload ≡ refusal_at had refusal k
      → n ≡ refusal_code refusal
  status_is n payload k = by (nat_lt k (length (refusal_head refusal)))
      ((refusal_code refusal == 400) && had)
    where
      by : (a b : Bool) → failed (Status n) payload ≡ (if a then in_head
          else (if b then token_refused else failed (Status (refusal_code refusal)) []))
          → n ≡ refusal_code refusal
      by true b e = absurd (cc)
      by false true e = absurd (cc)
      by false false e = cc

  lost_head : HasLostSome begun had before piece mirror → mirror ≡ cut_off begun
  lost_head l =
      let ends : (before ++ l.counted) ++ (l.uncounted ++ later) ≡ refusal_text refusal =
      append_assoc before l.counted (l.uncounted ++ later)
      ∙ ap (λ bs. before ++ bs) (sym (append_assoc l.counted l.uncounted later)
      ∙ ap (λ bs. bs ++ later) (sym l.whole))
      ∙ sym (append_assoc before piece later) ∙ whole in
      elim l.left [
        | inl head ↦ head.1
        | inr body ↦ elim body.1 [
          | inl going ↦ absurd (is_of (before ++ l.counted) (l.uncounted ++ later)
              (in_body body.0) ends going)
          | inr all ↦ absurd (is_of (before ++ l.counted) (l.uncounted ++ later)
              (done body.0) ends all)
        ]
      ]

  no_line : (fault : FeedFault) → HasBadLine begun had (before ++ piece) fault mirror → ⊥
  no_line fault l =
      let ends : l.prefix ++ (l.later ++ later) ≡ refusal_text refusal =
      sym (append_assoc l.prefix l.later later) ∙ ap (λ bs. bs ++ later) (sym l.whole) ∙ whole in
      elim l.brings [
        | inl going ↦ is_of l.prefix (l.later ++ later) (in_body l.payload) ends going
        | inr all ↦ is_of l.prefix (l.later ++ later) (done l.payload) ends all
      ]

  not_so : (fault : FollowFault) (payload : List ℕ)
      → Stands had (before ++ piece) (failed fault payload)
      → IsOfRefusal (failed fault payload)
  not_so fault payload stands = is_of (before ++ piece) later (failed fault payload) whole stands

  abbrev Keeps : FollowFault → Type 0
  Keeps fault = (mirror.node ≡ begun.node) × (mirror.connection ≡ None)
      × ((fault ≡ Status (refusal_code refusal)) ⊎ (IsForMemory fault ⊎ (fault ≡ Closed)))

  keeps_node : (fault : FollowFault) → Fails begun had before piece mirror fault → Keeps fault
  keeps_node FollowMemory l =
      let m = lost_head l in (ap (λ s. s.node) m, ap (λ s. s.connection) m, inr (inl tt))
  keeps_node (Feed FeedMemory) l =
      let m = lost_head l in (ap (λ s. s.node) m, ap (λ s. s.connection) m, inr (inl tt))
  keeps_node (Feed NotOpen) l = absurd (no_line NotOpen l)
  keeps_node (Feed LongLine) l = absurd (no_line LongLine l)
  keeps_node (Feed (BadLine fault)) l = absurd (no_line (BadLine fault) l)
  keeps_node (Feed StageFull) l = absurd (no_line StageFull l)
  keeps_node Closed l =
      (ap (λ s. s.node) l.1, ap (λ s. s.connection) l.1, inr (inr refl))
  keeps_node LongHead l = absurd (not_so LongHead l.0 l.1)
  keeps_node BadHead l = absurd (not_so BadHead l.0 l.1)
  keeps_node (Status n) l = (
    ap (λ s. s.node) l.2,
    ap (λ s. s.connection) l.2,
    inl (ap Status (status_is n l.0 (length (before ++ piece))
        (of_refusal (before ++ piece) later (failed (Status n) l.0) whole l.1))),
  )
  keeps_node BadCoding l = absurd (not_so BadCoding l.0 l.1)
  keeps_node BadLength l = absurd (not_so BadLength l.0 l.1)
  keeps_node BadChunk l = absurd (not_so BadChunk l.0 l.1)

pub refusals_keep : RefusalsAreFollowed → RefusalsKeepNodes
refusals_keep refusals refusal begun mirror had before piece later fault whole fails =
    keeps_node refusals refusal begun mirror had before piece later whole fault fails
