-- A mirror that has followed a prefix of the response on its connection is where the whole blocks
-- of that prefix bring it.
use Rattle.std.proofs.Common.{◌≡◌, refl, sym, ap, ◌∙◌, subst, ℕ, zero, suc, ◌+◌, ◌-◌, ◌<◌, ◌≤◌, ◌^◌, min, Bool, true, false, ◌&&◌, arith, List, [], ◌∷◌, ◌++◌, length, take, drop, append_assoc, length-append, length-take-le, take-take, take-append-drop, Option, Some, None, Ok, Err, inl, inr, nat_le, nat_lt, eqb-true, ltb-true, ltb-false}
use Rattle.std.specs.Prelude.{if◌then◌else◌, ◌==◌, ◌≢◌, Result}
use Rattle.feed_settings.specs.Limits.{Limits, History}
use Rattle.feed_note.specs.Lines.{rest}
use Rattle.feed_note.specs.declared.line.Line.{Line}
use Rattle.feed_node.specs.declared.fault.FeedFault.{FeedFault}
use Rattle.feed_node.specs.declared.fault.FeedFault.TheVariants.{NotOpen, LongLine, Line as BadLine, StageFull, Memory as FeedMemory}
use Rattle.feed_node.specs.Log.{token_after}
use Rattle.feed_node.specs.Mirroring.{MirrorState, StandsAt, present_opening, mirror_after, cut_off}
use Rattle.feed_node.specs.Reading.{Reads, FaultsAt, reads, keep_latest, awaits_reset}
use Rattle.feed_node.specs.States.{published_token}
use Rattle.feed_node.specs.Steps.{ReadingIsOne}
use Rattle.feed_follow.specs.declared.fault.FollowFault.{FollowFault}
use Rattle.feed_follow.specs.declared.fault.FollowFault.TheVariants.{Closed, LongHead, BadHead, Status, BadCoding, BadLength, BadChunk, Feed, Memory as FollowMemory}
use Rattle.feed_follow.specs.Follower.{FollowerState, FollowsAt, GoesOn}
use Rattle.feed_follow.specs.declared.fault.Progress.{Progress}
use Rattle.feed_follow.specs.declared.follower.Part.TheVariants.{Closed as NoMore}
use Rattle.feed_follow.specs.Following.{HasReached, IsCutAfter, Leaves, HasBadLine, HasLostSome, Fails}
use Rattle.feed_follow.specs.Standing.{Standing, in_head, token_refused, in_body, done, failed, Stands}
use Rattle.feed_wire.specs.Answer.{feed_head}
use Rattle.feed_wire.specs.FrameLaws.{joined as joined_texts}
use Rattle.feed_answer.specs.FollowLaws.{ResponsesAreFollowed, PrefixesCarryMore}
use Rattle.feed_answer.specs.Carried.{standing_at}
use Rattle.feed_world.specs.declared.event.Reply.TheVariants.{Delivered, Broke}
use Rattle.feed_world.specs.Connection.{Part, Snapshot, Commit, Line_feed, Connection, part_text, part_texts, sent_text, sent_bytes, bytes_sent, come_by, blocks_within, blocks_come, blocks_between, moved, moved_by, is_new, count_new, GoOn, first_parts}
use Rattle.feed_world.specs.Log.{Log, IsLog, IsDecimal}
use Rattle.feed_world.specs.Position.{Position, node_where, renewed, IsPosition, IsPlaceOfLog}
use Rattle.feed_world.specs.Reading.{opening_at, IsOpened, SentIsRead}
use Rattle.feed_world.specs.States.{ConnectionState, FollowingMirror, IsConnection, HasAsked, IsReading, AreLinked, IsMirror, asks_with, Moves, BreaksMirror, IsBrought, IsDelivered, next_bytes, delivered_after, published_between}
use Rattle.feed_world.specs.Step.{reached, delivers, with_connection, mirror_delivers, brought_to, IsForMemory}
use Rattle.feed_world.specs.World.{Mirror}
use Rattle.feed_world.proofs.Commits.{light_here, renewed_is_position}
use Rattle.feed_world.proofs.Prefixes.{not_zero}
use Rattle.feed_world.proofs.Growth.{goes_up, fewer_blocks, deliveries_compose, news_compose}
use Rattle.feed_world.proofs.Linked.{parts_have_text, none_at_first}
use Rattle.feed_world.proofs.Responses.{joined_parts, are_texts, come_none, come_within, come_few}
use Rattle.std.proofs.Math.Bool.{and-true as and_true}
use Rattle.std.proofs.Math.Seq.{take-append_seam}

-- ---- places

module _ (limits : Limits) (log : Log) where
  choose_place : (place : Option Position) (b : Bool) (bs : List Part) → IsPlaceOfLog limits log place → IsPlaceOfLog limits log (moved_by limits.history log place bs)
      → IsPlaceOfLog limits log (moved_by limits.history log place (if b then bs else []))
  choose_place place true bs h k = k
  choose_place place false bs h k = h

  place_since : (parts : List Part) (p : Position) (k last n : ℕ) → IsPosition limits log p → k ≤ p.at → GoOn k parts last → last ≤ length log.commits
      → IsPlaceOfLog limits log (moved_by limits.history log (Some p) (blocks_within log parts n))
  place_since [] p k last n h to g within = h
  place_since (Line_feed ∷ parts) p k last n h to g within =
      choose_place (Some p) (nat_le 1 n) (blocks_within log parts (n - 1)) h (place_since parts p k last (n - 1) h to g within)
  place_since (Commit j ∷ parts) p k last n h to g within =
      let m = n - length (part_text log (Commit j)) in
      choose_place (Some p) (nat_le (length (part_text log (Commit j))) n) (Commit j ∷ blocks_within log parts m) h
      (place_since parts (if nat_lt p.at j then renewed limits.history log j p.low else p) (k + 1) last m (by (nat_lt p.at j) refl).0 (by (nat_lt p.at j) refl).1 g.1 within)
    where
      by : (b : Bool) → nat_lt p.at j ≡ b → IsPosition limits log (if b then renewed limits.history log j p.low else p) × (k + 1 ≤ (if b then renewed limits.history log j p.low else p).at)
      by true is =
          let less = ltb-true p.at j is in
          let up = goes_up (k + 1) parts last g.1 in
          let next : suc p.at ≤ length log.commits = omega (arith, g.0) in
          let same : suc p.at ≡ j = omega (arith, g.0) in
          (subst (λ i. IsPosition limits log (renewed limits.history log i p.low)) same (renewed_is_position limits log p h next), omega (arith, g.0))
      by false is = let less = ltb-false p.at j is in (h, omega (arith, g.0))
  place_since (Snapshot j ∷ parts) p k last n h to g within = absurd g

  place_either : (fresh : Bool) (place : Option Position) (start : ℕ) (more : List Part) (last n : ℕ) → IsPlaceOfLog limits log place
      → (fresh ≡ false → (own : Position) × (place ≡ Some own) × (own.low ≤ start) × (start ≤ own.at))
      → GoOn start more last → last ≤ length log.commits → IsPlaceOfLog limits log (moved_by limits.history log place (blocks_within log (first_parts fresh start ++ more) n))
  place_either true place start more last n h at g within =
      let up = goes_up start more last g in
      let p : Position = record { at = start; low = start } in
      let here : IsPosition limits log p = record { order = omega arith; kept = omega arith; light = light_here limits log start; in_log = omega arith } in
      let l = length (part_text log (Snapshot start)) in
      choose_place place (nat_le l n) (Snapshot start ∷ blocks_within log more (n - l)) h (place_since more p start last (n - l) here (omega arith) g within)
  place_either false place start more last n h at g within =
      let own = at refl in
      subst (λ q. IsPlaceOfLog limits log (moved_by limits.history log q (blocks_within log more n))) (sym own.1)
      (place_since more own.0 start last n (subst (IsPlaceOfLog limits log) own.1 h) own.3 g within)

  -- the blocks of a connection lead from one position to another
  pub place_after : (place : Option Position) (c : Connection) (n : ℕ) → IsOpened limits log place c → IsPlaceOfLog limits log (moved_by limits.history log place (blocks_within log c.parts n))
  place_after place c n o =
      subst (λ ps. IsPlaceOfLog limits log (moved_by limits.history log place (blocks_within log ps n))) (sym o.order.parts)
      (place_either c.fresh place c.start o.order.more c.last n o.mirror o.start o.order.go_on o.sent)

-- ---- the token that is asked with

is_empty : (bs : List Part) → length bs ≡ 0 → bs ≡ []
is_empty [] e = refl
is_empty (b ∷ bs) e = absurd (omega arith)

-- a mirror that still awaits a snapshot is on a fresh connection, and none of its blocks came
still_afresh : (afresh fresh : Bool) (xs ys : List Part) → (afresh ≡ true → (fresh ≡ true) × (xs ≡ []))
    → (afresh && (length (drop (length xs) ys) == 0)) ≡ true → (fresh ≡ true) × (ys ≡ [])
still_afresh false fresh xs ys h t = absurd (cc)
still_afresh true fresh xs ys h t =
    let k = h refl in
    let none : length (drop (length xs) ys) ≡ 0 = eqb-true _ _ t in
    let same : length (drop (length xs) ys) ≡ length ys = ap (λ bs. length (drop (length bs) ys)) k.1 in
    (k.0, is_empty ys (sym same ∙ none))

-- The blocks so far are xs, and then ys; after each list of blocks there is a token to ask with.
-- Where the mirror asks with what it should before, so it does after.
asks_after : (token : List Part → Option (List ℕ)) (afresh fresh : Bool) (xs ys : List Part) → length xs ≤ length ys
    → (afresh ≡ true → (fresh ≡ true) × (xs ≡ []))
    → (if fresh && (length xs == 0) then None else token xs) ≡ (if afresh then None else token xs)
    → (if fresh && (length ys == 0) then None else token ys) ≡ (if afresh && (length (drop (length xs) ys) == 0) then None else token ys)
asks_after token afresh fresh (x ∷ xs) [] less h old = absurd (omega arith)
asks_after token true true [] [] less h old = refl
asks_after token false true [] [] less h old = old
asks_after token false false [] [] less h old = refl
asks_after token true false [] [] less h old = let k = h refl in let f : false ≡ true = k.0 in absurd (cc)
asks_after token false false xs (y ∷ ys) less h old = refl
asks_after token false true xs (y ∷ ys) less h old = ap (λ b. if b then None else token (y ∷ ys)) (not_zero (length ys))
asks_after token true true xs (y ∷ ys) less h old =
    let k = h refl in
    ap (λ bs. if length (drop (length bs) (y ∷ ys)) == 0 then None else token (y ∷ ys)) (sym k.1)
asks_after token true false xs (y ∷ ys) less h old = let k = h refl in let f : false ≡ true = k.0 in absurd (cc)

-- ---- what was read

-- what these lines leave, which are those of the first n bytes of the text
record ReadsTo (limits : Limits) (log : Log) (place : Option Position) (c : Connection) (notes : List Line) (n : ℕ) : Type 0 where
  shows : keep_latest limits.history (reads limits.history (opening_at log place c.fresh) notes) ≡ node_where log (moved_by limits.history log place (blocks_within log c.parts n))
  awaits : awaits_reset (opening_at log place c.fresh) notes ≡ (c.fresh && (length (blocks_within log c.parts n) == 0))

-- a mirror that has followed the first n bytes of the response: what it shows, and asks with
pub record FollowsTo (limits : Limits) (log : Log) (place : Option Position) (c : Connection) (n : ℕ) (mirror : MirrorState) : Type 0 where
  pub bounds : mirror.limits ≡ limits
  pub shows : mirror.node ≡ node_where log (moved_by limits.history log place (blocks_come log c n))
  pub since : mirror.since ≡ (if c.fresh && (length (blocks_come log c n) == 0) then None else published_token (node_where log (moved_by limits.history log place (blocks_come log c n))))

-- where the mirror of the world is then
record IsBroughtTo (limits : Limits) (log : Log) (m : Mirror) (place : Option Position) (c : Connection) (n : ℕ) (mirror : MirrorState) : Type 0 where
  within : IsPlaceOfLog limits log (brought_to limits.history log m c n None).place
  bounds : mirror.limits ≡ limits
  node : mirror.node ≡ node_where log (brought_to limits.history log m c n None).place
  since : mirror.since ≡ asks_with log (brought_to limits.history log m c n None)
  afresh : (brought_to limits.history log m c n None).afresh ≡ true → (c.fresh ≡ true) × (blocks_come log c n ≡ [])
  moves : (brought_to limits.history log m c n None).place ≡ moved_by limits.history log place (blocks_come log c n)

-- a response with the feed stands in its head or in its body
abbrev pub IsPlain : Standing → Type 0
IsPlain in_head = Unit {0}
IsPlain (in_body payload) = Unit {0}
IsPlain token_refused = ⊥
IsPlain (done payload) = ⊥
IsPlain (failed fault payload) = ⊥

pub plain_at : (log : Log) (c : Connection) (n : ℕ) → IsPlain (standing_at c.framing (part_texts log c.parts) n)
plain_at log c n = by (nat_lt n (length (feed_head c.framing)))
  where
    by : (b : Bool) → IsPlain (if b then in_head else in_body (take (come_by log c n) (joined_texts (part_texts log c.parts))))
    by true = tt
    by false = tt

abbrev payload_of : Standing → List ℕ
payload_of in_head = []
payload_of (in_body p) = p
payload_of token_refused = []
payload_of (done p) = []
payload_of (failed fault p) = []

abbrev is_body : Standing → Bool
is_body in_head = false
is_body (in_body p) = true
is_body token_refused = false
is_body (done p) = false
is_body (failed fault p) = false

-- a prefix of a list is its first items
pub prefix_is : (prefix behind text : List ℕ) → prefix ++ behind ≡ text → take (length prefix) text ≡ prefix
prefix_is prefix behind text e = ap (take (length prefix)) (sym e) ∙ take-append_seam prefix behind

module _ (prefixes : SentIsRead) (one : ReadingIsOne) (responses : ResponsesAreFollowed) (carry : PrefixesCarryMore) (limits : Limits) (log : Log) (is_log : IsLog limits log) where
  -- the token of a mirror that was here, after these blocks
  abbrev token_at : Option Position → List Part → Option (List ℕ)
  token_at place blocks = published_token (node_where log (moved_by limits.history log place blocks))

  -- the first n bytes of the response stand in one way
  only_at : (c : Connection) (n : ℕ) (had : Bool) (s : Standing) → length (sent_bytes log c) < 2 ^ 64 → Stands had (take n (sent_bytes log c)) s
      → s ≡ standing_at c.framing (part_texts log c.parts) n
  only_at c n had s fits stands = (responses c.framing (part_texts log c.parts) n had (are_texts log c fits)).only s stands

  reads_to : (place : Option Position) (c : Connection) (prefix behind : List ℕ) (notes : List Line) (n : ℕ) → IsOpened limits log place c
      → prefix ++ behind ≡ sent_text log c → length prefix ≡ n → Reads limits (opening_at log place c.fresh) prefix notes → ReadsTo limits log place c notes n
  reads_to place c prefix behind notes n o whole size r =
      let read = prefixes limits log place c prefix behind is_log o whole in
      let same : read.notes ≡ notes = one.notes limits (opening_at log place c.fresh) prefix read.notes notes read.nothing_bad r in
      subst (ReadsTo limits log place c notes) size
      (subst (λ ns. ReadsTo limits log place c ns (length prefix)) same (record { shows = read.shows; awaits = read.awaits }))

  -- within the head nothing has come
  none_come : (place : Option Position) (c : Connection) (n : ℕ) → IsOpened limits log place c → n < length (feed_head c.framing) → blocks_come log c n ≡ []
  none_come place c n o h = ap (blocks_within log c.parts) (come_none log c n h) ∙ none_at_first limits log c is_log o.order o.sent

  in_head_still : (place : Option Position) (c : Connection) (n : ℕ) (begun mirror : MirrorState) → IsOpened limits log place c → HasAsked limits log place c.fresh begun
      → n < length (feed_head c.framing) → mirror ≡ begun → FollowsTo limits log place c n mirror
  in_head_still place c n begun mirror o asked h same =
      let none = none_come place c n o h in
      record {
        bounds = ap (λ s. s.limits) same ∙ asked.limits_are;
        shows = ap (λ s. s.node) same ∙ ap (λ p. p.before) asked.opening ∙ ap (λ bs. node_where log (moved_by limits.history log place bs)) (sym none);
        since = ap (λ s. s.since) same ∙ asked.since
            ∙ ap (λ b. if b then None else published_token (node_where log place)) (sym (and_true c.fresh))
            ∙ ap (λ bs. if c.fresh && (length bs == 0) then None else token_at place bs) (sym none);
      }

  in_body_then : (place : Option Position) (c : Connection) (n : ℕ) (begun mirror : MirrorState) → IsOpened limits log place c → HasAsked limits log place c.fresh begun
      → HasReached begun (take (come_by log c n) (joined_texts (part_texts log c.parts))) mirror → FollowsTo limits log place c n mirror
  in_body_then place c n begun mirror o asked h =
      let k = come_by log c n in
      let text = sent_text log c in
      let opening = opening_at log place c.fresh in
      let bounds : mirror.limits ≡ limits = h.limits ∙ asked.limits_are in
      let stands : StandsAt opening (take k text) h.notes mirror =
      subst (λ t. StandsAt opening (take k t) h.notes mirror) (joined_parts log c.parts)
      (subst (λ q. StandsAt q (take k (joined_texts (part_texts log c.parts))) h.notes mirror) asked.opening h.stands) in
      let read = reads_to place c (take k text) (drop k text) h.notes k o (take-append-drop k text) (length-take-le k text (come_within log c n))
      (subst (λ l. Reads l opening (take k text) h.notes) bounds stands.nothing_bad) in
      record {
        bounds = bounds;
        shows = ap (λ s. s.node) stands.state ∙ ap (λ l. keep_latest l.history (reads l.history opening h.notes)) bounds ∙ read.shows;
        since = ap (λ s. s.since) stands.state
            ∙ ap (λ l. if awaits_reset opening h.notes then None else published_token (reads l.history opening h.notes)) bounds
            ∙ (λ i. if read.awaits i then None else published_token (read.shows i));
      }

  -- whatever prefix of the response was followed
  pub follows_to : (place : Option Position) (c : Connection) (n : ℕ) (begun mirror : MirrorState) → IsOpened limits log place c → HasAsked limits log place c.fresh begun
      → Leaves begun (standing_at c.framing (part_texts log c.parts) n) mirror → FollowsTo limits log place c n mirror
  follows_to place c n begun mirror o asked = by (nat_lt n (length (feed_head c.framing))) refl
    where
      by : (b : Bool) → nat_lt n (length (feed_head c.framing)) ≡ b → Leaves begun (if b then in_head else in_body (take (come_by log c n) (joined_texts (part_texts log c.parts)))) mirror
          → FollowsTo limits log place c n mirror
      by true e l = in_head_still place c n begun mirror o asked (ltb-true _ _ e) l
      by false e l = in_body_then place c n begun mirror o asked l

  -- the mirror of the world, and what it has followed
  module _ (m : Mirror) (c : Connection) (f : FollowingMirror) (reader : FollowerState) (h : IsMirror limits log m f) (r : IsReading limits log m c reader f.mirror) (fits : length (sent_bytes log c) < 2 ^ 64) where
    followed_before : FollowsTo limits log r.before c c.delivered f.mirror
    followed_before =
        follows_to r.before c c.delivered r.begun f.mirror r.opened r.asked
        (subst (λ s. Leaves r.begun s f.mirror) (only_at c c.delivered reader.had_token r.standing fits r.follows.stands) r.follows.leaves)

    come_more : (n : ℕ) → c.delivered ≤ n → come_by log c c.delivered ≤ come_by log c n
    come_more n further = carry c.framing (part_texts log c.parts) c.delivered n further

    -- so it asked with this
    asked_before : (if c.fresh && (length (blocks_come log c c.delivered) == 0) then None else token_at r.before (blocks_come log c c.delivered))
        ≡ (if m.afresh then None else token_at r.before (blocks_come log c c.delivered))
    asked_before = sym followed_before.since ∙ h.since ∙ ap (λ q. if m.afresh then None else published_token (node_where log q)) r.place

    brings : (n : ℕ) (mirror : MirrorState) → c.delivered ≤ n → FollowsTo limits log r.before c n mirror → IsBroughtTo limits log m r.before c n mirror
    brings n mirror further new =
        let xs = blocks_come log c c.delivered in
        let ys = blocks_come log c n in
        let between = blocks_between log c c.delivered n in
        let less = come_more n further in
        let moves = ap (λ q. moved_by limits.history log q between) r.place ∙ deliveries_compose log limits.history r.before c.parts (come_by log c c.delivered) (come_by log c n) less in
        record {
          within = subst (IsPlaceOfLog limits log) (sym moves) (place_after limits log r.before c (come_by log c n) r.opened);
          bounds = new.bounds;
          node = new.shows ∙ ap (node_where log) (sym moves);
          since = new.since
              ∙ asks_after (token_at r.before) m.afresh c.fresh xs ys (fewer_blocks log c.parts (come_by log c c.delivered) (come_by log c n) less) r.afresh asked_before
              ∙ ap (λ q. if m.afresh && (length between == 0) then None else published_token (node_where log q)) (sym moves);
          afresh = still_afresh m.afresh c.fresh xs ys r.afresh;
          moves = moves;
        }

-- ---- how often it published

-- the number of the token that a mirror asks with
pub record IsNumbered (mirror : MirrorState) (number : Option ℕ) : Type 0 where
  pub some : (k : ℕ) → k < 2 ^ 64 → mirror.since ≡ Some (token_after k) → number ≡ Some k
  pub none : mirror.since ≡ None → number ≡ None

-- how often a connection that began at the number `start` published, and the number that the mirror
-- asks with then: nothing came of a fresh one; or its snapshot came and so many commits; or so many
-- commits behind the number at which the mirror was
data IsTold (start own : ℕ) (fresh : Bool) (count : ℕ) (number : Option ℕ) : Type 0 where
  none_yet : fresh ≡ true → count ≡ 0 → number ≡ None → IsTold start own fresh count number
  came_fresh : (more : ℕ) → fresh ≡ true → count ≡ more + 1 → number ≡ Some (start + more) → IsTold start own fresh count number
  came_since : fresh ≡ false → number ≡ Some (own + count) → IsTold start own fresh count number

told_between : (start own : ℕ) (fresh : Bool) (before after more : ℕ) (old new : Option ℕ) → IsTold start own fresh before old → IsTold start own fresh after new
    → after ≡ before + more → more ≡ published_between start old new
told_between start own fresh before after more old new (none_yet a b e) (none_yet p q g) s = let l : more ≡ 0 = omega (arith, b, q, s) in l ∙ (λ i. published_between start (sym e i) (sym g i))
told_between start own fresh before after more old new (none_yet a b e) (came_fresh n p q g) s =
    let l : more ≡ ((start + n) - start) + 1 = omega (arith, b, q, s) in l ∙ (λ i. published_between start (sym e i) (sym g i))
told_between start own fresh before after more old new (none_yet a b e) (came_since p g) s = let t : true ≡ false = sym a ∙ p in absurd (cc)
told_between start own fresh before after more old new (came_fresh n a b e) (none_yet p q g) s = absurd (omega (arith, b, q, s))
told_between start own fresh before after more old new (came_fresh n a b e) (came_fresh k p q g) s =
    let l : more ≡ (start + k) - (start + n) = omega (arith, b, q, s) in l ∙ (λ i. published_between start (sym e i) (sym g i))
told_between start own fresh before after more old new (came_fresh n a b e) (came_since p g) s = let t : true ≡ false = sym a ∙ p in absurd (cc)
told_between start own fresh before after more old new (came_since a e) (none_yet p q g) s = let t : true ≡ false = sym p ∙ a in absurd (cc)
told_between start own fresh before after more old new (came_since a e) (came_fresh k p q g) s = let t : true ≡ false = sym p ∙ a in absurd (cc)
told_between start own fresh before after more old new (came_since a e) (came_since p g) s =
    let l : more ≡ (own + after) - (own + before) = omega (arith, s) in l ∙ (λ i. published_between start (sym e i) (sym g i))

-- each block that is new is the next number
counts_since : (log : Log) (history : History) (parts : List Part) (p : Position) (k last n : ℕ) → k ≤ p.at → GoOn k parts last
    → (q : Position) × (moved_by history log (Some p) (blocks_within log parts n) ≡ Some q) × (q.at ≡ p.at + count_new history log (Some p) (blocks_within log parts n))
counts_since log history [] p k last n to g = (p, refl, omega arith)
counts_since log history (Line_feed ∷ parts) p k last n to g = by (counts_since log history parts p k last (n - 1) to g) (nat_le 1 n)
  where
    by : (q : Position) × (moved_by history log (Some p) (blocks_within log parts (n - 1)) ≡ Some q) × (q.at ≡ p.at + count_new history log (Some p) (blocks_within log parts (n - 1)))
        → (b : Bool) → (q : Position) × (moved_by history log (Some p) (if b then blocks_within log parts (n - 1) else []) ≡ Some q)
        × (q.at ≡ p.at + count_new history log (Some p) (if b then blocks_within log parts (n - 1) else []))
    by later true = later
    by later false = (p, refl, omega arith)
counts_since log history (Commit j ∷ parts) p k last n to g =
    by (next (λ q up. counts_since log history parts q (k + 1) last (n - length (part_text log (Commit j))) up g.1) (nat_lt p.at j) refl) (nat_le (length (part_text log (Commit j))) n)
  where
    next : ((from : Position) → k + 1 ≤ from.at → (q : Position) × (moved_by history log (Some from) (blocks_within log parts (n - length (part_text log (Commit j)))) ≡ Some q)
        × (q.at ≡ from.at + count_new history log (Some from) (blocks_within log parts (n - length (part_text log (Commit j))))))
        → (b : Bool) → nat_lt p.at j ≡ b
        → (q : Position) × (moved_by history log (Some (if b then renewed history log j p.low else p)) (blocks_within log parts (n - length (part_text log (Commit j)))) ≡ Some q)
        × (q.at ≡ p.at + ((if b then 1 else 0) + count_new history log (Some (if b then renewed history log j p.low else p)) (blocks_within log parts (n - length (part_text log (Commit j))))))
    next go true e =
        let less = ltb-true p.at j e in
        let number = g.0 in
        let later = go (renewed history log j p.low) (omega (arith, number)) in
        let at = later.2 in
        (later.0, later.1, omega (arith, at, less, to, number))
    next go false e =
        let less = ltb-false p.at j e in
        let number = g.0 in
        let later = go p (omega (arith, less, number)) in
        let at = later.2 in
        (later.0, later.1, omega (arith, at))

    by : (q : Position) × (moved_by history log (Some (if nat_lt p.at j then renewed history log j p.low else p)) (blocks_within log parts (n - length (part_text log (Commit j)))) ≡ Some q)
        × (q.at ≡ p.at + ((if nat_lt p.at j then 1 else 0) + count_new history log (Some (if nat_lt p.at j then renewed history log j p.low else p)) (blocks_within log parts (n - length (part_text log (Commit j))))))
        → (b : Bool) → (q : Position) × (moved_by history log (Some p) (if b then Commit j ∷ blocks_within log parts (n - length (part_text log (Commit j))) else []) ≡ Some q)
        × (q.at ≡ p.at + count_new history log (Some p) (if b then Commit j ∷ blocks_within log parts (n - length (part_text log (Commit j))) else []))
    by moves true = moves
    by moves false = (p, refl, omega arith)
counts_since log history (Snapshot j ∷ parts) p k last n to g = absurd g

module _ (limits : Limits) (log : Log) (is_log : IsLog limits log) (decimal : IsDecimal log) where
  -- the number of one that asks with its token, or with none
  number_here : (mirror : MirrorState) (number : Option ℕ) (q : Position) → IsNumbered mirror number → IsPosition limits log q → mirror.since ≡ published_token (node_where log (Some q)) → number ≡ Some q.at
  number_here mirror number q numbered is e = let few = is_log.count in let within = is.in_log in numbered.some q.at (omega (arith, few, within)) (e ∙ ap Some (decimal q.at))

  told_parts : (fresh : Bool) (place : Option Position) (start : ℕ) (more : List Part) (last n : ℕ) (mirror : MirrorState) (number : Option ℕ) → IsNumbered mirror number
      → IsPlaceOfLog limits log (moved_by limits.history log place (blocks_within log (first_parts fresh start ++ more) n))
      → mirror.since ≡ (if fresh && (length (blocks_within log (first_parts fresh start ++ more) n) == 0) then None
      else published_token (node_where log (moved_by limits.history log place (blocks_within log (first_parts fresh start ++ more) n))))
      → (fresh ≡ false → (own : Position) × (place ≡ Some own) × (own.low ≤ start) × (start ≤ own.at)) → GoOn start more last
      → (own : ℕ) → ((p : Position) → place ≡ Some p → own ≡ p.at)
      → IsTold start own fresh (count_new limits.history log place (blocks_within log (first_parts fresh start ++ more) n)) number
  told_parts false place start more last n mirror number numbered is since at g own named =
      let o = at refl in
      let c = counts_since log limits.history more o.0 start last n o.3 g in
      let place_is : moved_by limits.history log place (blocks_within log more n) ≡ Some c.0 = ap (λ q. moved_by limits.history log q (blocks_within log more n)) o.1 ∙ c.1 in
      let count : count_new limits.history log place (blocks_within log more n) ≡ count_new limits.history log (Some o.0) (blocks_within log more n) = ap (λ q. count_new limits.history log q (blocks_within log more n)) o.1 in
      let here = number_here mirror number c.0 numbered (subst (IsPlaceOfLog limits log) place_is is) (since ∙ ap (λ q. published_token (node_where log q)) place_is) in
      let same : own ≡ o.0.at = named o.0 o.1 in
      let at_is = c.2 in
      let total : c.0.at ≡ own + count_new limits.history log place (blocks_within log more n) = omega (arith, at_is, count, same) in
      came_since refl (here ∙ ap Some total)
  told_parts true place start more last n mirror number numbered is since at g own named =
      by (nat_le (length (part_text log (Snapshot start))) n) is since
    where
      p : Position
      p = record { at = start; low = start }

      left : ℕ
      left = n - length (part_text log (Snapshot start))

      by : (b : Bool) → IsPlaceOfLog limits log (moved_by limits.history log place (if b then Snapshot start ∷ blocks_within log more (n - length (part_text log (Snapshot start))) else []))
          → mirror.since ≡ (if true && (length (if b then Snapshot start ∷ blocks_within log more (n - length (part_text log (Snapshot start))) else []) == 0) then None
          else published_token (node_where log (moved_by limits.history log place (if b then Snapshot start ∷ blocks_within log more (n - length (part_text log (Snapshot start))) else []))))
          → IsTold start own true (count_new limits.history log place (if b then Snapshot start ∷ blocks_within log more (n - length (part_text log (Snapshot start))) else [])) number
      by false is since = none_yet refl refl (numbered.none since)
      by true is since =
          let bs = blocks_within log more (n - length (part_text log (Snapshot start))) in
          let c = counts_since log limits.history more (record { at = start; low = start }) start last (n - length (part_text log (Snapshot start))) (omega arith) g in
          let shown : mirror.since ≡ published_token (node_where log (moved_by limits.history log (Some (record { at = start; low = start })) bs)) =
          since ∙ ap (λ b. if b then None else published_token (node_where log (moved_by limits.history log (Some (record { at = start; low = start })) bs))) (not_zero (length bs)) in
          let here = number_here mirror number c.0 numbered (subst (IsPlaceOfLog limits log) c.1 is) (shown ∙ ap (λ q. published_token (node_where log q)) c.1) in
          let at_is = c.2 in
          came_fresh (count_new limits.history log (Some (record { at = start; low = start })) bs) refl (omega arith) (here ∙ ap Some at_is)

  abbrev own_number : Option Position → ℕ
  own_number None = 0
  own_number (Some p) = p.at

  named : (place : Option Position) (p : Position) → place ≡ Some p → own_number place ≡ p.at
  named place p e = ap own_number e

  told : (place : Option Position) (c : Connection) (n : ℕ) (mirror : MirrorState) (number : Option ℕ) → IsOpened limits log place c → IsNumbered mirror number → FollowsTo limits log place c n mirror
      → IsTold c.start (own_number place) c.fresh (count_new limits.history log place (blocks_come log c n)) number
  told place c n mirror number o numbered to =
      let k = come_by log c n in
      let parts = o.order.parts in
      subst (λ ps. IsTold c.start (own_number place) c.fresh (count_new limits.history log place (blocks_within log ps k)) number) (sym parts)
      (told_parts c.fresh place c.start o.order.more c.last k mirror number numbered
      (subst (λ ps. IsPlaceOfLog limits log (moved_by limits.history log place (blocks_within log ps k))) parts (place_after limits log place c k o))
      (subst (λ ps. mirror.since ≡ (if c.fresh && (length (blocks_within log ps k) == 0) then None else published_token (node_where log (moved_by limits.history log place (blocks_within log ps k))))) parts to.since)
      o.start o.order.go_on (own_number place) (named place))

  few_news : (history : History) (place : Option Position) (blocks : List Part) → count_new history log place blocks ≤ length blocks
  few_news history place [] = omega arith
  few_news history place (b ∷ bs) = by (is_new place b) (few_news history (moved history log place b) bs)
    where
      by : (t : Bool) → count_new history log (moved history log place b) bs ≤ length bs → (if t then 1 else 0) + count_new history log (moved history log place b) bs ≤ suc (length bs)
      by true h = omega (arith, h)
      by false h = omega (arith, h)

-- ---- a piece

-- what was delivered and the next piece
joined : (d e : ℕ) (text piece : List ℕ) → d ≤ e → piece ≡ drop d (take e text) → take d text ++ piece ≡ take e text
joined d e text piece h p =
    ap (λ ys. take d text ++ ys) p ∙ ap (λ xs. xs ++ drop d (take e text)) (sym (take-take d e text h)) ∙ take-append-drop d (take e text)

-- what was delivered and a part of the piece
shorter : (before counted uncounted piece prefix behind text : List ℕ) → counted ++ uncounted ≡ piece → before ++ piece ≡ prefix → prefix ++ behind ≡ text
    → (before ++ counted) ++ (uncounted ++ behind) ≡ text
shorter before counted uncounted piece prefix behind text p q r =
    append_assoc before counted (uncounted ++ behind)
    ∙ ap (λ xs. before ++ xs) (sym (append_assoc counted uncounted behind) ∙ ap (λ xs. xs ++ behind) p)
    ∙ sym (append_assoc before piece behind)
    ∙ ap (λ xs. xs ++ behind) q
    ∙ r

no_longer : (before counted uncounted piece prefix : List ℕ) → counted ++ uncounted ≡ piece → before ++ piece ≡ prefix → length before + length counted ≤ length prefix
no_longer before counted uncounted piece prefix p q =
    let a = length-append before piece in
    let b = length-append counted uncounted in
    let c = ap length p in
    let d = ap length q in
    omega arith

drop_take_same : (n : ℕ) (xs : List ℕ) → drop n (take n xs) ≡ []
drop_take_same zero xs = refl
drop_take_same (suc n) [] = refl
drop_take_same (suc n) (x ∷ xs) = drop_take_same n xs

-- ---- the connection's next bytes

take_nil : (n : ℕ) → ◌≡◌ {A = List ℕ} (take n []) []
take_nil zero = refl
take_nil (suc n) = refl

-- a part of a list is cut out from either end first
pub part_of : (d e : ℕ) (xs : List ℕ) → take (e - d) (drop d xs) ≡ drop d (take e xs)
part_of zero e xs = let same : e - 0 ≡ e = omega arith in ap (λ n. take n xs) same
part_of (suc d) zero xs = let none : 0 - suc d ≡ 0 = omega arith in ap (λ n. take n (drop (suc d) xs)) none
part_of (suc d) (suc e) [] = take_nil (suc e - suc d)
part_of (suc d) (suc e) (x ∷ xs) = let less : suc e - suc d ≡ e - d = omega arith in ap (λ n. take n (drop d xs)) less ∙ part_of d e xs

-- a follower that is out of memory was pushed some bytes
pub some_pushed : (s : ConnectionState) (bytes : ℕ) (fault : FollowFault) (answer : Progress) → s.delivered ≤ length s.bytes
    → (s.reader.part ≡ NoMore → ◌≡◌ {A = Result Progress FollowFault} (Err fault) (Err Closed))
    → (next_bytes s bytes ≡ [] → s.reader.part ≢ NoMore → ◌≡◌ {A = Result Progress FollowFault} (Err fault) (Ok answer))
    → IsForMemory fault → s.delivered < delivered_after s bytes
some_pushed s bytes fault answer within closed nothing memory = by (nat_lt s.delivered (delivered_after s bytes)) refl
  where
    going : s.reader.part ≢ NoMore
    going e = let same : fault ≡ Closed = err_is (closed e) in subst IsForMemory same memory
      where
        err_is : ◌≡◌ {A = Result Progress FollowFault} (Err fault) (Err Closed) → fault ≡ Closed
        err_is e = cc

    by : (b : Bool) → nat_lt s.delivered (delivered_after s bytes) ≡ b → s.delivered < delivered_after s bytes
    by true e = ltb-true _ _ e
    by false e =
        let least = ltb-false _ _ e in
        let same : delivered_after s bytes ≡ s.delivered = omega (arith, within, least) in
        let none : next_bytes s bytes ≡ [] = ap (λ n. drop s.delivered (take n s.bytes)) same ∙ drop_take_same s.delivered s.bytes in
        let both = nothing none going in
        absurd (cc)

pub brings_more : (s : ConnectionState) (bytes end : ℕ) (piece : List ℕ) (reader : FollowerState) (old new : MirrorState) (answer : Progress) → end ≡ delivered_after s bytes
    → piece ≡ drop s.delivered (take end s.bytes) → new.limits ≡ old.limits
    → ((start : MirrorState) (before : List ℕ) (standing : Standing) → FollowsAt start before standing s.reader old → GoesOn start (before ++ piece) reader new answer)
    → IsDelivered s bytes old (record { token = s.token; framing = s.framing; reader = reader; bytes = s.bytes; delivered = end; start = s.start; over = s.over }) new
brings_more s bytes end piece reader old new answer at is limits goes =
    let same : piece ≡ next_bytes s bytes = is ∙ ap (λ n. drop s.delivered (take n s.bytes)) at in
    record {
      reader = reader;
      is = ap (λ n. record { token = s.token; framing = s.framing; reader = reader; bytes = s.bytes; delivered = n; start = s.start; over = s.over }) at;
      limits = limits;
      follows = λ start before standing h.
          let g = goes start before standing h in
          (g.0, subst (λ bs. FollowsAt start (before ++ bs) g.0 reader new) same g.2);
    }

-- ---- a delivery

module _ (prefixes : SentIsRead) (one : ReadingIsOne) (responses : ResponsesAreFollowed) (carry : PrefixesCarryMore) (limits : Limits) (log : Log) (is_log : IsLog limits log) (decimal : IsDecimal log)
    (m : Mirror) (f : FollowingMirror) (h : IsMirror limits log m f) (s : ConnectionState) (bytes : ℕ) where
  module _ (c : Connection) (k : IsConnection log c s) (r : IsReading limits log m c s.reader f.mirror) (small : length s.bytes < 2 ^ 64) where
    fits : length (sent_bytes log c) < 2 ^ 64
    fits = subst (λ bs. length bs < 2 ^ 64) k.bytes small

    reaches : (c.delivered ≤ reached log c bytes) × (reached log c bytes ≤ bytes_sent log c)
    reaches = let w = k.within in (omega arith, omega arith)

    after_is : delivered_after s bytes ≡ reached log c bytes
    after_is = λ i. min (k.delivered i + bytes) (length (k.bytes i))

    makes_prefix : take c.delivered (sent_bytes log c) ++ next_bytes s bytes ≡ take (reached log c bytes) (sent_bytes log c)
    makes_prefix =
        joined c.delivered (reached log c bytes) (sent_bytes log c) (next_bytes s bytes) (reaches.0)
        (λ i. drop (k.delivered i) (take (after_is i) (k.bytes i)))

    opened_still : IsOpened limits log r.before c
    opened_still = r.opened

    all_taken : (new : MirrorState) (after : ConnectionState) → IsDelivered s bytes f.mirror after new
        → (old_number new_number : Option ℕ) → IsNumbered f.mirror old_number → IsNumbered new new_number
        → (count : ℕ) → (published_between s.start old_number new_number < 2 ^ 64 → count ≡ published_between s.start old_number new_number)
        → Moves limits log (Ok (delivers limits.history log m c bytes)) (Delivered count) (record f { mirror = new; connection = Some after })
    all_taken new after b old_number new_number was now_is count counted =
        let d = c.delivered in
        let e = reached log c bytes in
        let goes = b.follows r.begun (take d (sent_bytes log c)) r.standing r.follows in
        let follows : FollowsAt r.begun (take e (sent_bytes log c)) goes.0 b.reader new = subst (λ bs. FollowsAt r.begun bs goes.0 b.reader new) makes_prefix goes.1 in
        let to = follows_to prefixes one responses carry limits log is_log r.before c e r.begun new r.opened r.asked
        (subst (λ q. Leaves r.begun q new) (only_at prefixes one responses carry limits log is_log c e b.reader.had_token goes.0 fits follows.stands) follows.leaves) in
        let old = followed_before prefixes one responses carry limits log is_log m c f s.reader h r fits in
        let br = brings prefixes one responses carry limits log is_log m c f s.reader h r fits e new (reaches.0) to in
        let less = come_more prefixes one responses carry limits log is_log m c f s.reader h r fits e (reaches.0) in
        let xs = blocks_come log c d in
        let ys = blocks_come log c e in
        let between = blocks_between log c d e in
        let news = news_compose log limits.history r.before c.parts (come_by log c d) (come_by log c e) less in
        let here : count_new limits.history log m.place between ≡ count_new limits.history log (moved_by limits.history log r.before xs) between = ap (λ place. count_new limits.history log place between) r.place in
        let total : count_new limits.history log r.before ys ≡ count_new limits.history log r.before xs + count_new limits.history log m.place between = omega (arith, news, here) in
        let told_is = told_between c.start (own_number limits log is_log decimal r.before) c.fresh _ _ _ old_number new_number
        (told limits log is_log decimal r.before c d f.mirror old_number r.opened was old) (told limits log is_log decimal r.before c e new new_number r.opened now_is to) total in
        let at_start : published_between c.start old_number new_number ≡ published_between s.start old_number new_number = ap (λ n. published_between n old_number new_number) (sym k.start) in
        let few = few_news limits log is_log decimal limits.history r.before ys in
        let short = parts_have_text limits log c is_log r.opened.order r.opened.sent (come_by log c e) in
        let come = come_few log c e in
        let most = reaches.1 in
        let bound = fits in
        let small_count : published_between s.start old_number new_number < 2 ^ 64 = subst (λ n. n < 2 ^ 64) (told_is ∙ at_start) (omega (arith, total, few, short, come, most, bound)) in
        let same : count ≡ count_new limits.history log m.place between = counted small_count ∙ sym (told_is ∙ at_start) in (
          ap Delivered same,
          record {
            place = br.within;
            upstream = h.upstream;
            bounds = br.bounds;
            node = br.node;
            since = br.since;
            linked = subst (λ t. AreLinked limits log (brought_to limits.history log m c e (Some (record c { delivered = e }))) (Some (record c { delivered = e })) (record f { mirror = new; connection = Some t }) (Some t)) (sym b.is) (
              record { framing = k.framing; bytes = k.bytes; token = k.token; start = k.start; delivered = after_is; within = reaches.1; over = k.over },
              record {
                before = r.before;
                opened = record {
                  mirror = r.opened.mirror;
                  start = r.opened.start;
                  order = record { more = r.opened.order.more; parts = r.opened.order.parts; go_on = r.opened.order.go_on };
                  sent = r.opened.sent;
                };
                place = br.moves;
                begun = r.begun;
                asked = r.asked;
                standing = goes.0;
                follows = follows;
                afresh = br.afresh;
              },
            );
            in_log = h.in_log;
            saved = h.saved;
          },
        )

    -- it broke off behind the first n bytes
    broken_at : (n : ℕ) (x new : MirrorState) → m.connection ≡ Some c → c.delivered < reached log c bytes → c.delivered ≤ n → n ≤ reached log c bytes
        → Leaves r.begun (standing_at c.framing (part_texts log c.parts) n) x → new ≡ cut_off x → BreaksMirror limits log m bytes (record f { mirror = new; connection = None })
    broken_at n x new there some from to leaves cut =
        let at = follows_to prefixes one responses carry limits log is_log r.before c n r.begun x r.opened r.asked leaves in
        let br = brings prefixes one responses carry limits log is_log m c f s.reader h r fits n x from at in
        record {
          connection = c;
          is_linked = there;
          some = some;
          e = n;
          from = from;
          to = to;
          is_mirror = record {
            place = br.within;
            upstream = h.upstream;
            bounds = ap (λ q. q.limits) cut ∙ br.bounds;
            node = ap (λ q. q.node) cut ∙ br.node;
            since = ap (λ q. q.since) cut ∙ br.since;
            linked = ap (λ q. q.connection) cut;
            in_log = h.in_log;
            saved = h.saved;
          };
        }

    -- what is cut with nothing bad stood there before
    stood : (payload : List ℕ) (new : MirrorState) → (cut : IsCutAfter r.begun payload new)
        → HasReached r.begun payload (mirror_after r.begun.limits (present_opening r.begun) cut.notes (rest payload))
    stood payload new cut = record { limits = refl; notes = cut.notes; stands = record { nothing_bad = cut.nothing_bad; state = refl } }

    lost_some : (new : MirrorState) → m.connection ≡ Some c → c.delivered < reached log c bytes
        → HasLostSome r.begun s.reader.had_token (take c.delivered (sent_bytes log c)) (next_bytes s bytes) new
        → BreaksMirror limits log m bytes (record f { mirror = new; connection = None })
    lost_some new there some l =
        let d = c.delivered in
        let e = reached log c bytes in
        let sent = sent_bytes log c in
        let n = d + length l.counted in
        let so_far = length-take-le d sent k.within in
        let ends = length-take-le e sent reaches.1 in
        let size = length-append (take d sent) l.counted in
        let most = no_longer (take d sent) l.counted l.uncounted (next_bytes s bytes) (take e sent) (sym l.whole) makes_prefix in
        let prefix : take (length (take d sent ++ l.counted)) sent ≡ take d sent ++ l.counted =
        prefix_is (take d sent ++ l.counted) (l.uncounted ++ drop e sent) sent (shorter (take d sent) l.counted l.uncounted (next_bytes s bytes) (take e sent) (drop e sent) sent (sym l.whole) makes_prefix (take-append-drop e sent)) in
        let many : length (take d sent ++ l.counted) ≡ n = omega (arith, so_far, size) in
        let is_prefix : take d sent ++ l.counted ≡ take n sent = sym prefix ∙ ap (λ q. take q sent) many in
        let from : d ≤ n = omega arith in
        let to : n ≤ e = omega (arith, most, so_far, ends) in
        let only : (q : Standing) → Stands s.reader.had_token (take d sent ++ l.counted) q → q ≡ standing_at c.framing (part_texts log c.parts) n =
        λ q st. only_at prefixes one responses carry limits log is_log c n s.reader.had_token q fits (subst (λ bs. Stands s.reader.had_token bs q) is_prefix st) in
        elim l.left [
          | inl head ↦ broken_at n r.begun new there some from to (subst (λ q. Leaves r.begun q r.begun) (only in_head head.0) refl) head.1
          | inr body ↦
              let payload = body.0 in
              let cut = body.2 in
              let stood_there = stood payload new cut in
              elim body.1 [
                | inl going ↦ broken_at n _ new there some from to (subst (λ q. Leaves r.begun q (mirror_after r.begun.limits (present_opening r.begun) cut.notes (rest payload))) (only (in_body payload) going) stood_there) cut.state
                | inr whole ↦ absurd (not_plain (done payload) n (only (done payload) whole) (λ p. p))
              ]
        ]
      where
        not_plain : (q : Standing) (n : ℕ) → q ≡ standing_at c.framing (part_texts log c.parts) n → (IsPlain q → ⊥) → ⊥
        not_plain q n e never = never (subst IsPlain (sym e) (plain_at log c n))

    -- what a response with the feed can't be
    never_so : (n : ℕ) (q : Standing) → (IsPlain q → ⊥) → Stands s.reader.had_token (take n (sent_bytes log c)) q → ⊥
    never_so n q never st =
        never (subst IsPlain (sym (only_at prefixes one responses carry limits log is_log c n s.reader.had_token q fits st)) (plain_at log c n))

    -- the piece and what was delivered before it
    never_behind : (q : Standing) → (IsPlain q → ⊥) → Stands s.reader.had_token (take c.delivered (sent_bytes log c) ++ next_bytes s bytes) q → ⊥
    never_behind q never st = never_so (reached log c bytes) q never (subst (λ bs. Stands s.reader.had_token bs q) makes_prefix st)

    body_is : (n : ℕ) (payload : List ℕ) → in_body payload ≡ standing_at c.framing (part_texts log c.parts) n → payload ≡ take (come_by log c n) (sent_text log c)
    body_is n payload e = by (nat_lt n (length (feed_head c.framing))) e ∙ ap (take (come_by log c n)) (joined_parts log c.parts)
      where
        by : (b : Bool) → in_body payload ≡ (if b then in_head else in_body (take (come_by log c n) (joined_texts (part_texts log c.parts))))
            → payload ≡ take (come_by log c n) (joined_texts (part_texts log c.parts))
        by true e = let no : true ≡ false = ap is_body e in absurd (cc)
        by false e = ap payload_of e

    -- nothing that was sent is bad
    good_line : (fault : FeedFault) (new : MirrorState) → HasBadLine r.begun s.reader.had_token (take c.delivered (sent_bytes log c) ++ next_bytes s bytes) fault new → ⊥
    good_line fault new l =
        let e = reached log c bytes in
        let sent = sent_bytes log c in
        let n = length l.prefix in
        let whole : l.prefix ++ (l.later ++ drop e sent) ≡ sent =
        sym (append_assoc l.prefix l.later (drop e sent)) ∙ ap (λ bs. bs ++ drop e sent) (sym l.whole ∙ makes_prefix) ∙ take-append-drop e sent in
        let is_prefix : l.prefix ≡ take n sent = sym (prefix_is l.prefix (l.later ++ drop e sent) sent whole) in
        let text = sent_text log c in
        let k = come_by log c n in
        let opening = opening_at log r.before c.fresh in
        let read = prefixes limits log r.before c (take k text) (drop k text) is_log r.opened (take-append-drop k text) in
        elim l.brings [
          | inl going ↦
              let only = only_at prefixes one responses carry limits log is_log c n s.reader.had_token (in_body l.payload) fits (subst (λ bs. Stands s.reader.had_token bs (in_body l.payload)) is_prefix going) in
              let payload = body_is n l.payload only in
              one.faultless limits opening (take k text) read.notes l.cut.notes fault read.nothing_bad
              (subst (λ t. FaultsAt limits opening t l.cut.notes fault) payload
              (subst (λ o. FaultsAt limits o l.payload l.cut.notes fault) r.asked.opening
              (subst (λ b. FaultsAt b (present_opening r.begun) l.payload l.cut.notes fault) r.asked.limits_are l.cut.first)))
          | inr ended ↦ never_so n (done l.payload) (λ p. p) (subst (λ bs. Stands s.reader.had_token bs (done l.payload)) is_prefix ended)
        ]

    -- a delivery meets no fault but a want of memory
    stopped : (fault : FollowFault) (new : MirrorState) → m.connection ≡ Some c → (IsForMemory fault → c.delivered < reached log c bytes)
        → Fails r.begun s.reader.had_token (take c.delivered (sent_bytes log c)) (next_bytes s bytes) new fault
        → IsForMemory fault × BreaksMirror limits log m bytes (record f { mirror = new; connection = None })
    stopped FollowMemory new there some l = (tt, lost_some new there (some tt) l)
    stopped (Feed FeedMemory) new there some l = (tt, lost_some new there (some tt) l)
    stopped (Feed NotOpen) new there some l = absurd (good_line NotOpen new l)
    stopped (Feed LongLine) new there some l = absurd (good_line LongLine new l)
    stopped (Feed (BadLine fault)) new there some l = absurd (good_line (BadLine fault) new l)
    stopped (Feed StageFull) new there some l = absurd (good_line StageFull new l)
    stopped Closed new there some l = absurd (never_so c.delivered token_refused (λ p. p) l.0)
    stopped LongHead new there some l = absurd (never_behind (failed LongHead l.0) (λ p. p) l.1)
    stopped BadHead new there some l = absurd (never_behind (failed BadHead l.0) (λ p. p) l.1)
    stopped (Status n) new there some l = absurd (never_behind (failed (Status n) l.0) (λ p. p) l.1)
    stopped BadCoding new there some l = absurd (never_behind (failed BadCoding l.0) (λ p. p) l.1)
    stopped BadLength new there some l = absurd (never_behind (failed BadLength l.0) (λ p. p) l.1)
    stopped BadChunk new there some l = absurd (never_behind (failed BadChunk l.0) (λ p. p) l.1)

  pub brings_all : f.connection ≡ Some s → length s.bytes < 2 ^ 64 → (new : MirrorState) (after : ConnectionState) → IsDelivered s bytes f.mirror after new
      → (old_number new_number : Option ℕ) → IsNumbered f.mirror old_number → IsNumbered new new_number
      → (count : ℕ) → (published_between s.start old_number new_number < 2 ^ 64 → count ≡ published_between s.start old_number new_number)
      → Moves limits log (mirror_delivers limits.history log bytes m) (Delivered count) (record f { mirror = new; connection = Some after })
  brings_all there small new after b old_number new_number was now_is count counted = by m.connection (subst (AreLinked limits log m m.connection f) there h.linked)
    where
      by : (o : Option Connection) → AreLinked limits log m o f (Some s)
          → Moves limits log (with_connection o (λ c. delivers limits.history log m c bytes)) (Delivered count) (record f { mirror = new; connection = Some after })
      by None l = absurd l
      by (Some c) l = all_taken c l.0 l.1 small new after b old_number new_number was now_is count counted

  pub brings_some : f.connection ≡ Some s → length s.bytes < 2 ^ 64 → (number : ℕ) (fault : FollowFault) (new : MirrorState) → (IsForMemory fault → s.delivered < delivered_after s bytes)
      → ((start : MirrorState) (before : List ℕ) (standing : Standing) → FollowsAt start before standing s.reader f.mirror → Fails start s.reader.had_token before (next_bytes s bytes) new fault)
      → (after : Option ConnectionState) → after ≡ None → IsBrought limits log m number bytes (Broke number fault) (record f { mirror = new; connection = after })
  brings_some there small number fault new some fails after is =
      subst (λ o. IsBrought limits log m number bytes (Broke number fault) (record f { mirror = new; connection = o })) (sym is)
      (by m.connection refl (subst (AreLinked limits log m m.connection f) there h.linked))
    where
      by : (o : Option Connection) → m.connection ≡ o → AreLinked limits log m o f (Some s)
          → IsBrought limits log m number bytes (Broke number fault) (record f { mirror = new; connection = None })
      by None e l = absurd l
      by (Some c) e l =
          let k = l.0 in
          let r = l.1 in
          let less : IsForMemory fault → c.delivered < reached log c bytes = λ memory. subst (λ n. n < reached log c bytes) k.delivered (subst (λ n. s.delivered < n) (after_is c k r small) (some memory)) in
          let stop = stopped c k r small fault new e less (fails r.begun (take c.delivered (sent_bytes log c)) r.standing r.follows) in
          inr ((fault, refl, stop.0), stop.1)
