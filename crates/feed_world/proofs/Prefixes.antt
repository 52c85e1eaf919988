-- Whatever prefix of what was sent came, its lines are taken one after another, and each whole
-- block moves the mirror on.
use Rattle.std.proofs.Common.{◌≡◌, refl, sym, ap, ◌∙◌, subst, ℕ, suc, ◌+◌, ◌-◌, ◌<◌, ◌≤◌, Bool, true, false, not, ◌&&◌, arith, List, [], ◌∷◌, ◌++◌, length, Option, Some, None, nat_le, nat_lt, ltb-true, ltb-false, ◌||◌, leb-true, leb-false, eqb-true, length-append}
use Rattle.std.specs.Prelude.{if◌then◌else◌, ◌==◌, ◌≢◌}
use Rattle.std.proofs.lemmas.Bool.{le-leb}
use Rattle.std.proofs.lemmas.List.Sums.{fold-append}
use Rattle.feed_settings.specs.Limits.{Limits, History}
use Rattle.feed_tables.specs.Listings.{ListingIsWithin}
use Rattle.feed_note.specs.declared.line.Line.{Line}
use Rattle.feed_note.specs.declared.line.Line.TheVariants.{Note, KeepAlive}
use Rattle.feed_note.specs.Lines.{lines, rest}
use Rattle.feed_node.specs.Bounds.{is_large}
use Rattle.feed_node.specs.declared.fault.FeedFault.TheVariants.{StageFull}
use Rattle.feed_node.specs.Sent.{TakesText, TextsGoOn, PublishesNothing, PublishesAtEnd, BatchesPublishAtEnd, SnapshotsPublishAtEnd, fresh_on, renewed_on}
use Rattle.feed_node.specs.States.{Node, holds_token, published_tables}
use Rattle.feed_node.specs.Staging.{StagingState, staging, publishing, step, steps, times_published, AllTaken}
use Rattle.feed_node.specs.Steps.{StepsRead, StepsCount, TakenAreGood, standing_after}
use Rattle.feed_world.specs.Connection.{Part, Snapshot, Commit, Line_feed, part_text, parts_text, block_onto, blocks_within, moved, moved_by, count_new, GoOn, first_parts}
use Rattle.feed_world.specs.Log.{Log, changes_of_commit, IsLog, tokens_of}
use Rattle.feed_world.specs.Position.{Position, commits_after, node_where, renewed, node_at, IsPosition, IsPlaceOfLog}
use Rattle.feed_world.specs.Reading.{opening_at, SentIsRead}
use Rattle.feed_world.proofs.Commits.{light_here, state_one_more, next_not_held, next_position, renewed_is_position, latest_at, state_at, state_is_small, state_is_sendable}
use Rattle.feed_world.proofs.Growth.{goes_up}
use Rattle.feed_node.proofs.Bounds.{full_none}
use Rattle.feed_node.proofs.TextLines.{cuts_of_one}
use Rattle.feed_node.proofs.Going.{times-append}
use Rattle.feed_world.proofs.Served.{holds}
use Rattle.std.proofs.Math.Bool.{and-true as and_true}

-- a mirror at a place, with nothing staged
abbrev standing : History → Log → Option Position → Bool → StagingState
standing history log place afresh = record { node = record { shown = node_where log place; history = history }; afresh = afresh; changes = [] }

pub not_zero : (n : ℕ) → (suc n == 0) ≡ false
not_zero n = by (suc n == 0) refl
  where
    by : (b : Bool) → (suc n == 0) ≡ b → (suc n == 0) ≡ false
    by true e = let same : suc n ≡ 0 = eqb-true (suc n) 0 e in absurd (omega arith)
    by false e = e

-- the lines of one part are taken and publish this many times, and before its end nothing is
-- published
record IsTakenPart (limits : Limits) (log : Log) (s : StagingState) (part : Part) (t : StagingState) (many : ℕ) : Type 0 where
  notes : List Line
  takes : TakesText limits s (part_text log part) notes
  ended : rest (part_text log part) ≡ []
  leads_to : steps s notes ≡ t
  count : times_published s notes ≡ many
  before : (prefix behind : List ℕ) → prefix ++ behind ≡ part_text log part → behind ≢ [] → (some : List Line) × TakesText limits s prefix some × PublishesNothing s some

-- a prefix of these parts was taken
record IsTakenPrefix (limits : Limits) (log : Log) (place : Option Position) (afresh : Bool) (parts : List Part) (prefix : List ℕ) : Type 0 where
  notes : List Line
  takes : TakesText limits (standing limits.history log place afresh) prefix notes
  shown : (steps (standing limits.history log place afresh) notes).node.shown ≡ node_where log (moved_by limits.history log place (blocks_within log parts (length prefix)))
  anew : (steps (standing limits.history log place afresh) notes).afresh ≡ (afresh && (length (blocks_within log parts (length prefix)) == 0))
  count : times_published (standing limits.history log place afresh) notes ≡ count_new limits.history log place (blocks_within log parts (length prefix))

-- what a part and those after it have in common with those after it
record Moves (history : History) (log : Log) (from : Option Position) (afresh : Bool) (part : Part) (next : Option Position) (next_afresh : Bool) (many : ℕ) : Type 0 where
  place : (bs : List Part) → moved_by history log next bs ≡ moved_by history log from (block_onto part bs)
  anew : (bs : List Part) → (next_afresh && (length bs == 0)) ≡ (afresh && (length (block_onto part bs) == 0))
  count : (bs : List Part) → many + count_new history log next bs ≡ count_new history log from (block_onto part bs)

-- no bytes have no lines
no_lines : (limits : Limits) (s : StagingState) → TakesText limits s [] []
unfolding lines rest
no_lines limits s = record { taken = tt; short = omega arith }

module _ (goes_on : TextsGoOn) (limits : Limits) (log : Log) where
  whole_part : (place next : Option Position) (afresh next_afresh : Bool) (many : ℕ) (part : Part) (parts : List Part) (prefix : List ℕ)
      → IsTakenPart limits log (standing limits.history log place afresh) part (standing limits.history log next next_afresh) many
      → Moves limits.history log place afresh part next next_afresh many
      → nat_le (length (part_text log part)) (length prefix) ≡ true
      → (m : List ℕ) → prefix ≡ part_text log part ++ m → IsTakenPrefix limits log next next_afresh parts m → IsTakenPrefix limits log place afresh (part ∷ parts) prefix
  whole_part place next afresh next_afresh many part parts prefix t moves is m prefix_is g =
      let s = standing limits.history log place afresh in
      let l : length prefix ≡ length (part_text log part) + length m = ap length prefix_is ∙ length-append (part_text log part) m in
      let left : length prefix - length (part_text log part) ≡ length m = omega arith in
      let bs = blocks_within log parts (length m) in
      let blocks : blocks_within log (part ∷ parts) (length prefix) ≡ block_onto part bs =
      ap (λ b. if b then block_onto part (blocks_within log parts (length prefix - length (part_text log part))) else []) is
      ∙ ap (λ n. block_onto part (blocks_within log parts n)) left in
      let stepped : steps s (t.notes ++ g.notes) ≡ steps (standing limits.history log next next_afresh) g.notes = fold-append step s t.notes g.notes ∙ ap (λ z. steps z g.notes) t.leads_to in
      record {
        notes = t.notes ++ g.notes;
        takes = subst (λ text. TakesText limits s text (t.notes ++ g.notes)) (sym prefix_is)
            (goes_on limits s (part_text log part) m t.notes g.notes t.ended t.takes (subst (λ z. TakesText limits z m g.notes) (sym t.leads_to) g.takes));
        shown = ap (λ z. z.node.shown) stepped ∙ g.shown ∙ ap (node_where log) (moves.place bs ∙ ap (moved_by limits.history log place) (sym blocks));
        anew = ap (λ z. z.afresh) stepped ∙ g.anew ∙ moves.anew bs ∙ ap (λ ps. afresh && (length ps == 0)) (sym blocks);
        count = times-append s t.notes g.notes ∙ ap (λ z. times_published s t.notes + times_published z g.notes) t.leads_to
            ∙ (λ i. t.count i + g.count i) ∙ moves.count bs ∙ ap (count_new limits.history log place) (sym blocks);
      }

  part_of_part : (place next : Option Position) (afresh next_afresh : Bool) (many : ℕ) (part : Part) (parts : List Part) (prefix : List ℕ)
      → IsTakenPart limits log (standing limits.history log place afresh) part (standing limits.history log next next_afresh) many
      → nat_le (length (part_text log part)) (length prefix) ≡ false
      → (m : List ℕ) → part_text log part ≡ prefix ++ m → IsTakenPrefix limits log place afresh (part ∷ parts) prefix
  part_of_part place next afresh next_afresh many part parts prefix t is m text_is =
      let less = leb-false _ _ is in
      let same = ap length text_is ∙ length-append prefix m in
      let f = t.before prefix m (sym text_is) (λ e. let none = ap length e in absurd (omega (arith, less, same, none))) in
      let none = f.2 in
      let blocks : blocks_within log (part ∷ parts) (length prefix) ≡ [] =
      ap (λ b. if b then block_onto part (blocks_within log parts (length prefix - length (part_text log part))) else []) is in
      record {
        notes = f.0;
        takes = f.1;
        shown = ap (λ n. n.shown) none.node ∙ ap (λ ps. node_where log (moved_by limits.history log place ps)) (sym blocks);
        anew = none.afresh ∙ sym (and_true afresh) ∙ ap (λ ps. afresh && (length ps == 0)) (sym blocks);
        count = none.count ∙ ap (count_new limits.history log place) (sym blocks);
      }

  -- one part, and then those after it
  one_part : (place next : Option Position) (afresh next_afresh : Bool) (many : ℕ) (part : Part) (parts : List Part)
      → IsTakenPart limits log (standing limits.history log place afresh) part (standing limits.history log next next_afresh) many
      → Moves limits.history log place afresh part next next_afresh many
      → ((prefix behind : List ℕ) → prefix ++ behind ≡ parts_text log parts → IsTakenPrefix limits log next next_afresh parts prefix)
      → (prefix behind : List ℕ) → prefix ++ behind ≡ parts_text log (part ∷ parts) → IsTakenPrefix limits log place afresh (part ∷ parts) prefix
  one_part place next afresh next_afresh many part parts t moves go prefix behind e = by (nat_le (length (part_text log part)) (length prefix)) refl
    where
      by : (b : Bool) → nat_le (length (part_text log part)) (length prefix) ≡ b → IsTakenPrefix limits log place afresh (part ∷ parts) prefix
      by true is =
          let c = cuts_of_one (part_text log part) (parts_text log parts) prefix behind (sym e) (leb-true _ _ is) in
          whole_part place next afresh next_afresh many part parts prefix t moves is c.0 c.1 (go c.0 behind (sym c.2))
      by false is =
          let less = leb-false _ _ is in
          let c = cuts_of_one prefix behind (part_text log part) (parts_text log parts) e (omega arith) in
          part_of_part place next afresh next_afresh many part parts prefix t is c.0 c.1

  no_part : (place : Option Position) (afresh : Bool) (prefix behind : List ℕ) → prefix ++ behind ≡ [] → IsTakenPrefix limits log place afresh [] prefix
  no_part place afresh (x ∷ prefix) behind e = absurd (cc)
  no_part place afresh [] behind e =
      record { notes = []; takes = no_lines limits (standing limits.history log place afresh); shown = refl; anew = sym (and_true afresh); count = refl }

module _ (goes_on : TextsGoOn) (batches : BatchesPublishAtEnd) (snapshots : SnapshotsPublishAtEnd) (listed_within : ListingIsWithin) (limits : Limits) (log : Log) (is_log : IsLog limits log) where
  prefix_of_line_feed : (s : StagingState) (prefix behind : List ℕ) → prefix ++ behind ≡ 10 ∷ [] → behind ≢ [] → (some : List Line) × TakesText limits s prefix some × PublishesNothing s some
  prefix_of_line_feed s [] behind e some = ([], no_lines limits s, record { node = refl; afresh = refl; count = refl })
  prefix_of_line_feed s (x ∷ prefix) [] e some = absurd (some refl)
  prefix_of_line_feed s (x ∷ prefix) (y ∷ behind) e some = let l = ap length e in let m = length-append prefix (y ∷ behind) in absurd (omega (arith, l, m))

  taken_line_feed : (place : Option Position) (afresh : Bool) → IsTakenPart limits log (standing limits.history log place afresh) Line_feed (standing limits.history log place afresh) 0
  unfolding lines rest
  taken_line_feed place afresh =
      record {
        notes = KeepAlive ∷ [];
        takes = record { taken = (record { short = omega arith; means = refl; fits = ap (λ b. if b || false then Some StageFull else None) (full_none limits) }, tt); short = omega arith };
        ended = refl;
        leads_to = refl;
        count = refl;
        before = prefix_of_line_feed (standing limits.history log place afresh);
      }

  at_end : (s t : StagingState) (part : Part) (many : ℕ) (end : StagingState) (count : ℕ) → PublishesAtEnd limits s (part_text log part) end count → end ≡ t → count ≡ many → IsTakenPart limits log s part t many
  at_end s t part many end count p e same = record { notes = p.notes; takes = p.takes; ended = p.ended; leads_to = p.leads_to ∙ e; count = p.counted ∙ same; before = p.before }

  taken_commit : (p : Position) → IsPosition limits log p → suc p.at ≤ length log.commits
      → IsTakenPart limits log (standing limits.history log (Some p) false) (Commit (suc p.at)) (standing limits.history log (Some (renewed limits.history log (suc p.at) p.low)) false) 1
  taken_commit p h within =
      let s = standing limits.history log (Some p) false in
      let cs = changes_of_commit log (suc p.at) in
      let token = log.token (suc p.at) in
      let accepted = is_log.accepted (suc p.at) (omega arith) within in
      let position = next_position limits.history log p h.order within in
      let held = next_not_held log is_log.named p h.order within in
      let leads : step s (Note cs (Some token)) ≡ publishing (staging s cs) token = ap (λ b. if b then s else publishing (staging s cs) token) held in
      let many : times_published s (Note cs (Some token) ∷ []) ≡ 1 = ap (λ b. (if not b then 1 else 0) + 0) held in
      at_end s (standing limits.history log (Some (renewed limits.history log (suc p.at) p.low)) false) (Commit (suc p.at)) 1 (step s (Note cs (Some token)))
      (times_published s (Note cs (Some token) ∷ []))
      (batches limits s cs token (record {
        some = accepted.some;
        within = accepted.changes;
        name = is_log.named.names (suc p.at) within;
        few = accepted.few;
        small = subst (λ z. is_large limits (published_tables z.node.shown) ≡ false) (sym leads) (subst (λ t. is_large limits t ≡ false) (state_one_more log p.at (omega arith)) accepted.small);
      }))
      (leads ∙ (λ i. record { node = record { shown = position i; history = limits.history }; afresh = false; changes = [] })) many

  -- a commit that the mirror holds is skipped
  taken_again : (p : Position) (n : ℕ) → IsPosition limits log p → p.low < n → n ≤ p.at
      → IsTakenPart limits log (standing limits.history log (Some p) false) (Commit n) (standing limits.history log (Some p) false) 0
  taken_again p n h from to =
      let s = standing limits.history log (Some p) false in
      let cs = changes_of_commit log n in
      let token = log.token n in
      let in_log = h.in_log in
      let accepted = is_log.accepted n (omega arith) (omega arith) in
      let held : holds_token (node_at log p) token ≡ true = holds log is_log.named p h.order in_log n (omega (arith, to, in_log)) ∙ both (le-leb p.low n (omega arith)) (le-leb n p.at to) in
      let leads : step s (Note cs (Some token)) ≡ s = ap (λ b. if b then s else publishing (staging s cs) token) held in
      let many : times_published s (Note cs (Some token) ∷ []) ≡ 0 = ap (λ b. (if not b then 1 else 0) + 0) held in
      at_end s s (Commit n) 0 (step s (Note cs (Some token))) (times_published s (Note cs (Some token) ∷ []))
      (batches limits s cs token (record {
        some = accepted.some;
        within = accepted.changes;
        name = is_log.named.names n (omega (arith, to, in_log));
        few = accepted.few;
        small = subst (λ z. is_large limits (published_tables z.node.shown) ≡ false) (sym leads) (state_is_small limits log is_log p.at in_log);
      }))
      leads many
    where
      both : {a b : Bool} → a ≡ true → b ≡ true → (a && b) ≡ true
      both e f = λ i. e i && f i

  taken_snapshot : (place : Option Position) (k : ℕ) → k ≤ length log.commits
      → IsTakenPart limits log (standing limits.history log place true) (Snapshot k) (standing limits.history log (Some (record { at = k; low = k })) false) 1
  taken_snapshot place k within =
      let z : 0 ≡ k - k = omega arith in
      let node : Node = record { shown = node_where log place; history = limits.history } in
      at_end (fresh_on node) (standing limits.history log (Some (record { at = k; low = k })) false) (Snapshot k) 1 (renewed_on node (state_at log k)) 1
      (snapshots limits node (state_at log k) (state_is_sendable listed_within limits log is_log k within) is_log.range.staged_from (state_is_small limits log is_log k within))
      (λ i. record {
        node = record { shown = record { published = Some (state_at log k); held = tokens_of log k (suc (z i)); kept = commits_after log k (z i) }; history = limits.history };
        afresh = false;
        changes = [];
      })
      refl

  -- a commit is new, or it is not
  moves_on : (p q : Position) (n many : ℕ) (b : Bool) → nat_lt p.at n ≡ b → (if b then renewed limits.history log n p.low else p) ≡ q → (if b then 1 else 0) ≡ many
      → Moves limits.history log (Some p) false (Commit n) (Some q) false many
  moves_on p q n many b is next counts =
      let place : Some q ≡ moved limits.history log (Some p) (Commit n) = sym (ap (λ a. Some (if a then renewed limits.history log n p.low else p)) is ∙ ap Some next) in
      let news : many ≡ (if nat_lt p.at n then 1 else 0) = sym (ap (λ a. if a then 1 else 0) is ∙ counts) in
      record {
        place = λ bs. ap (λ z. moved_by limits.history log z bs) place;
        anew = λ bs. refl;
        count = λ bs i. news i + count_new limits.history log (place i) bs;
      }

  -- from a number on of which the mirror holds the token
  since : (more : List Part) (p : Position) (k last : ℕ) → IsPosition limits log p → p.low ≤ k → k ≤ p.at → GoOn k more last → last ≤ length log.commits
      → (prefix behind : List ℕ) → prefix ++ behind ≡ parts_text log more → IsTakenPrefix limits log (Some p) false more prefix
  since [] p k last h from to g within prefix behind e = no_part goes_on limits log (Some p) false prefix behind e
  since (Snapshot n ∷ more) p k last h from to g within prefix behind e = absurd g
  since (Line_feed ∷ more) p k last h from to g within prefix behind e =
      one_part goes_on limits log (Some p) (Some p) false false 0 Line_feed more (taken_line_feed (Some p) false)
      (record { place = λ bs. refl; anew = λ bs. refl; count = λ bs. omega arith }) (since more p k last h from to g within) prefix behind e
  since (Commit n ∷ more) p k last h from to g within prefix behind e =
      by (λ q. since more q (k + 1) last) (nat_lt p.at n) refl prefix behind e
    where
      by : ((q : Position) → IsPosition limits log q → q.low ≤ k + 1 → k + 1 ≤ q.at → GoOn (k + 1) more last → last ≤ length log.commits
          → (prefix behind : List ℕ) → prefix ++ behind ≡ parts_text log more → IsTakenPrefix limits log (Some q) false more prefix)
          → (b : Bool) → nat_lt p.at n ≡ b
          → (prefix behind : List ℕ) → prefix ++ behind ≡ parts_text log (Commit n ∷ more) → IsTakenPrefix limits log (Some p) false (Commit n ∷ more) prefix
      by go true is =
          let less = ltb-true p.at n is in
          let up = goes_up (k + 1) more last g.1 in
          let next : suc p.at ≤ length log.commits = omega (arith, g.0) in
          let same : suc p.at ≡ n = omega (arith, g.0) in
          let q = renewed limits.history log (suc p.at) p.low in
          let there = renewed_is_position limits log p h next in
          let order = there.order in
          subst (λ m. (prefix behind : List ℕ) → prefix ++ behind ≡ parts_text log (Commit m ∷ more) → IsTakenPrefix limits log (Some p) false (Commit m ∷ more) prefix) same
          (one_part goes_on limits log (Some p) (Some q) false false 1 (Commit (suc p.at)) more (taken_commit p h next)
          (moves_on p q (suc p.at) 1 true (ap (nat_lt p.at) same ∙ is) refl refl)
          (go q there (omega (arith, g.0)) (omega (arith, g.0)) g.1 within))
      by go false is =
          let less = ltb-false p.at n is in
          one_part goes_on limits log (Some p) (Some p) false false 0 (Commit n) more (taken_again p n h (omega (arith, g.0)) (omega arith))
          (moves_on p p n 0 false is refl refl)
          (go p h (omega arith) (omega (arith, g.0)) g.1 within)

  -- a fresh connection
  fresh : (place : Option Position) (start : ℕ) (more : List Part) (last : ℕ) → GoOn start more last → last ≤ length log.commits
      → (prefix behind : List ℕ) → prefix ++ behind ≡ parts_text log (Snapshot start ∷ more) → IsTakenPrefix limits log place true (Snapshot start ∷ more) prefix
  fresh place start more last g within prefix behind e =
      let up = goes_up start more last g in
      let here : start ≤ length log.commits = omega arith in
      let h : IsPosition limits log (record { at = start; low = start }) = record { order = omega arith; kept = omega arith; light = light_here limits log start; in_log = here } in
      one_part goes_on limits log place (Some (record { at = start; low = start })) true false 1 (Snapshot start) more (taken_snapshot place start here)
      (record { place = λ bs. refl; anew = λ bs. sym (not_zero (length bs)); count = λ bs. omega arith })
      (since more (record { at = start; low = start }) start last h (omega arith) (omega arith) g within) prefix behind e

  either : (is_fresh : Bool) (place : Option Position) (start : ℕ) (parts : List Part) (last : ℕ) → IsPlaceOfLog limits log place
      → (is_fresh ≡ false → (own : Position) × (place ≡ Some own) × (own.low ≤ start) × (start ≤ own.at))
      → (more : List Part) → parts ≡ first_parts is_fresh start ++ more → GoOn start more last → last ≤ length log.commits
      → (prefix behind : List ℕ) → prefix ++ behind ≡ parts_text log parts → IsTakenPrefix limits log place is_fresh parts prefix
  either true place start parts last p at more e g within prefix behind f =
      subst (λ ps. IsTakenPrefix limits log place true ps prefix) (sym e) (fresh place start more last g within prefix behind (f ∙ ap (parts_text log) e))
  either false place start parts last p at more e g within prefix behind f =
      let own = at refl in
      subst (λ q. IsTakenPrefix limits log q false parts prefix) (sym own.1)
      (subst (λ ps. IsTakenPrefix limits log (Some own.0) false ps prefix) (sym e)
      (since more own.0 start last (subst (IsPlaceOfLog limits log) own.1 p) own.2 own.3 g within prefix behind (f ∙ ap (parts_text log) e)))

pub prefixes_are_read : TextsGoOn → BatchesPublishAtEnd → SnapshotsPublishAtEnd → ListingIsWithin → StepsRead → StepsCount → TakenAreGood → SentIsRead
prefixes_are_read goes_on batches snapshots listed_within read counted good limits log place c prefix behind is_log opened e =
    let g = either goes_on batches snapshots listed_within limits log is_log c.fresh place c.start c.parts c.last opened.mirror opened.start opened.order.more opened.order.parts opened.order.go_on opened.sent prefix behind e in
    let opening = opening_at log place c.fresh in
    let latest = latest_at limits log place opened.mirror in
    let begins : standing_after limits.history opening [] ≡ standing limits.history log place c.fresh =
    (λ i. record { node = record { shown = latest i; history = limits.history }; afresh = and_true c.fresh i; changes = [] }) in
    let ends : steps (standing limits.history log place c.fresh) g.notes ≡ standing_after limits.history opening g.notes =
    ap (λ s. steps s g.notes) (sym begins) ∙ read limits.history opening g.notes in
    record {
      notes = g.notes;
      nothing_bad = record { good = good limits opening (lines prefix) g.notes (subst (λ s. AllTaken limits s (lines prefix) g.notes) (sym begins) g.takes.taken); short = g.takes.short };
      shows = sym (ap (λ s. s.node.shown) ends) ∙ g.shown;
      awaits = sym (ap (λ s. s.afresh) ends) ∙ g.anew;
      published = sym (counted limits.history opening g.notes) ∙ ap (λ s. times_published s g.notes) begins ∙ g.count;
    }
