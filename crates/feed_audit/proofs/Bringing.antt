-- The line of a text that brings what is published last.
use Rattle.std.proofs.Common.{◌≡◌, refl, sym, ap, ◌∙◌, subst, ℕ, ◌+◌, ◌<◌, min, List, [], ◌∷◌, ◌++◌, length, length-append, append_assoc, append-nil, arith, Some}
use Rattle.std.specs.List.{AllByRecursion}
use Rattle.feed_settings.specs.Limits.{Limits}
use Rattle.feed_note.specs.Lines.{HasNoLineFeed, lines, ended}
use Rattle.feed_note.specs.Meaning.{OnlyOne}
use Rattle.feed_node.specs.Publishing.{Published}
use Rattle.feed_note.specs.declared.line.Line.{Line}
use Rattle.feed_node.specs.Mirroring.{MirrorState}
use Rattle.feed_node.specs.Reading.{Opening, AllGood, AllGoodAfter}
use Rattle.feed_audit.specs.States.{Start, IsStateFrom}
use Rattle.feed_audit.specs.Walks.{ReadsMore, AllAre}
use Rattle.feed_audit.proofs.Agreeing.{agree_by, good_of, lines_walked}
use Rattle.feed_audit.proofs.Walking.{published_is, all_end, walked_length}
use Rattle.feed_records.proofs.EndedLines.{lines_of_ended}

unsnoc : {X : Type 0} (xs : List X) → 0 < length xs → (ys : List X) × (y : X) × (xs ≡ ys ++ y ∷ [])
unsnoc [] h = absurd (omega arith)
unsnoc (x ∷ []) h = ([], x, refl)
unsnoc (x ∷ z ∷ zs) h = let later = unsnoc (z ∷ zs) (omega arith) in (x ∷ later.0, later.1, ap (λ t. x ∷ t) later.2)

good_init : (limits : Limits) (opening : Opening) (earlier : List Line) (xs : List (List ℕ)) (x : List ℕ) (notes : List Line) (note : Line)
    → AllGoodAfter limits opening earlier (xs ++ x ∷ []) (notes ++ note ∷ []) → AllGoodAfter limits opening earlier xs notes
good_init limits opening earlier [] x [] note h = tt
good_init limits opening earlier [] x (m ∷ []) note h = absurd h.1
good_init limits opening earlier [] x (m ∷ k ∷ ms) note h = absurd h.1
good_init limits opening earlier (y ∷ []) x [] note h = absurd h.1
good_init limits opening earlier (y ∷ z ∷ zs) x [] note h = absurd h.1
good_init limits opening earlier (y ∷ ys) x (m ∷ ms) note h = (h.0, good_init limits opening (earlier ++ m ∷ []) ys x ms note h.1)

whole_init : (xs : List (List ℕ)) (x : List ℕ) → AllByRecursion HasNoLineFeed (xs ++ x ∷ []) → AllByRecursion HasNoLineFeed xs
whole_init [] x h = tt
whole_init (y ∷ ys) x h = (h.0, whole_init ys x h.1)

-- Of a text that was read so far, this many lines come before the one that publishes this, and what
-- was published before is so.
pub record Brings (start : Start) (P : Published → Type 0) (text : List ℕ) (before : List Line) (line_count : ℕ) (state : Published) : Type 0 where
  pub earlier : List (List ℕ)
  pub line : List ℕ
  pub later : List (List ℕ)
  pub whole : lines text ≡ earlier ++ line ∷ later
  pub counted : line_count ≡ min (length earlier + 1) 18446744073709551615
  pub good : AllGood start.limits start.opening earlier before
  pub former : (former : Published) → IsStateFrom start (ended earlier) former → P former
  pub is : IsStateFrom start (ended (earlier ++ line ∷ [])) state

pub brings : OnlyOne → (start : Start) (P : Published → Type 0) (text behind : List ℕ) (read : List Line) (count : ℕ) (mirror : MirrorState) (state : Published)
    → AllAre start P read → (g : ReadsMore start text behind read count mirror) → mirror.node.published ≡ Some state
    → Brings start P text (read ++ g.before) count state
brings only start P text behind read count mirror state all g shows =
    let en = read ++ g.before in
    let notes = read ++ (g.before ++ g.note ∷ []) in
    let w = g.walked in
    let said = walked_length start w.seen notes mirror w.whole w.stands in
    let sizes = length-append read (g.before ++ g.note ∷ []) in
    let more = length-append g.before (g.note ∷ []) in
    let parts = unsnoc w.seen (omega arith) in
    let earlier = parts.0 in
    let line = parts.1 in
    let cut : w.seen ≡ earlier ++ line ∷ [] = parts.2 in
    let whole = subst (AllByRecursion HasNoLineFeed) cut w.whole in
    let good = subst (λ ls. AllGood start.limits start.opening ls notes) cut (good_of start text behind notes count mirror w) in
    let regrouped : notes ≡ en ++ g.note ∷ [] = sym (append_assoc read g.before (g.note ∷ [])) in
    let good_earlier = good_init start.limits start.opening [] earlier line en g.note (subst (AllGood start.limits start.opening (earlier ++ line ∷ [])) regrouped good) in
    let long : length (earlier ++ line ∷ []) ≡ length earlier + 1 = length-append earlier (line ∷ []) in
    let sized = ap length cut in
    let said_count = w.counted in
    record {
      earlier = earlier;
      line = line;
      later = lines behind;
      whole = lines_walked start text behind notes count mirror w ∙ ap (λ s. s ++ lines behind) cut ∙ append_assoc earlier (line ∷ []) (lines behind);
      counted = omega arith;
      good = good_earlier;
      former = agree_by only start P (ended earlier) en
          (subst (λ ls. AllGood start.limits start.opening ls en) (sym (lines_of_ended earlier (whole_init earlier line whole))) good_earlier)
          (all_end start P read g.before all g.quiet);
      is = record {
        first = earlier ++ line ∷ [];
        later = [];
        notes = notes;
        whole = lines_of_ended (earlier ++ line ∷ []) whole ∙ sym (append-nil (earlier ++ line ∷ []));
        good = good;
        shown = sym (published_is start text behind notes count mirror w) ∙ shows;
      };
    }
