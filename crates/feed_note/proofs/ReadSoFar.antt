-- The lines of a text that were read, and what is left of it.
use Rattle.std.proofs.Common.{◌≡◌, refl, sym, ap, ◌∙◌, subst, ℕ, ◌+◌, ◌<◌, ◌≤◌, inl, inr, List, [], ◌∷◌, ◌++◌, length, append_assoc, append-nil, arith, length-append}
use Rattle.std.specs.List.{AllZip, sum_by}
use Rattle.std.proofs.lemmas.List.Sums.{sum_by_push}
use Rattle.std.proofs.lemmas.Slice.Zip.{AllZip-long}
use Rattle.feed_text.specs.Limits.{line_bytes}
use Rattle.feed_note.specs.Lines.{lines, rest}
use Rattle.feed_note.specs.Notes.{changes_in}
use Rattle.feed_note.specs.Counts.{IsRead, AreRead, StopsAt}
use Rattle.feed_note.specs.Steps.{BeginsWith, TakesNote, IsUnfinished, StopsNext}
use Rattle.feed_note.specs.declared.line.Line.{Line}
use Rattle.feed_note.specs.declared.stop.LineStop.{LineStop}
use Rattle.feed_note.proofs.LinesCut.{no_lines, one_line, no_rest, rest_behind}
use Rattle.feed_note.proofs.ChangeBounds.{changes-le-bytes}

abbrev pub change_count : Line → ℕ
change_count note = length (changes_in note)

-- the lines before what is left are read as these notes; neither they nor their changes are more
-- than their bytes
pub record ReadSoFar (text left : List ℕ) (notes : List Line) : Type 0 where
  pub seen : List (List ℕ)
  pub lines_are : lines text ≡ seen ++ lines left
  pub rest_is : rest text ≡ rest left
  pub read : AllZip IsRead seen notes
  pub size : length notes + length left ≤ length text
  pub changes : sum_by change_count notes + length left ≤ length text

pub starts : (text : List ℕ) → ReadSoFar text text []
starts text = record { seen = []; lines_are = refl; rest_is = refl; read = tt; size = omega arith; changes = omega arith }

pub zip_more : (xs : List (List ℕ)) (ys : List Line) (x : List ℕ) (y : Line) → AllZip IsRead xs ys → IsRead x y → AllZip IsRead (xs ++ x ∷ []) (ys ++ y ∷ [])
zip_more [] [] x y h k = (k, tt)
zip_more [] (b ∷ bs) x y h k = absurd h
zip_more (a ∷ ls) [] x y h k = absurd h
zip_more (a ∷ ls) (b ∷ bs) x y h k = (h.0, zip_more ls bs x y h.1 k)

-- the lines behind a first line
lines_on : (text left line behind : List ℕ) (seen : List (List ℕ)) → lines text ≡ seen ++ lines left → BeginsWith left line behind → lines text ≡ seen ++ line ∷ lines behind
lines_on text left line behind seen e first = e ∙ ap (λ l. seen ++ l) (ap lines first.is ∙ one_line line behind first.whole)

-- the bytes of the first line, its line feed and those behind it
bytes_of : (left line behind : List ℕ) → BeginsWith left line behind → length left ≡ length line + (1 + length behind)
bytes_of left line behind first =
    let whole = ap length first.is in
    let parts = length-append line (10 ∷ behind) in
    omega arith

-- so many changes and bytes are no more than the text has
pub changes_fit : (left behind : List ℕ) (note : Line) → TakesNote left note behind → change_count note + (1 + length behind) ≤ length left
changes_fit left behind note takes =
    let bytes = bytes_of left takes.line behind takes.first in
    let few : change_count note ≤ length takes.line = changes-le-bytes takes.line note (takes.read).means in
    omega arith

pub more : (text left behind : List ℕ) (notes : List Line) (note : Line) → ReadSoFar text left notes → TakesNote left note behind → ReadSoFar text behind (notes ++ note ∷ [])
more text left behind notes note h takes =
    let fit = changes_fit left behind note takes in
    let size : length notes + length left ≤ length text = h.size in
    let changes : sum_by change_count notes + length left ≤ length text = h.changes in
    record {
      seen = h.seen ++ takes.line ∷ [];
      lines_are = lines_on text left takes.line behind h.seen h.lines_are takes.first ∙ sym (append_assoc h.seen (takes.line ∷ []) (lines behind));
      rest_is = h.rest_is ∙ ap rest (takes.first).is ∙ rest_behind takes.line behind (takes.first).whole;
      read = zip_more h.seen notes takes.line note h.read takes.read;
      size = omega (arith, length-append notes (note ∷ []));
      changes = omega (arith, sum_by_push change_count notes note);
    }

-- ---- the end

lines_at_end : (text left : List ℕ) (seen : List (List ℕ)) → lines text ≡ seen ++ lines left → lines left ≡ [] → lines text ≡ seen
lines_at_end text left seen e none = e ∙ ap (λ l. seen ++ l) none ∙ append-nil seen

rest_at_end : (text left : List ℕ) (notes : List Line) → ReadSoFar text left notes → IsUnfinished left → rest text ≡ left
rest_at_end text left notes h end = h.rest_is ∙ no_rest left end.part

pub all_read : (text left : List ℕ) (notes : List Line) → ReadSoFar text left notes → IsUnfinished left → AreRead text notes
all_read text left notes h end = record {
  each = subst (λ l. AllZip IsRead l notes) (sym (lines_at_end text left h.seen h.lines_are (no_lines left end.part))) h.read;
  unfinished = subst (λ t. length t ≤ line_bytes) (sym (rest_at_end text left notes h end)) end.short;
}

pub rest_length : (text left : List ℕ) (notes : List Line) → ReadSoFar text left notes → IsUnfinished left → length left ≡ length (rest text)
rest_length text left notes h end = ap length (sym (rest_at_end text left notes h end))

-- ---- a stop

pub stops : (text left : List ℕ) (notes : List Line) (number : ℕ) (why : LineStop) → ReadSoFar text left notes → number ≡ length notes + 1 → StopsNext left why → StopsAt text number why
stops text left notes number why h e (inl s) =
    let count = AllZip-long IsRead h.seen notes h.read in
    inl
    (record {
      good = h.seen;
      bad = s.line;
      more = lines s.behind;
      notes = notes;
      whole = lines_on text left s.line s.behind h.seen h.lines_are s.first;
      meant = h.read;
      is = omega arith;
      stops = s.stops;
    })
stops text left notes number why h e (inr s) =
    let count = AllZip-long IsRead h.seen notes h.read in
    let all = lines_at_end text left h.seen h.lines_are (no_lines left s.part) in
    inr
    (record {
      notes = notes;
      meant = subst (λ l. AllZip IsRead l notes) (sym all) h.read;
      long = subst (λ t. line_bytes < length t) (sym (h.rest_is ∙ no_rest left s.part)) s.long;
      is = let same = ap length all in omega arith;
      stops = s.stops;
    })
