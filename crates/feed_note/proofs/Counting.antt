-- The counts of a feed, one line after the other.
use Rattle.std.proofs.Common.{◌≡◌, sym, ap, ◌∙◌, ℕ, ◌+◌, Bool, cond, List, [], ◌∷◌, ◌++◌, length, length-append}
use Rattle.std.specs.List.{count_by}
use Rattle.std.proofs.lemmas.List.Sums.{sum_by_push}
use Rattle.feed_note.specs.Counts.{counts_of, is_keep_alive, is_note, has_token, Counted}
use Rattle.feed_note.specs.Steps.{IsUnfinished, one_if, with_note}
use Rattle.feed_note.specs.declared.line.Line.{Line}
use Rattle.feed_note.specs.declared.counts.Counts.{Counts}
use Rattle.feed_note.proofs.ReadSoFar.{ReadSoFar, change_count, all_read, rest_length}

count_more : (test : Line → Bool) (notes : List Line) (note : Line) → count_by test (notes ++ note ∷ []) ≡ count_by test notes + one_if (test note)
count_more test notes note = sum_by_push (λ n. cond (test n) 1 0) notes note

-- one line more
pub counts_more : (notes : List Line) (note : Line) (counts new : Counts) → counts ≡ counts_of notes 0 → new ≡ with_note counts note → new ≡ counts_of (notes ++ note ∷ []) 0
counts_more notes note counts new e is =
    is ∙ ap (λ c. with_note c note) e
    ∙ λ i. record {
      lines = sym (length-append notes (note ∷ [])) i;
      keepalives = sym (count_more is_keep_alive notes note) i;
      notes = sym (count_more is_note notes note) i;
      changes = sym (sum_by_push change_count notes note) i;
      tokens = sym (count_more has_token notes note) i;
      rest = 0;
    }

with_rest : ℕ → Counts → Counts
with_rest n counts = record { lines = counts.lines; keepalives = counts.keepalives; notes = counts.notes; changes = counts.changes; tokens = counts.tokens; rest = n }

-- the counts of a whole text
pub counted : (text left : List ℕ) (notes : List Line) (counts : Counts) → ReadSoFar text left notes → counts ≡ counts_of notes 0 → IsUnfinished left
    → Counted text (record { lines = counts.lines; keepalives = counts.keepalives; notes = counts.notes; changes = counts.changes; tokens = counts.tokens; rest = length left })
unfolding with_rest
counted text left notes counts h e end = record {
  notes = notes;
  read = all_read text left notes h end;
  is = ap (with_rest (length left)) e ∙ ap (counts_of notes) (rest_length text left notes h end);
}
