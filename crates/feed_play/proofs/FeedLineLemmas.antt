-- Lemmas on feed lines of a script.
use Rattle.std.proofs.Common.{◌≡◌, sym, ap, ◌∙◌, ℕ, ◌+◌, List, [], ◌∷◌, ◌++◌, arith, length-append, append_assoc}
use Rattle.std.proofs.lemmas.List.{append-nil}
use Rattle.std.specs.List.{AllZip}
use Rattle.feed_changes.specs.declared.change.Change.{Change}
use Rattle.feed_note.specs.Counts.{IsRead}
use Rattle.feed_note.specs.Notes.{all_changes, changes_in}
use Rattle.feed_note.specs.declared.line.Line.{Line as Note}
use Rattle.feed_play.specs.Lines.{LinesLeft}
use Rattle.feed_play.specs.FeedLines.{TakesFeed}

zip_more : (xs : List (List ℕ)) (ns : List Note) (x : List ℕ) (n : Note) → AllZip IsRead xs ns → IsRead x n → AllZip IsRead (xs ++ x ∷ []) (ns ++ n ∷ [])
zip_more [] [] x n all is = (is, tt)
zip_more (y ∷ xs) (m ∷ ns) x n (first, all) is = (first, zip_more xs ns x n all is)
zip_more [] (m ∷ ns) x n all is = absurd all
zip_more (y ∷ xs) [] x n all is = absurd all

changes_more : (ns : List Note) (n : Note) → all_changes (ns ++ n ∷ []) ≡ all_changes ns ++ changes_in n
changes_more [] n = append-nil (changes_in n)
changes_more (m ∷ ns) n = ap (λ l. changes_in m ++ l) (changes_more ns n) ∙ sym (append_assoc (changes_in m) (all_changes ns) (changes_in n))

-- one feed line more
pub takes_more : (old mid new : LinesLeft) (count : ℕ) (before after : List Change) (line : List ℕ) (note : Note) (t : TakesFeed old mid count before)
    → mid.left ≡ line ∷ new.left → new.read ≡ mid.read + 1 → IsRead line note → after ≡ before ++ changes_in note → TakesFeed old new (count + 1) after
takes_more old mid new count before after line note t left read is more = record {
  feed = t.feed ++ line ∷ [];
  notes = t.notes ++ note ∷ [];
  left = t.left ∙ ap (λ l. t.feed ++ l) left ∙ sym (append_assoc t.feed (line ∷ []) new.left);
  many = length-append t.feed (line ∷ []) ∙ ap (λ n. n + 1) t.many;
  read = let was : mid.read ≡ old.read + count = t.read in omega arith;
  meant = zip_more t.feed t.notes line note t.meant is;
  are = more ∙ ap (λ l. l ++ changes_in note) t.are ∙ sym (changes_more t.notes note);
}
