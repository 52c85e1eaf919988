-- Lines, each with its line feed.
use Rattle.std.proofs.Common.{◌≡◌, refl, sym, ap, ◌∙◌, ℕ, ◌-◌, take, drop, List, [], ◌∷◌, ◌++◌, append_assoc, append-nil, length, length-drop, arith}
use Rattle.std.proofs.lemmas.List.{take_all}
use Rattle.std.specs.List.{AllByRecursion}
use Rattle.feed_note.specs.Lines.{HasNoLineFeed, lines, ended}
use Rattle.feed_note.proofs.LinesCut.{lines_are_the_only_cut}
use Rattle.feed_note.proofs.LinesInRow.{ended-append}

pub lines_of_ended : (seen : List (List ℕ)) → AllByRecursion HasNoLineFeed seen → lines (ended seen) ≡ seen
lines_of_ended seen h =
    sym (lines_are_the_only_cut (ended seen) seen [] (record { whole = h; part = refl; text = sym (append-nil (ended seen)) })).0

pub ended_with : (seen : List (List ℕ)) (line : List ℕ) → ended (seen ++ line ∷ []) ≡ ended seen ++ (line ++ 10 ∷ [])
ended_with seen line = ended-append seen (line ∷ []) ∙ ap (λ t. ended seen ++ t) (append-nil (line ++ 10 ∷ []))

-- what stands behind the first bytes
pub tail_is : (n : ℕ) (bs : List ℕ) → drop n bs ≡ take (length bs - n) (drop n bs)
tail_is n bs = sym (take_all (length bs - n) (drop n bs) (let l = length-drop n bs in omega arith))

-- ---- lines that were passed

-- one more line stands before what is left
pub line_more : (text left behind line : List ℕ) (seen : List (List ℕ)) → text ≡ ended seen ++ left → left ≡ line ++ 10 ∷ behind → text ≡ ended (seen ++ line ∷ []) ++ behind
line_more text left behind line seen is split =
    is ∙ ap (λ t. ended seen ++ t) split ∙ ap (λ t. ended seen ++ t) (sym (append_assoc line (10 ∷ []) behind))
    ∙ sym (append_assoc (ended seen) (line ++ 10 ∷ []) behind) ∙ ap (λ t. t ++ behind) (sym (ended_with seen line))
