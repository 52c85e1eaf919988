-- A line that is passed.
use Rattle.std.proofs.Common.{◌≡◌, sym, ap, ◌∙◌, ℕ, List, [], ◌∷◌, ◌++◌, length, take, drop, append_assoc, take-append-drop, Option, Some}
use Rattle.std.proofs.Math.Seq.{drop-append_seam as drop_seam}
use Rattle.feed_records.specs.Fronts.{IsLeft, IsLineBefore}

pub cancel : (xs ys zs : List ℕ) → xs ++ ys ≡ xs ++ zs → ys ≡ zs
cancel xs ys zs e = sym (drop_seam xs ys) ∙ ap (drop (length xs)) e ∙ drop_seam xs zs

-- what is behind the front of a text in memory
pub passed_front : (looked : ℕ) (rest behind : List ℕ) → IsLineBefore behind (take looked rest) (Some rest) → drop looked rest ≡ behind
passed_front looked rest behind f =
    let both : Some rest ≡ Some (f.line ++ 10 ∷ behind) = f.left_is in
    let is : rest ≡ f.line ++ 10 ∷ behind = cc in
    cancel (take looked rest) (drop looked rest) behind
    (take-append-drop looked rest ∙ is ∙ sym (append_assoc f.line (10 ∷ []) behind) ∙ ap (λ t. t ++ behind) (sym f.front_is))

-- what is left is left still
abbrev pub left_on : (P : List ℕ → Type 0) (old new : Option (List ℕ)) → IsLeft old P → ((text : List ℕ) → old ≡ Some text → new ≡ Some text) → IsLeft new P
left_on P old new (text, is, h) k = (text, k text is, h)
