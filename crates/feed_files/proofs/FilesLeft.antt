-- What is left of files that had parts of what records wrote is such a part.
use Rattle.std.proofs.Common.{◌≡◌, sym, ap, ◌∙◌, subst, ℕ, zero, suc, ◌<◌, arith, List, [], ◌∷◌, ◌++◌, length, append_assoc}
use Rattle.std.specs.Prelude.{Result, Ok, Err, IfOk, Vec, slice_index_or}
use Rattle.std.specs.List.{AllByRecursion}
use Rattle.feed_device.specs.Files.{IsLeftOf}
use Rattle.feed_node.specs.States.{NodeState}
use Rattle.feed_files.specs.Saved.{IsPartOfFile, OrNothing}

at_place : (P : List ℕ → Type 0) (texts : List (List ℕ)) (text : List ℕ) (k : ℕ) → AllByRecursion P texts → k < length texts → slice_index_or texts k text ≡ text → P text
at_place P [] text k all less is = absurd (omega (arith, less))
at_place P (x ∷ xs) text zero all less is = subst P is all.0
at_place P (x ∷ xs) text (suc k) all less is = at_place P xs text k all.1 (omega (arith, less)) is

-- what is left of a part is a part
pub left_part : (nodes : List NodeState) (texts : List (List ℕ)) (bytes : List ℕ) → AllByRecursion (IsPartOfFile nodes) ([] ∷ texts)
    → IsLeftOf texts bytes → IsPartOfFile nodes bytes
left_part nodes texts bytes all left =
    let part = at_place (IsPartOfFile nodes) ([] ∷ texts) left.0 left.1.0 all left.1.1 left.1.2 in
    (part.0, left.2 ++ part.1, part.2, part.3, sym (append_assoc bytes left.2 part.1) ∙ ap (λ t. t ++ part.1) left.3 ∙ part.4)

-- so is what was read, or nothing
pub read_part : {A E : Type 0} (nodes : List NodeState) (texts : List (List ℕ)) → AllByRecursion (IsPartOfFile nodes) ([] ∷ texts)
    → (read : Result (Vec ℕ A) E) (found : List ℕ) → OrNothing read found → IfOk read (λ text. IsLeftOf texts text.items) → IsPartOfFile nodes found
read_part nodes texts all (Ok bytes) found is left = left_part nodes texts found all (subst (IsLeftOf texts) (sym is) left)
read_part nodes texts all (Err fault) found is left = subst (IsPartOfFile nodes) (sym is) all.0
