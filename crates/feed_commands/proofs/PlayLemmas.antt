-- Lemmas on what the command `play` prints.
use Rattle.std.proofs.Common.{◌≡◌, [], sym, ap, ◌∙◌, subst, List, ℕ, ◌++◌}
use Rattle.feed_play.specs.Printed.{Prints}

-- what was printed where nothing was
pub told_by : (P : List ℕ → Type 0) (old now text : List ℕ) → old ≡ [] → text ≡ now → Prints old now P → P text
told_by P old now text none same (told, holds, grown) = subst P (sym (same ∙ grown ∙ ap (λ l. l ++ told) none)) holds
