-- Texts that are appended part by part.
use Rattle.std.proofs.Common.{◌≡◌, List, ℕ, ◌++◌, length, take, ap, ◌∙◌, append_assoc}
use Rattle.std.proofs.Math.Seq.{take-append_seam}
use Rattle.feed_text.specs.Beginnings.{Begins}

-- one part more
pub appended : (old middle new prefix part : List ℕ) → middle ≡ old ++ prefix → new ≡ middle ++ part
    → new ≡ old ++ (prefix ++ part)
appended old middle new prefix part is more = more ∙ ap (λ l. l ++ part) is
    ∙ append_assoc old prefix part

-- what parts are appended to stays in front of them
pub begun : (old new parts : List ℕ) → new ≡ old ++ parts → Begins old new
begun old new parts is = ap (take (length old)) is ∙ take-append_seam old parts
