-- Opening brackets, counted a block at a time through the mask of those that there are.
use Rattle.std.proofs.Common.{◌≡◌, ℕ, ◌+◌, ◌≤◌, cond, List, ◌++◌, map, length, take, drop, ap, ◌∙◌, arith}
use Rattle.std.specs.Prelude.{count_by, count_ones}
use Rattle.std.proofs.lemmas.List.{take-append-drop}
use Rattle.std.proofs.lemmas.List.Sums.{sum_by-append, count_by-le-length}
use Rattle.std.proofs.lemmas.Simd.{ones-mask_l}
use Rattle.std.specs.Simd.Lanes.{mask_l}
use Rattle.feed_text.specs.Nesting.{is_opening}

abbrev opened : List ℕ → ℕ
opened text = count_by is_opening text

-- those of a block, and those behind it
pub opened_block : (text : List ℕ) (mask : ℕ) → mask ≡ mask_l (map is_opening (take 16 text)) → count_ones mask + count_by is_opening (drop 16 text) ≡ count_by is_opening text
opened_block text mask is =
    let block : count_ones mask ≡ opened (take 16 text) = ap count_ones is ∙ ones-mask_l is_opening (take 16 text) in
    let parts = sum_by-append (λ b. cond (is_opening b) 1 0) (take 16 text) (drop 16 text) in
    let whole : opened (take 16 text ++ drop 16 text) ≡ opened text = ap opened (take-append-drop 16 text) in
    omega (arith, block, parts, whole)

pub opened_bound : (text : List ℕ) → count_by is_opening text ≤ length text
opened_bound text = count_by-le-length is_opening text

pub ruleset opening_runs = (opened_block, opened_bound)
