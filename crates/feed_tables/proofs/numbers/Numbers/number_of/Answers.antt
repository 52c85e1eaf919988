use Rattle.std.proofs.Common.{◌≡◌, ℕ, List, length, ◌∙◌, ap, ap₂, arith}
use Rattle.std.specs.FinMap.{FinMap, get}
use Rattle.feed_tables.specs.Bytes.{byte_order}
use Rattle.feed_tables.specs.Numbers.{part_of}
use Rattle.feed_tables.proofs.NumberParts.{in_part}
use Rattle.feed_tables.proofs.numbers.Numbers.number_of.Goals as goal

pub returns : goal.returns
returns c =
    let parts = c.self.inside.parts.items in
    let name = c.args.name.now in
    let place = c.part_of-part.result in
    let count : c.len.result ≡ length parts = c.len.ensures ∙ c.self.inside.parts.ok.0 in
    let own = c.part_of-part.ensures.part ∙ ap₂ part_of count c.text.ensures.text in
    c.copied.ensures
    ∙ c.get.ensures
    ∙ ap (λ (k : List ℕ). get c.index.result.now k) c.key.ensures
    ∙ ap (λ (m : FinMap byte_order ℕ). get m name) c.index.ensures
    ∙ in_part (length parts) parts 0 place c.index.result.now name c.self.invariant.1 (omega (arith, own)) (omega (arith, c.part_of-part.ensures.bound, count))
    ∙ ap (λ (m : FinMap byte_order ℕ). get m name) c.self.view_is
