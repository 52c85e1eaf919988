use Rattle.std.proofs.Common.{◌≡◌, sym, ap, ◌∙◌, min, arith}
use Rattle.feed_tables.specs.Amounts.{bytes}
use Rattle.feed_tables.specs.Map.{map_over, map_less}
use Rattle.feed_tables.specs.Tables.{Contents, Tables, size}
use Rattle.feed_tables.proofs.Amounts.{over_nothing_less}
use Rattle.feed_tables.proofs.tables.Tables.merge.Goals as goal

pub invariant_of-self : goal.invariant_of-self
invariant_of-self c =
    let here : c.args.self.now.contents ≡ c.self.inside.types = sym (ap (λ (t : Tables). t.contents) c.self.view_is) in
    let made : c.put_into.new.other ≡ map_over c.args.tables (map_less c.args.gone c.self.inside.types) = c.put_into.ensures.put ∙ ap (map_over c.args.tables) c.take_from.ensures in (
      c.size_with-total.ensures
          ∙ ap (λ (m : Contents). min (size (map_over c.args.tables (map_less c.args.gone m))) 18446744073709551615) here
          ∙ ap (λ (m : Contents). min (size m) 18446744073709551615) (sym made),
      c.bytes_with-bytes.ensures
          ∙ ap (λ (m : Contents). min (bytes (map_over c.args.tables (map_less c.args.gone m))) 18446744073709551615) here
          ∙ ap (λ (m : Contents). min (bytes m) 18446744073709551615) (sym made),
    )

pub returns-then-parts-eq0 : goal.returns-then-parts-eq0
returns-then-parts-eq0 c =
    over_nothing_less c.args.gone c.args.tables c.args.self.now.contents
    (omega (arith, c.count.ensures, c.count-2.ensures, c.saturating_add-parts.ensures, c.if-parts-eq0.true))
    (omega (arith, c.count.ensures, c.count-2.ensures, c.saturating_add-parts.ensures, c.if-parts-eq0.true))
