use Rattle.std.proofs.Common.{Some, sym, ap, ◌∙◌, arith}
use Rattle.std.specs.FinMap.{get}
use Rattle.feed_tables.specs.Tables.{Contents, size}
use Rattle.feed_tables.proofs.Placing.{fits_change}
use Rattle.feed_tables.proofs.tables.Tables.has_place.Goals as goal

pub returns-in-Some-Many-clause-fits : goal.returns-in-Some-Many-clause-fits
returns-in-Some-Many-clause-fits c = λ _.
    let m = c.args.self.now.contents in
    let same = ap (λ t. t.contents) c.self.view_is in
    let counted = c.self.invariant.0 in
    let size_is = ap (λ (n : Contents). size n) same in
    let less = c.if-self-most.false in
    let bound = c.ranges.most.fits in
    fits_change m c.args.placed.now c.in-Some-Many.field-0-0 c.self.inside.total c.args.most c.kind.ensures.puts
    (ap (get m) (sym (c.key.ensures ∙ c.kind.ensures.kind)) ∙ sym c.in-Some-Many.ensures ∙ ap Some c.in-Some-Many.field-0-is)
    (omega (arith, counted, size_is)) (omega (arith, less)) (omega (arith, bound))
