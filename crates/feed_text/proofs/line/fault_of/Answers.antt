use Rattle.std.proofs.Common.{sym, ◌∙◌}
use Rattle.std.proofs.lemmas.Bool.{false≢true}
use Rattle.feed_text.specs.Scan.{NestsTooDeep}
use Rattle.feed_text.proofs.Found.{deeper_is_none}
use Rattle.feed_text.proofs.line.fault_of.Goals as goal

pub returns : goal.returns
returns c =
    let shallow : ¬ NestsTooDeep c.args.line.now = λ deep. absurd (false≢true (sym c.if-nests_to.false ∙ c.nests_to.ensures.1 deep)) in
    (c.requires.utf8, shallow, deeper_is_none c.args.line.now c.requires.none shallow)
