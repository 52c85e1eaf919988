use Rattle.std.proofs.Common.{arith, sym, ◌∙◌}
use Rattle.feed_changes.proofs.Heads.{by_length}
use Rattle.feed_changes.proofs.name.compare_alike.Goals as goal

pub returns-then-other-le8 : goal.returns-then-other-le8
returns-then-other-le8 c =
    c.cmp.ensures ∙ sym (by_length c.args.text.now c.args.other.now c.utf8.text c.utf8.other c.requires (omega (arith, c.if-text-le8.true)) (omega (arith, c.if-other-le8.true)))
