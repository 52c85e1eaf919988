use Rattle.std.proofs.Common.{arith, sym}
use Rattle.feed_changes.proofs.Heads.{before, after}
use Rattle.feed_changes.proofs.name.Name.compare.Goals as goal

pub returns-then-self-other : goal.returns-then-self-other
returns-then-self-other c =
    sym (before c.self.view_is c.other.view_is (c.self.invariant.0.0, c.self.invariant.1) (c.other.invariant.0.0, c.other.invariant.1) (omega (arith, c.if-self-other.true)))

pub returns-then-self-other-2 : goal.returns-then-self-other-2
returns-then-self-other-2 c =
    sym (after c.self.view_is c.other.view_is (c.self.invariant.0.0, c.self.invariant.1) (c.other.invariant.0.0, c.other.invariant.1) (omega (arith, c.if-self-other-2.true)))
