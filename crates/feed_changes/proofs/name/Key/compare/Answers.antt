use Rattle.std.proofs.Common.{arith, sym}
use Rattle.feed_changes.proofs.Heads.{before, after}
use Rattle.feed_changes.proofs.name.Key.compare.Goals as goal

pub returns-then-self-name : goal.returns-then-self-name
returns-then-self-name c =
    sym (before c.self.view_is c.name.view_is c.self.invariant (c.name.invariant.0.0, c.name.invariant.1) (omega (arith, c.if-self-name.true)))

pub returns-then-self-name-2 : goal.returns-then-self-name-2
returns-then-self-name-2 c =
    sym (after c.self.view_is c.name.view_is c.self.invariant (c.name.invariant.0.0, c.name.invariant.1) (omega (arith, c.if-self-name-2.true)))
