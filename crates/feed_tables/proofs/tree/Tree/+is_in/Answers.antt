use Rattle.std.proofs.Common.{refl}
use Rattle.feed_tables.proofs.AtWalk.{here_in, left_in, right_in, all_in}
use Rattle.feed_tables.proofs.tree.Tree.+is_in.Goals as goal

pub returns-then-not-holds : goal.returns-then-not-holds
returns-then-not-holds g t c = (
  λ clash. absurd (cc),
  λ p. c.if-not-holds.ensures.1 (here_in c.self.view_is c.in-Fork.is c.args.other.now p c.deref.result.now c.deref-in-Fork.result.now c.deref.ensures c.deref-in-Fork.ensures),
)

pub returns-then-not-is_in : goal.returns-then-not-is_in
returns-then-not-is_in g t c = (
  λ clash. absurd (cc),
  λ p. c.if-not-is_in.ensures.1 (left_in c.self.view_is c.in-Fork.is c.args.other.now p c.deref-in-Fork-2.result.now c.deref-in-Fork-2.ensures),
)

pub returns-else-not-is_in : goal.returns-else-not-is_in
returns-else-not-is_in g t c = (
  λ right. all_in c.self.view_is c.in-Fork.is c.args.other.now c.deref.result.now c.deref-in-Fork.result.now c.deref-in-Fork-2.result.now c.deref-in-Fork-3.result.now c.deref.ensures c.deref-in-Fork.ensures c.deref-in-Fork-2.ensures c.deref-in-Fork-3.ensures
      (c.if-not-holds.ensures.0 refl) (c.if-not-is_in.ensures.0 refl) (c.is_in-in-Fork.ensures.0 right),
  λ p. c.is_in-in-Fork.ensures.1 (right_in c.self.view_is c.in-Fork.is c.args.other.now p c.deref-in-Fork-3.result.now c.deref-in-Fork-3.ensures),
)
