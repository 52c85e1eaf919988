use Rattle.std.proofs.Common.{◌≡◌, ◌≢◌, refl, sym, ◌∙◌, subst, Bool, true, false, true≢false, arith}
use Rattle.feed_audit.specs.declared.difference.Side.{Side}
use Rattle.feed_audit.specs.Places.{IsFirstOf}
use Rattle.feed_audit.proofs.Ordered.{part_both, part_ours, part_theirs, same_on, same_change}
use Rattle.feed_audit.proofs.difference.first_apart.Goals as goal

apart : (b : Bool) (x y : Side) → b ≡ false → (x ≡ y → b ≡ true) → x ≢ y
apart b x y e f same = let g = f same in absurd (true≢false (sym g ∙ e))

pub returns-then-i-theirs-clause-some : goal.returns-then-i-theirs-clause-some
returns-then-i-theirs-clause-some c =
    part_ours c.args.ours.now c.args.theirs.now c.changes.i c.changes.invariant.same _ c.changes-test.true c.if-i-theirs.true c.index-ours-i.is

pub returns-in-Less-clause-some : goal.returns-in-Less-clause-some
returns-in-Less-clause-some c =
    part_both c.args.ours.now c.args.theirs.now c.changes.i c.changes.invariant.same c.index-ours-i.result c.index-theirs-i.result _ c.changes-test.true (omega arith) c.index-ours-i.is c.index-theirs-i.is
    (subst (λ o. IsFirstOf o c.index-ours-i.result c.index-theirs-i.result c.index-ours-i.result) (sym c.in-Less.is ∙ c.order.ensures) refl)

pub returns-in-Greater-clause-some : goal.returns-in-Greater-clause-some
returns-in-Greater-clause-some c =
    part_both c.args.ours.now c.args.theirs.now c.changes.i c.changes.invariant.same c.index-ours-i.result c.index-theirs-i.result _ c.changes-test.true (omega arith) c.index-ours-i.is c.index-theirs-i.is
    (subst (λ o. IsFirstOf o c.index-ours-i.result c.index-theirs-i.result c.index-theirs-i.result) (sym c.in-Greater.is ∙ c.order.ensures) refl)

pub returns-then-not-puts_same-clause-some : goal.returns-then-not-puts_same-clause-some
returns-then-not-puts_same-clause-some c =
    part_both c.args.ours.now c.args.theirs.now c.changes.i c.changes.invariant.same c.index-ours-i.result c.index-theirs-i.result _ c.changes-test.true (omega arith) c.index-ours-i.is c.index-theirs-i.is
    (subst (λ o. IsFirstOf o c.index-ours-i.result c.index-theirs-i.result c.index-ours-i.result) (sym c.in-Equal.is ∙ c.order.ensures) (refl, apart _ _ _ c.if-not-puts_same.true c.puts_same.ensures.1))

pub changes-preserved : goal.changes-preserved
changes-preserved c = record {
  within = omega arith;
  within_theirs = omega arith;
  same = same_on c.args.ours.now c.args.theirs.now c.changes.i c.index-ours-i.result c.index-theirs-i.result c.changes.invariant.same c.changes-test.true (omega arith) c.index-ours-i.is c.index-theirs-i.is
      (same_change _ _ (sym c.order.ensures ∙ c.in-Equal.is) (c.puts_same.ensures.0 c.if-not-puts_same.false));
}

pub returns-then-i-theirs-2-clause-some : goal.returns-then-i-theirs-2-clause-some
returns-then-i-theirs-2-clause-some c =
    part_theirs c.args.ours.now c.args.theirs.now c.changes.i c.changes.invariant.same _ (omega arith) c.if-i-theirs-2.true c.index-theirs-i-then-i-theirs-2.is
