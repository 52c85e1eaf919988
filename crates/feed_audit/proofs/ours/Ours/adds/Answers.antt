use Rattle.std.proofs.Common.{◌≡◌, sym, subst, true}
use Rattle.std.specs.Prelude.{IfOk, IfSome}
use Rattle.feed_node.specs.States.{NodeState, published_tables}
use Rattle.feed_audit.specs.Along.{KeepsAlong}
use Rattle.feed_audit.specs.Pasts.{IsPast}
use Rattle.feed_audit.specs.States.{IsStateOf}
use Rattle.feed_audit.specs.Walks.{CommitsOn}
use Rattle.feed_audit.proofs.ours.Ours.adds.Goals as goal

pub returns-in-Some-clause-past : goal.returns-in-Some-clause-past
returns-in-Some-clause-past c limits text before theirs keeps on shown =
    subst (λ (n : NodeState). IfOk c.note.result (λ done. done ≡ true → IsPast limits text c.note.new.self (published_tables n) (published_tables theirs))) c.node.ensures.node
    (c.note.ensures limits text before (published_tables theirs) (subst (λ p. KeepsAlong limits text p before theirs) c.in-Some.is keeps)
    (subst (λ n. CommitsOn before n) (sym c.node.ensures.node) on) (subst (λ (n : NodeState). IfSome n.published (IsStateOf limits text)) (sym c.node.ensures.node) shown))
