use Rattle.feed_world.proofs.Moved.{among_mirrors}
use Rattle.feed_world.proofs.moves.node_among.Goals as goal

pub returns-in_ok-get-in-Some : goal.returns-in_ok-get-in-Some
returns-in_ok-get-in-Some c =
    among_mirrors c.args.primary.now c.args.followers.now c.args.number c.in-Some.place c.in_ok-get-in-Some.field-0.now c.node.result.now.shown
    c.in-Some.ensures.0 c.in-Some.ensures.1 (c.in_ok-get-in-Some.ensures.lookup.3.0) c.in_ok-get-in-Some.ensures.lookup.1 c.node.ensures
