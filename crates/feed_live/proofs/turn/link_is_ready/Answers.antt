use Rattle.std.proofs.Common.{◌<◌, arith}
use Rattle.std.proofs.lemmas.List.Elements.{at_from_Contains}
use Rattle.feed_device.specs.declared.device.Ready.TheVariants.{Link}
use Rattle.feed_live.proofs.turn.link_is_ready.Goals as goal

pub returns-clause-some : goal.returns-clause-some
returns-clause-some c has =
    let (k, within, here) = at_from_Contains c.args.events.now Link has in
    let below : k < c.loop-event.event-index = omega (arith, within) in
    absurd (c.loop-event.invariant k below Link (here Link))
