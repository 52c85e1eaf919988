use Rattle.std.proofs.Common.{subst, ap, ◌∙◌}
use Rattle.feed_play.specs.Player.{node_token}
use Rattle.feed_play.specs.Printed.{PrintsReply}
use Rattle.feed_play.proofs.player.play_event.Goals as goal

pub returns-clause-ok : goal.returns-clause-ok
returns-clause-ok c w is =
    let (after, step, state) = c.in_ok-reply.ensures.ok w is in
    let (text, tells, grown) = c.in_ok-print_reply.ensures.ok in
    let told = subst (λ token. PrintsReply token c.in_ok-reply.reply text) (c.token_of.ensures after state ∙ ap (node_token after) c.restarted-restarted.ensures) tells in
    (after, state, (text, (c.in_ok-reply.reply, step, told), grown))
