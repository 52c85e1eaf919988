use Rattle.std.proofs.Common.{sym, subst, ap, ◌∙◌}
use Rattle.feed_device.specs.Sockets.{former_of}
use Rattle.feed_screens.specs.Serving.{IsSent, full_text}
use Rattle.feed_screens.proofs.ServingLemmas.{refused_sent, refused_former}
use Rattle.feed_screens.proofs.screens.Screens.refuse.Goals as goal

pub returns-clause-sent : goal.returns-clause-sent
unfolding full_text
returns-clause-sent g c =
    λ nodes contest came asked.
    subst (IsSent nodes contest) (sym (c.shut.ensures.sockets c.args.at))
    (refused_sent nodes contest came _ _ c.write.result c.write.ensures.bytes asked)

pub returns-clause-former : goal.returns-clause-former
returns-clause-former g c = ap former_of (c.shut.ensures.sockets c.args.at) ∙ refused_former _ _ c.write.result _ c.write.ensures.bytes
