use Rattle.std.proofs.Common.{sym, subst}
use Rattle.std.specs.Prelude.{Contains}
use Rattle.feed_live.proofs.source.Source.say_more.Goals as goal

pub returns-clause-serves : goal.returns-clause-serves
returns-clause-serves c =
    λ nodes contest sockets among serving. c.relay.ensures.serving nodes contest sockets (subst (λ n. Contains nodes n) (sym c.node.ensures) among) serving
