use Rattle.std.proofs.Common.{rules}
use Rattle.feed_http.specs.Serving.{ServesOnce}
use Rattle.feed_relay.proofs.ServingLemmas.{serves_next}
use Rattle.feed_relay.proofs.serving.serve_next.Goals as goal

pub returns : goal.returns
returns g c =
    serves_next _ (λ spoken came. ServesOnce c.args.service.now c.args.node.now.shown spoken came) _ _
    c.serve_node-served.result _ c.of_engine.ensures (search rules)
