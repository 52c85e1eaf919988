use Rattle.std.proofs.Common.{rules}
use Rattle.feed_http.specs.Live.{intake_of, ServesLive}
use Rattle.feed_relay.proofs.ServingLemmas.{serves_next, not_missed}
use Rattle.feed_relay.proofs.serving.serve_live_next.Goals as goal

pub returns : goal.returns
returns g c =
    let start = intake_of c.args.primary.now c.args.input.now.items in
    let now = intake_of c.serve_live-served.new.primary c.serve_live-served.new.input.items in (
      serves_next _ (λ spoken came. ServesLive c.args.turn c.args.service.now spoken start came now)
          c.args.listener.now c.close.new.self c.serve_live-served.result _ c.of_engine.ensures (search rules),
      λ e. absurd (not_missed c.serve_live-served.result _ c.of_engine.ensures e),
    )
