use Rattle.std.proofs.Common.{◌∙◌}
use Rattle.feed_live.proofs.RelayLemmas.{with_kept}
use Rattle.feed_live.proofs.TimesLemmas.{heeds_then, heeds_same}
use Rattle.feed_live.proofs.source.Source.take_kept.Goals as goal

pub returns-clause-follows : goal.returns-clause-follows
returns-clause-follows g c =
    λ reads limits log servers contest sockets follows.
    c.take.ensures.follows (c.kept-rest.ensures.same.reach ∙ reads) c.kept-rest.ensures.rest limits log servers contest sockets
    (c.kept-rest.ensures.same.servers ∙ follows.0, with_kept limits log servers c.kept-rest.ensures.same _ c.args.self.now.rest.items c.as_slice.result.now (c.as_slice.ensures.value ∙ c.kept-rest.ensures.kept) follows.1)

pub returns-clause-heeds : goal.returns-clause-heeds
returns-clause-heeds g c = heeds_then c.take.ensures.heeds (heeds_same _ c.kept-rest.ensures.times)
