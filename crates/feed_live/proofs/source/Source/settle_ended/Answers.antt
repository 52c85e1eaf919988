use Rattle.feed_live.proofs.RelayLemmas.{same_to_show, same_shows}
use Rattle.std.proofs.Common.{◌∙◌}
use Rattle.feed_live.proofs.TimesLemmas.{heeds_then}
use Rattle.feed_live.proofs.source.Source.settle_ended.Goals as goal

pub returns-then-is_to_show_end-clause-shows : goal.returns-then-is_to_show_end-clause-shows
returns-then-is_to_show_end-clause-shows g c =
    λ limits log servers contest sockets to. c.settle.ensures.shows limits log servers contest sockets (same_to_show limits log servers c.args.screens.now c.is_to_show_end.ensures.same to)

pub returns-else-is_to_show_end-clause-shows : goal.returns-else-is_to_show_end-clause-shows
returns-else-is_to_show_end-clause-shows g c =
    λ limits log servers contest sockets to. (c.is_to_show_end.ensures.same.servers ∙ to.0, λ honest. same_shows limits log c.is_to_show_end.ensures.same (to.1 honest))

pub returns-then-is_to_show_end-clause-heeds : goal.returns-then-is_to_show_end-clause-heeds
returns-then-is_to_show_end-clause-heeds g c = heeds_then c.settle.ensures.heeds c.is_to_show_end.ensures.heeds

pub returns-else-is_to_show_end-clause-heeds : goal.returns-else-is_to_show_end-clause-heeds
returns-else-is_to_show_end-clause-heeds g c = c.is_to_show_end.ensures.heeds
