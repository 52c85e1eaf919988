use Rattle.std.proofs.Common.{◌∙◌}
use Rattle.feed_live.specs.States.{states_of}
use Rattle.feed_live.proofs.RelayLemmas.{among_shown, same_shows, shows_still, with_alone}
use Rattle.feed_live.proofs.TimesLemmas.{heeds_then, heeds_same}
use Rattle.feed_live.proofs.source.Source.settle_alone.Goals as goal

pub returns-then-is_err-clause-shows : goal.returns-then-is_err-clause-shows
returns-then-is_err-clause-shows g c =
    λ limits log servers contest sockets to.
    (c.show_alone.ensures.shows.servers ∙ to.0, with_alone limits log servers c.args.unread _ _ c.show_once.ensures.shown c.show_alone.ensures.shows to.1 to.2)

pub returns-clause-shows : goal.returns-clause-shows
returns-clause-shows g c =
    λ limits log servers contest sockets to. (
      c.say.ensures.same.servers ∙ c.take_over.ensures.same.servers ∙ c.show_alone.ensures.shows.servers ∙ to.0,
      λ honest.
          let alone = with_alone limits log servers c.args.unread _ _ c.show_once.ensures.shown c.show_alone.ensures.shows to.1 to.2 honest in
          let shown = same_shows limits log c.take_over.ensures.same alone in
          same_shows limits log c.say.ensures.same (shows_still limits log (c.say.ensures.serves (states_of limits log) contest sockets (among_shown limits log shown)) shown),
    )

pub returns-then-is_err-clause-heeds : goal.returns-then-is_err-clause-heeds
returns-then-is_err-clause-heeds g c = heeds_same _ c.show_alone.ensures.times

pub returns-clause-heeds : goal.returns-clause-heeds
returns-clause-heeds g c = heeds_then c.say.ensures.heeds (heeds_then c.take_over.ensures.heeds (heeds_same _ c.show_alone.ensures.times))
