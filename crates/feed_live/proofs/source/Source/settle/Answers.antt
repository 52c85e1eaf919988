use Rattle.std.proofs.Common.{refl, sym, ap, ◌∙◌}
use Rattle.std.specs.Prelude.{option_map}
use Rattle.feed_device.specs.Links.{shown_so, all_from}
use Rattle.feed_live.specs.States.{states_of}
use Rattle.feed_live.proofs.RelayLemmas.{among_shown, same_shows, shows_still, with_screens, with_same, with_now_shown, shows_now, same_to_show}
use Rattle.feed_live.proofs.TimesLemmas.{heeds_then, heeds_same, heeds_until}
use Rattle.feed_live.proofs.source.Source.settle.Goals as goal

pub returns-then-not-has_published-clause-shows : goal.returns-then-not-has_published-clause-shows
returns-then-not-has_published-clause-shows g c = λ limits log servers contest sockets to. (to.0, to.1)

pub returns-then-is_behind-clause-shows : goal.returns-then-is_behind-clause-shows
returns-then-is_behind-clause-shows g c =
    λ limits log servers contest sockets to. (c.is_behind.ensures.same.servers ∙ to.0, λ honest. same_shows limits log c.is_behind.ensures.same (to.1 honest))

pub returns-then-is_behind-clause-heeds : goal.returns-then-is_behind-clause-heeds
returns-then-is_behind-clause-heeds g c = heeds_until c.is_behind.ensures.time (heeds_same _ c.is_behind.ensures.times)

pub returns-then-is_alone-clause-shows : goal.returns-then-is_alone-clause-shows
returns-then-is_alone-clause-shows g c =
    λ limits log servers contest sockets to. c.settle_alone.ensures.shows limits log servers contest sockets
    (same_to_show limits log servers c.args.screens.now c.report_settled.ensures.same (same_to_show limits log servers c.args.screens.now c.is_behind.ensures.same to))

pub returns-clause-shows : goal.returns-clause-shows
returns-clause-shows g c =
    λ limits log servers contest sockets to.
    let kept = same_to_show limits log servers c.args.screens.now c.keep_screens.ensures.same (same_to_show limits log servers c.args.screens.now c.report_settled.ensures.same (same_to_show limits log servers c.args.screens.now c.is_behind.ensures.same to)) in (
      c.say.ensures.same.servers ∙ c.take_over.ensures.same.servers ∙ c.show.ensures.shows.servers ∙ kept.0,
      λ honest.
          let now = shows_now limits log servers c.args.unread _ _ c.show_all.ensures.shown c.show.ensures.shows kept.1 kept.2 honest in
          let shown = same_shows limits log c.take_over.ensures.same now in
          same_shows limits log c.say.ensures.same (shows_still limits log (c.say.ensures.serves (states_of limits log) contest sockets (among_shown limits log shown)) shown),
    )

pub returns-clause-follows : goal.returns-clause-follows
returns-clause-follows g c =
    λ none reads left is limits log servers contest sockets follows. (
      c.say.ensures.same.servers ∙ c.take_over.ensures.same.servers ∙ c.show.ensures.shows.servers ∙ c.keep_screens.ensures.same.servers ∙ c.report_settled.ensures.same.servers ∙ c.is_behind.ensures.same.servers ∙ follows.0,
      with_same limits log servers c.say.ensures.same _ left left refl
          (with_screens limits log servers _ (λ shows serving. c.say.ensures.serves (states_of limits log) contest sockets (among_shown limits log shows) serving)
          (with_same limits log servers c.take_over.ensures.same _ left left refl (with_now_shown limits log servers left _ _ (c.show_all.ensures.shown ∙ ap (λ n. option_map (shown_so all_from n) (g.L.Link.exchanges c.args.link.now)) (sym is))
          (c.keep_screens.ensures.same.reach ∙ c.report_settled.ensures.same.reach ∙ c.is_behind.ensures.same.reach ∙ reads) c.show.ensures.shows
          (with_same limits log servers c.keep_screens.ensures.same _ left left refl (with_same limits log servers c.report_settled.ensures.same _ left left refl (with_same limits log servers c.is_behind.ensures.same _ left left refl follows.1)))))),
    )

pub returns-then-is_alone-clause-heeds : goal.returns-then-is_alone-clause-heeds
returns-then-is_alone-clause-heeds g c = heeds_then c.settle_alone.ensures.heeds (heeds_then c.report_settled.ensures.heeds (heeds_until c.is_behind.ensures.time (heeds_same _ c.is_behind.ensures.times)))

pub returns-clause-heeds : goal.returns-clause-heeds
returns-clause-heeds g c = heeds_then c.say.ensures.heeds (heeds_then c.take_over.ensures.heeds (heeds_then (heeds_same _ c.show.ensures.times) (heeds_then (heeds_same _ c.keep_screens.ensures.times) (heeds_then c.report_settled.ensures.heeds (heeds_until c.is_behind.ensures.time (heeds_same _ c.is_behind.ensures.times))))))
