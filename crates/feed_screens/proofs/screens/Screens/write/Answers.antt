use Rattle.std.proofs.Common.{rules, ◌≡◌, ◌∙◌, sym, Ok, true, false}
use Rattle.feed_screens.proofs.ServingLemmas.{serving_noted}
use Rattle.feed_screens.proofs.MarkedLemmas.{blocked_has, marked_or_none, over_has}
use Rattle.feed_screens.proofs.screens.Screens.write.Goals as goal

pub returns-in-Ok-true-clause-serving : goal.returns-in-Ok-true-clause-serving
returns-in-Ok-true-clause-serving g c =
    λ nodes contest among keyed serving.
    serving_noted c.has_more_to_write.ensures.same
    (c.fill-has_more.ensures.serving nodes contest among (c.write_once.ensures.keys ∙ keyed)
    (c.write_once.ensures.serving nodes contest keyed serving))

pub returns-in-Ok-true-clause-shuts : goal.returns-in-Ok-true-clause-shuts
returns-in-Ok-true-clause-shuts g c =
    λ keyed shut.
    let took_all : c.write_once.result ≡ Ok true = search rules in
    record {
      left = c.write_once.new.self.hub;
      took = c.write_once.ensures.took took_all;
      end = c.fill-has_more.ensures.shuts (c.write_once.ensures.keys ∙ keyed) (sym (c.has_more_to_write.ensures.same.keys c.args.keyed.at) ∙ shut);
    }

pub returns-in-Ok-true-clause-more : goal.returns-in-Ok-true-clause-more
returns-in-Ok-true-clause-more g c =
    λ keyed has.
    marked_or_none c.fill-has_more.new.self c.has_more_to_write.new.self c.fill-has_more.result c.args.keyed.at c.has_more_to_write.ensures.same c.has_more_to_write.ensures.here
    (c.fill-has_more.ensures.none (c.write_once.ensures.keys ∙ keyed)) has

pub returns-in-Ok-false-clause-more : goal.returns-in-Ok-false-clause-more
returns-in-Ok-false-clause-more g c =
    λ keyed has.
    let took_less : c.write_once.result ≡ Ok false = search rules in
    absurd (blocked_has c.write_once.new.self c.args.keyed.at (c.write_once.ensures.blocked took_less) has)

pub returns-in-Err-clause-more : goal.returns-in-Err-clause-more
returns-in-Err-clause-more g c = λ keyed has. absurd (over_has c.end.new.self c.args.keyed.at c.end.ensures.free has)
