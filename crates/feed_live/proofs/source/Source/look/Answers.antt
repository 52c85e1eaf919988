use Rattle.std.proofs.Common.{◌∙◌, ◌%◌, ap, Some}
use Rattle.feed_live.proofs.source.Source.look.Goals as goal

pub returns-clause-looks : goal.returns-clause-looks
returns-clause-looks g c =
    record {
      place = c.turn_to.ensures.paused.1 ∙ ap (λ u. c.look-place.result % u.places) c.leave.ensures.upstream ∙ ap (λ p. p % c.args.self.now.upstream.places) c.look-place.ensures.place;
      at_once = c.turn_to.ensures.paused.2;
      counts = (
        c.turn_to.ensures.counts.0 ∙ ap (λ u. u.failed) c.leave.ensures.upstream,
        c.turn_to.ensures.counts.1 ∙ ap (λ u. u.refused) c.leave.ensures.upstream,
      );
      back = ap (λ l. l.looks_from) (c.leave.ensures.leading ∙ c.look-place.ensures.looks) ∙ ap (λ p. Some p) c.place.ensures.place;
    }
