use Rattle.std.proofs.Common.{◌∙◌, refl}
use Rattle.feed_live.proofs.RelayLemmas.{same_shows, with_left, with_same}
use Rattle.feed_live.proofs.TimesLemmas.{heeds_then, heeds_same, heeds_until}
use Rattle.feed_live.proofs.source.Source.take_checked.Goals as goal

pub returns-then-brings_another-clause-stops : goal.returns-then-brings_another-clause-stops
returns-then-brings_another-clause-stops g c =
    λ none. (
      c.forgot.ensures.left.reach,
      λ reads left limits log servers contest sockets follows. (
        c.forgot.ensures.left.servers ∙ c.brings_another.ensures.same.servers ∙ follows.0,
        with_left limits log servers c.forgot.ensures.left left (λ honest. same_shows limits log c.brings_another.ensures.same (follows.1.0 honest)),
      ),
    )

pub returns-then-differs_again-clause-stops : goal.returns-then-differs_again-clause-stops
returns-then-differs_again-clause-stops g c =
    let took = c.in-Some.ensures.goes_on in
    λ none. (
      c.forgot-then-differs_again.ensures.left.reach,
      λ reads left limits log servers contest sockets follows.
          let after = took.2 (c.brings_another.ensures.same.reach ∙ reads) limits log servers contest sockets
          (c.brings_another.ensures.same.servers ∙ follows.0, with_same limits log servers c.brings_another.ensures.same _ c.args.piece.now c.args.piece.now refl follows.1) in (
            c.forgot-then-differs_again.ensures.left.servers ∙ c.differs_again.ensures.same.servers ∙ after.0,
            with_left limits log servers c.forgot-then-differs_again.ensures.left left (λ honest. same_shows limits log c.differs_again.ensures.same (after.1.0 honest)),
          ),
    )

pub returns-clause-goes_on : goal.returns-clause-goes_on
returns-clause-goes_on g c =
    let took = c.in-Some.ensures.goes_on in (
      c.find_again.ensures.same.reach ∙ c.differs_again.ensures.same.reach ∙ took.0 ∙ c.brings_another.ensures.same.reach,
      c.find_again.ensures.same.rest ∙ c.differs_again.ensures.same.rest ∙ took.1 ∙ c.brings_another.ensures.same.rest,
      λ reads limits log servers contest sockets follows.
          let after = took.2 (c.brings_another.ensures.same.reach ∙ reads) limits log servers contest sockets
          (c.brings_another.ensures.same.servers ∙ follows.0, with_same limits log servers c.brings_another.ensures.same _ c.args.piece.now c.args.piece.now refl follows.1) in (
            c.find_again.ensures.same.servers ∙ c.differs_again.ensures.same.servers ∙ after.0,
            with_same limits log servers c.find_again.ensures.same _ _ _ refl (with_same limits log servers c.differs_again.ensures.same _ _ _ refl after.1),
          ),
    )

pub returns-clause-stops : goal.returns-clause-stops
returns-clause-stops g c =
    let took = c.in-Some.ensures.goes_on in
    λ none. absurd (cc)

pub returns-in_default-clause-stops : goal.returns-in_default-clause-stops
returns-in_default-clause-stops g c =
    λ none.
    let here = c.take_line.ensures.stops c.in_default.is in (
      here.0,
      λ reads left limits log servers contest sockets follows.
          here.1 (c.brings_another.ensures.same.reach ∙ reads) left limits log servers contest sockets
          (c.brings_another.ensures.same.servers ∙ follows.0, with_same limits log servers c.brings_another.ensures.same _ c.args.piece.now c.args.piece.now refl follows.1),
    )

pub returns-then-brings_another-clause-heeds : goal.returns-then-brings_another-clause-heeds
returns-then-brings_another-clause-heeds g c = heeds_then c.forgot.ensures.heeds (heeds_same _ c.brings_another.ensures.times)

pub returns-then-differs_again-clause-heeds : goal.returns-then-differs_again-clause-heeds
returns-then-differs_again-clause-heeds g c = heeds_then c.forgot-then-differs_again.ensures.heeds (heeds_then (heeds_same _ c.differs_again.ensures.times) (heeds_then c.take_line.ensures.heeds (heeds_same _ c.brings_another.ensures.times)))

pub returns-clause-heeds : goal.returns-clause-heeds
returns-clause-heeds g c = heeds_then (heeds_until c.find_again.ensures.time (heeds_same _ c.find_again.ensures.times)) (heeds_then (heeds_same _ c.differs_again.ensures.times) (heeds_then c.take_line.ensures.heeds (heeds_same _ c.brings_another.ensures.times)))

pub returns-in_default-clause-heeds : goal.returns-in_default-clause-heeds
returns-in_default-clause-heeds g c = heeds_then c.take_line.ensures.heeds (heeds_same _ c.brings_another.ensures.times)

pub returns-then-differs_again-clause-calls : goal.returns-then-differs_again-clause-calls
returns-then-differs_again-clause-calls g c = c.forgot-then-differs_again.ensures.calls ∙ c.take_line.ensures.calls
