use Rattle.std.proofs.Common.{◌∙◌, refl}
use Rattle.feed_live.proofs.RelayLemmas.{same_shows, with_left, with_same}
use Rattle.feed_live.proofs.SourceLemmas.{some_so}
use Rattle.feed_live.proofs.TimesLemmas.{heeds_then, heeds_same}
use Rattle.feed_live.proofs.source.Source.take_next.Goals as goal

pub returns-then-is_replay-clause-stops : goal.returns-then-is_replay-clause-stops
returns-then-is_replay-clause-stops g c =
    λ none. (
      c.ignored.ensures.left.reach,
      λ reads left limits log servers contest sockets follows. (
        c.ignored.ensures.left.servers ∙ c.is_replay.ensures.same.servers ∙ follows.0,
        with_left limits log servers c.ignored.ensures.left left (λ honest. same_shows limits log c.is_replay.ensures.same (follows.1.0 honest)),
      ),
    )

pub returns-clause-goes_on : goal.returns-clause-goes_on
returns-clause-goes_on g c =
    some_so c.take_checked.result (λ next here. (
      here.0 ∙ c.is_replay.ensures.same.reach,
      here.1 ∙ c.is_replay.ensures.same.rest,
      λ reads limits log servers contest sockets follows.
          here.2 (c.is_replay.ensures.same.reach ∙ reads) limits log servers contest sockets
          (c.is_replay.ensures.same.servers ∙ follows.0, with_same limits log servers c.is_replay.ensures.same _ c.args.piece.now c.args.piece.now refl follows.1),
    )) c.take_checked.ensures.goes_on

pub returns-clause-stops : goal.returns-clause-stops
returns-clause-stops g c =
    λ none.
    let here = c.take_checked.ensures.stops none in (
      here.0,
      λ reads left limits log servers contest sockets follows.
          here.1 (c.is_replay.ensures.same.reach ∙ reads) left limits log servers contest sockets
          (c.is_replay.ensures.same.servers ∙ follows.0, with_same limits log servers c.is_replay.ensures.same _ c.args.piece.now c.args.piece.now refl follows.1),
    )

pub returns-then-is_replay-clause-heeds : goal.returns-then-is_replay-clause-heeds
returns-then-is_replay-clause-heeds g c = heeds_then c.ignored.ensures.heeds (heeds_same _ c.is_replay.ensures.times)

pub returns-clause-heeds : goal.returns-clause-heeds
returns-clause-heeds g c = heeds_then c.take_checked.ensures.heeds (heeds_same _ c.is_replay.ensures.times)
