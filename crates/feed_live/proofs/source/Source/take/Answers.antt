use Rattle.std.proofs.Common.{refl, sym, ap, ◌∙◌, subst, ◌++◌}
use Rattle.feed_live.specs.Relaying.{AnswersFromLog, screen_side}
use Rattle.feed_live.proofs.RelayLemmas.{with_left, with_kept, where_ok}
use Rattle.feed_live.proofs.TimesLemmas.{heeds_then, heeds_same}
use Rattle.feed_live.proofs.source.Source.take.Goals as goal

pub returns-in-None-clause-follows : goal.returns-in-None-clause-follows
returns-in-None-clause-follows g c =
    λ reads none limits log servers contest sockets follows.
    let now = c.lines.invariant.follows reads none in
    (c.in-None.ensures.stops refl).1 now.0 c.take_next.new.self.rest.items limits log servers contest sockets (now.2 limits log servers contest sockets follows)

pub lines-preserved : goal.lines-preserved
lines-preserved g c =
    record {
      follows = λ reads none.
          let now = c.lines.invariant.follows reads none in (
            c.in-Some.ensures.goes_on.0 ∙ now.0,
            c.in-Some.ensures.goes_on.1 ∙ now.1,
            λ limits log servers contest sockets follows. c.in-Some.ensures.goes_on.2 now.0 limits log servers contest sockets (now.2 limits log servers contest sockets follows),
          );
      heeds = heeds_then c.take_next.ensures.heeds c.lines.invariant.heeds;
      calls = c.take_next.ensures.calls ∙ c.lines.invariant.calls;
      reach = c.in-Some.ensures.goes_on.0 ∙ c.lines.invariant.reach;
      kept = c.in-Some.ensures.goes_on.1 ∙ c.lines.invariant.kept;
    }

pub returns-then-is_err-clause-follows : goal.returns-then-is_err-clause-follows
returns-then-is_err-clause-follows g c =
    λ reads none limits log servers contest sockets follows.
    let now = (c.lines.invariant.follows reads none).2 limits log servers contest sockets follows in (
      c.lost.ensures.left.servers ∙ c.keep.ensures.same.servers ∙ now.0,
      with_left limits log servers c.lost.ensures.left c.lost.new.self.rest.items (λ honest. subst (λ a. AnswersFromLog limits log contest (screen_side a.shown.mirror a.blank.mirror c.lines.screens.hub c.lines.screens.conns) sockets) (sym c.keep.ensures.same.answers) (now.1.0 honest)),
    )

pub returns-else-is_err-clause-follows : goal.returns-else-is_err-clause-follows
returns-else-is_err-clause-follows g c =
    λ reads none limits log servers contest sockets follows.
    let now = c.lines.invariant.follows reads none in
    let here = now.2 limits log servers contest sockets follows in (
      c.keep.ensures.same.servers ∙ here.0,
      with_kept limits log servers c.keep.ensures.same _ c.lines.rest.now c.keep.new.self.rest.items
          (where_ok c.keep.result (sym c.is_err.ensures.value ∙ c.if-is_err.false) c.keep.ensures.ok ∙ ap (λ r. r ++ c.lines.rest.now) now.1)
          here.1,
    )

pub returns-in-None-clause-heeds : goal.returns-in-None-clause-heeds
returns-in-None-clause-heeds g c = heeds_then c.take_next.ensures.heeds c.lines.invariant.heeds

pub returns-in-None-clause-calls : goal.returns-in-None-clause-calls
returns-in-None-clause-calls g c = c.take_next.ensures.calls ∙ c.lines.invariant.calls

pub returns-then-is_err-clause-heeds : goal.returns-then-is_err-clause-heeds
returns-then-is_err-clause-heeds g c = heeds_then c.lost.ensures.heeds (heeds_then (heeds_same _ c.keep.ensures.times) c.lines.invariant.heeds)

pub returns-then-is_err-clause-calls : goal.returns-then-is_err-clause-calls
returns-then-is_err-clause-calls g c = c.lost.ensures.calls ∙ c.lines.invariant.calls

pub returns-else-is_err-clause-heeds : goal.returns-else-is_err-clause-heeds
returns-else-is_err-clause-heeds g c = heeds_then (heeds_same _ c.keep.ensures.times) c.lines.invariant.heeds

pub returns-else-is_err-clause-calls : goal.returns-else-is_err-clause-calls
returns-else-is_err-clause-calls g c = c.lines.invariant.calls
