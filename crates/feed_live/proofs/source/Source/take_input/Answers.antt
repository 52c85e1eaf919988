use Rattle.std.proofs.Common.{◌≡◌, sym, subst, ◌++◌}
use Rattle.std.specs.Prelude.{true, false}
use Rattle.feed_files.specs.Input.{StopsInput}
use Rattle.feed_files.proofs.InputLemmas.{takes_so}
use Rattle.feed_live.proofs.RelayLemmas.{same_shows}
use Rattle.feed_live.proofs.source.Source.take_input.Goals as goal

pub returns-in-Ok-clause-takes : goal.returns-in-Ok-clause-takes
returns-in-Ok-clause-takes c =
    λ limits log contest begun input sockets shows takes.
    let fed = c.in-Ok.ensures.takes limits log contest begun input sockets (λ honest. same_shows limits log c.hear.ensures (shows honest)) (takes_so c.hear.ensures.rest c.hear.ensures.shown takes) in
    (λ honest. same_shows limits log c.report_twice.ensures.same (fed.0 honest), λ goes_on. takes_so c.report_twice.ensures.same.rest c.report_twice.ensures.same.shown (fed.1 goes_on))

pub returns-in-Err-clause-takes : goal.returns-in-Err-clause-takes
returns-in-Err-clause-takes c =
    λ limits log contest begun input sockets shows takes.
    let fed = c.in-Err.ensures.takes limits log contest begun input sockets (λ honest. same_shows limits log c.hear.ensures (shows honest)) (takes_so c.hear.ensures.rest c.hear.ensures.shown takes) in
    (λ honest. same_shows limits log c.end_input.ensures (fed.0 honest), λ wrong. let no : false ≡ true = wrong in absurd (cc))

pub returns-in-Ok-clause-stops : goal.returns-in-Ok-clause-stops
returns-in-Ok-clause-stops c = λ wrong. let no : true ≡ false = wrong in absurd (cc)

pub returns-in-Err-clause-stops : goal.returns-in-Err-clause-stops
returns-in-Err-clause-stops c =
    λ ends. (
      c.in-Err.fault,
      λ begun input takes.
          subst (λ m. StopsInput begun (input ++ c.args.piece.now) c.in-Err.fault m) (sym c.end_input.ensures.shown)
          (c.in-Err.ensures.stops begun input (takes_so c.hear.ensures.rest c.hear.ensures.shown takes)),
    )
