use Rattle.std.proofs.Common.{ap, arith}
use Rattle.feed_live.specs.Running.{moment_of, surroundings}
use Rattle.feed_live.proofs.RunLemmas.{at_err, no_turn, one_turn, failed_run, cleared, given_so}
use Rattle.feed_live.proofs.running.step.Goals as goal

pub returns-in_err-wait-clause-err : goal.returns-in_err-wait-clause-err
returns-in_err-wait-clause-err g c =
    at_err _ _ (failed_run {next = c.args.before} {time = g.H.Host.time c.args.host.now}
    (no_turn (ap (λ input. moment_of c.args.live.now c.args.before (g.H.Host.time c.args.host.now)
    (surroundings (g.L.Link.exchanges c.args.devices.now.link) (g.S.Sockets.socket c.args.devices.now.sockets) (g.D.Store.files c.args.devices.now.store) input)) c.in_err-wait.ensures.err.0)
    c.in_err-wait.ensures.err.1) (omega arith))

pub returns-in_err-report-clause-err : goal.returns-in_err-report-clause-err
returns-in_err-report-clause-err g c =
    at_err _ _ (failed_run
    (one_turn (given_so c.in_ok-wait.ensures.input c.report.ensures.input c.report.ensures.time (c.turn-next.ensures c.args.before (g.H.Host.time c.args.host.now)))
    c.in_ok-wait.ensures.calls c.report.ensures.calls) (omega arith))

pub returns-clause-turn : goal.returns-clause-turn
returns-clause-turn g c =
    one_turn
    (cleared (given_so c.in_ok-wait.ensures.input c.report.ensures.input c.report.ensures.time (c.turn-next.ensures c.args.before (g.H.Host.time c.args.host.now)))
    c.clear_reports.ensures.relaying c.clear_reports.ensures.taking c.clear_reports.ensures.rest)
    c.in_ok-wait.ensures.calls c.report.ensures.calls
