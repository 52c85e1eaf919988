use Rattle.std.proofs.Common.{rules}
use Rattle.std.proofs.lemmas.Result.{err_from_is_err_and}
use Rattle.feed_commands.specs.Relay.{has_run_out}
use Rattle.feed_commands.proofs.RelayLemmas.{no_room, round_on, round_ends, makes_round}
use Rattle.feed_commands.proofs.ReportingLemmas.{reported_then}
use Rattle.feed_commands.proofs.commands.relay.make_round.Goals as goal

pub returns-in_err-attempts-clause-err : goal.returns-in_err-attempts-clause-err
returns-in_err-attempts-clause-err g c =
    let p = err_from_is_err_and c.from_residual.result c.from_residual.ensures.1 in
    let same = c.in_err-attempts.ensures.memory in
    rw (p.1, p.2) (no_room _ _ _ _ _ _ _ _ _ _ same.0 same.1)

pub returns-then-has_run_out-clause-err : goal.returns-then-has_run_out-clause-err
returns-then-has_run_out-clause-err g c =
    has_run_out c.in_ok-attempts.attempts.items _ c.in_ok-attempts.ensures.followed (search rules)

pub returns-clause-ok : goal.returns-clause-ok
returns-clause-ok g c =
    round_on _ _ _ _ _ c.end_connection.result _ c.serve_next-served.result _
    (makes_round _ _ _ _ _ _ _ c.in_ok-attempts.attempts.items _ _ _ _ _ c.in_ok-attempts.ensures.followed (search rules)
    c.service_of-service.ensures c.node.ensures.node c.serve_next-served.ensures)
    c.end_connection.ensures.on

pub returns-clause-err : goal.returns-clause-err
returns-clause-err g c =
    round_ends _ _ _ _ _ c.end_connection.result _ c.serve_next-served.result _
    (makes_round _ _ _ _ _ _ _ c.in_ok-attempts.attempts.items _ _ _ _ _ c.in_ok-attempts.ensures.followed (search rules)
    c.service_of-service.ensures c.node.ensures.node c.serve_next-served.ensures)
    c.end_connection.ensures.ends

pub returns-clause-reported : goal.returns-clause-reported
returns-clause-reported g c = reported_then _ _ _ _ _ _ c.report_attempts.ensures c.end_connection.ensures.reported
