use Rattle.std.proofs.Common.{inl, refl}
use Rattle.std.proofs.lemmas.Result.{err_from_is_err_and}
use Rattle.feed_commands.proofs.InTurnLemmas.{done_none, done_more}
use Rattle.feed_commands.proofs.RelayLemmas.{broke_off}
use Rattle.feed_commands.proofs.ReportingLemmas.{reported_then}
use Rattle.feed_commands.proofs.AuditLemmas.{keeps_itself}
use Rattle.feed_commands.proofs.commands.relay.print_relayed.Goals as goal

pub rounds-init : goal.rounds-init
rounds-init g c = record { made = done_none _ _; reported = inl (refl, c.new-reporter.ensures) }

pub returns-in_err-make_round-clause-err : goal.returns-in_err-make_round-clause-err
returns-in_err-make_round-clause-err g c =
    let p = err_from_is_err_and c.from_residual.result c.from_residual.ensures.1 in
    rw (p.1, p.2) (broke_off _ _ _ _ _ _ _ _ _ _ _ c.rounds._made _ _ c.rounds-test.true
    c.rounds.invariant.made c.in_err-make_round.ensures.err (keeps_itself _))

pub rounds-preserved : goal.rounds-preserved
rounds-preserved g c =
    let on = c.in_ok-make_round.ensures.ok in
    record {
      made = done_more _ _ _ _ _ on.0 c.rounds.invariant.made on.1;
      reported = reported_then _ _ _ _ _ _ c.rounds.invariant.reported c.make_round.ensures.reported;
    }
