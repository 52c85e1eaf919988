use Rattle.std.proofs.Common.{inl, inr, refl}
use Rattle.std.proofs.lemmas.Result.{err_from_is_err_and}
use Rattle.feed_commands.proofs.InTurnLemmas.{done_none, done_more}
use Rattle.feed_commands.proofs.ServeLemmas.{takes_all, takes_some, stopped_at, on_ok, taken_untold}
use Rattle.feed_commands.proofs.ReportingLemmas.{reported_then}
use Rattle.feed_commands.proofs.commands.serve.serve_all.Goals as goal

pub connections-init : goal.connections-init
connections-init g c =
    record { served = done_none _ _; reported = inl (refl, c.new-reporter.ensures) }

pub returns-in_err-serve_one-clause-failed : goal.returns-in_err-serve_one-clause-failed
returns-in_err-serve_one-clause-failed g c =
    let p = err_from_is_err_and c.from_residual.result c.from_residual.ensures.1 in
    rw (p.1, p.2) (inr (stopped_at _ _ _ _ c.connections._made _ _ _ _ c.connections-test.true
    c.connections.invariant.served c.in_err-serve_one.ensures.err))

pub returns-in_err-serve_one-clause-err : goal.returns-in_err-serve_one-clause-err
returns-in_err-serve_one-clause-err g c =
    let p = err_from_is_err_and c.from_residual.result c.from_residual.ensures.1 in
    rw (p.1, p.2) (takes_some _ _ _ _ _ _ _ (stopped_at _ _ _ _ c.connections._made _ _ _ _
    c.connections-test.true c.connections.invariant.served c.in_err-serve_one.ensures.err))

pub connections-preserved : goal.connections-preserved
connections-preserved g c =
    let on = c.in_ok-serve_one.ensures.ok in
    record {
      served = done_more _ _ _ _ _ on.0 c.connections.invariant.served on.1;
      reported = reported_then _ _ _ _ _ _ c.connections.invariant.reported c.serve_one.ensures.reported;
    }

pub returns-clause-ok : goal.returns-clause-ok
returns-clause-ok g c =
    on_ok c.outcome.result _ (takes_all _ _ _ _ _ _ c.connections.invariant.served)

pub returns-clause-err : goal.returns-clause-err
returns-clause-err g c =
    taken_untold c.outcome.result _ _ _ c.outcome.ensures.err
    (takes_all _ _ _ _ _ _ c.connections.invariant.served)
