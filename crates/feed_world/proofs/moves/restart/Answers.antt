use Rattle.std.proofs.Common.{refl, inl, suc}
use Rattle.std.proofs.lemmas.Result.{err_from_is_err_and}
use Rattle.feed_world.specs.Log.{numbered}
use Rattle.feed_world.specs.declared.event.Event.TheVariants.{Restart}
use Rattle.feed_world.specs.Step.{mirror_restarts}
use Rattle.feed_world.proofs.Moved.{nobody, move_leads, move_fails, keeps_restart}
use Rattle.std.specs.Prelude.{Ok, Err}
use Rattle.feed_world.specs.declared.event.WorldFault.TheVariants.{Memory}
use Rattle.feed_world.proofs.moves.restart.Goals as goal

pub returns-in_err-place-clause-err : goal.returns-in_err-place-clause-err
returns-in_err-place-clause-err c w primary h =
    let p = err_from_is_err_and c.from_residual.result c.from_residual.ensures.1 in
    rw (p.1, p.2, c.in_err-place.ensures.err.0) (inl (nobody w primary _ h c.args.number (mirror_restarts (numbered w.log) c.args.bytes) c.in_err-place.ensures.err.1))

pub returns-in-Ok-clause-ok : goal.returns-in-Ok-clause-ok
returns-in-Ok-clause-ok c w primary h =
    move_leads w primary _ h c.args.number c.in_ok-place.place c.in_ok-place.ensures.ok.0 c.index-followers-place.result c.in_ok-place.ensures.ok.1
    (Restart c.args.number c.args.bytes) (mirror_restarts (numbered w.log) c.args.bytes) refl (keeps_restart w (suc c.in_ok-place.place) c.args.bytes) (Ok c.in-Ok.reply) c.restart.new.self (λ m k. c.in-Ok.ensures.ok w.limits (numbered w.log) m h.log k)

pub returns-in-Err-clause-err : goal.returns-in-Err-clause-err
returns-in-Err-clause-err c w primary h =
    move_fails w primary _ h c.args.number c.in_ok-place.place c.in_ok-place.ensures.ok.0 c.index-followers-place.result c.in_ok-place.ensures.ok.1
    (mirror_restarts (numbered w.log) c.args.bytes) (Err Memory) (λ m k. (refl, refl))
