use Rattle.std.proofs.Common.{refl, inl, suc}
use Rattle.std.proofs.lemmas.Result.{err_from_is_err_and}
use Rattle.feed_world.specs.Log.{numbered}
use Rattle.feed_world.specs.declared.event.Event.TheVariants.{Save}
use Rattle.feed_world.specs.Step.{mirror_saves}
use Rattle.feed_world.proofs.Moved.{nobody, move_leads, move_fails, keeps_save}
use Rattle.std.specs.Prelude.{Ok, Err}
use Rattle.feed_world.specs.declared.event.WorldFault.TheVariants.{Memory}
use Rattle.feed_world.proofs.moves.save.Goals as goal

pub returns-in_err-place-clause-err : goal.returns-in_err-place-clause-err
returns-in_err-place-clause-err c w primary h =
    let p = err_from_is_err_and c.from_residual.result c.from_residual.ensures.1 in
    rw (p.1, p.2, c.in_err-place.ensures.err.0) (inl (nobody w primary _ h c.args.number (mirror_saves (numbered w.log)) c.in_err-place.ensures.err.1))

pub returns-clause-ok : goal.returns-clause-ok
returns-clause-ok c w primary h =
    move_leads w primary _ h c.args.number c.in_ok-place.place c.in_ok-place.ensures.ok.0 c.index-followers-place.result c.in_ok-place.ensures.ok.1
    (Save c.args.number) (mirror_saves (numbered w.log)) refl (keeps_save w (suc c.in_ok-place.place)) (Ok c.in_ok-save.field-0) c.save.new.self (λ m k. c.in_ok-save.ensures.ok w.limits (numbered w.log) m k)

pub returns-in_err-save-clause-err : goal.returns-in_err-save-clause-err
returns-in_err-save-clause-err c w primary h =
    let p = err_from_is_err_and c.from_residual-in_err-save.result c.from_residual-in_err-save.ensures.1 in
    rw (p.1, p.2) (move_fails w primary _ h c.args.number c.in_ok-place.place c.in_ok-place.ensures.ok.0 c.index-followers-place.result c.in_ok-place.ensures.ok.1
    (mirror_saves (numbered w.log)) (Err Memory) (λ m k. (refl, refl)))
