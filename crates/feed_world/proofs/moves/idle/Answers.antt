use Rattle.std.proofs.Common.{refl, inl, suc}
use Rattle.std.proofs.lemmas.Result.{err_from_is_err_and}
use Rattle.feed_world.specs.Log.{numbered}
use Rattle.feed_world.specs.declared.event.Event.TheVariants.{Idle}
use Rattle.feed_world.specs.Step.{mirror_idles}
use Rattle.feed_world.proofs.Moved.{nobody, move_leads, move_fails, keeps_idle}
use Rattle.feed_world.proofs.moves.idle.Goals as goal

pub returns-in_err-place-clause-err : goal.returns-in_err-place-clause-err
returns-in_err-place-clause-err c w primary h =
    let p = err_from_is_err_and c.from_residual.result c.from_residual.ensures.1 in
    rw (p.1, p.2, c.in_err-place.ensures.err.0) (inl (nobody w primary _ h c.args.number mirror_idles c.in_err-place.ensures.err.1))

pub returns-clause-ok : goal.returns-clause-ok
returns-clause-ok c w primary h =
    move_leads w primary _ h c.args.number c.in_ok-place.place c.in_ok-place.ensures.ok.0 c.index-followers-place.result c.in_ok-place.ensures.ok.1
    (Idle c.args.number) mirror_idles refl (keeps_idle w (suc c.in_ok-place.place)) c.idle.result c.idle.new.self (λ m k. c.idle.ensures.ok w.limits (numbered w.log) m k)

pub returns-clause-err : goal.returns-clause-err
returns-clause-err c w primary h =
    move_fails w primary _ h c.args.number c.in_ok-place.place c.in_ok-place.ensures.ok.0 c.index-followers-place.result c.in_ok-place.ensures.ok.1
    mirror_idles c.idle.result (λ m k. c.idle.ensures.err w.limits (numbered w.log) m k)
