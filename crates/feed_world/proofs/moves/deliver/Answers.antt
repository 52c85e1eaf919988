use Rattle.std.proofs.Common.{refl, inl}
use Rattle.std.proofs.lemmas.Result.{err_from_is_err_and}
use Rattle.feed_world.specs.Log.{numbered}
use Rattle.feed_world.specs.Step.{mirror_delivers}
use Rattle.feed_world.proofs.Moved.{nobody, deliver_leads, deliver_fails}
use Rattle.feed_world.proofs.moves.deliver.Goals as goal

pub returns-in_err-place-clause-err : goal.returns-in_err-place-clause-err
returns-in_err-place-clause-err c w primary h =
    let p = err_from_is_err_and c.from_residual.result c.from_residual.ensures.1 in
    rw (p.1, p.2, c.in_err-place.ensures.err.0) (inl (nobody w primary _ h c.args.number (mirror_delivers w.limits.history (numbered w.log) c.args.bytes) c.in_err-place.ensures.err.1))

pub returns-clause-ok : goal.returns-clause-ok
returns-clause-ok c w primary h =
    deliver_leads w primary _ h c.args.number c.in_ok-place.place c.in_ok-place.ensures.ok.0 c.index-followers-place.result c.in_ok-place.ensures.ok.1 c.args.bytes c.deliver.result c.deliver.new.self
    (λ m k. c.deliver.ensures.ok w.limits (numbered w.log) m (λ number. refl) h.log k)

pub returns-clause-err : goal.returns-clause-err
returns-clause-err c w primary h =
    deliver_fails w primary _ h c.args.number c.in_ok-place.place c.in_ok-place.ensures.ok.0 c.index-followers-place.result c.in_ok-place.ensures.ok.1 c.args.bytes c.deliver.result c.deliver.ensures.err
