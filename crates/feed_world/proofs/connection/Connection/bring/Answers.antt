use Rattle.std.proofs.Common.{◌<◌, sym, ap, ◌∙◌, subst, drop, take}
use Rattle.feed_follow.specs.Follower.{FollowsAt}
use Rattle.feed_follow.specs.Following.{Fails}
use Rattle.feed_world.specs.States.{IsDelivered, sending, delivered_after, next_bytes}
use Rattle.feed_world.specs.Step.{IsForMemory}
use Rattle.feed_world.proofs.Brought.{brings_more, part_of, some_pushed}
use Rattle.feed_world.proofs.connection.Connection.bring.Goals as goal

pub returns-in-Err-clause-err : goal.returns-in-Err-clause-err
returns-in-Err-clause-err c =
    λ start before standing follows.
    subst (λ s. Fails start s.reader.had_token before (next_bytes s c.args.bytes) c.push.new.mirror c.in-Err.fault) c.self.view_is
    (subst (λ bs. Fails start c.self.inside.reader.had_token before bs c.push.new.mirror c.in-Err.fault)
    (part_of c.self.inside.delivered c.end-end.result c.deref.result.now
    ∙ ap (λ bs. drop c.self.inside.delivered (take c.end-end.result bs)) c.deref.ensures.value
    ∙ ap (λ n. drop c.self.inside.delivered (take n c.self.inside.bytes.items)) (c.end-end.ensures ∙ ap (λ s. delivered_after s c.args.bytes) (sym c.self.view_is)))
    (c.in-Err.ensures.err start before standing (subst (λ s. FollowsAt start before standing s.reader c.args.mirror.now) (sym c.self.view_is) follows)))

pub returns-in-Ok-clause-ok : goal.returns-in-Ok-clause-ok
returns-in-Ok-clause-ok c =
    subst (λ s. IsDelivered s c.args.bytes c.args.mirror.now (sending c.self.inside.session c.self.inside.framing c.push.new.self c.self.inside.bytes.items c.end-end.result c.self.inside.start c.self.inside.is_over) c.push.new.mirror) c.self.view_is
    (brings_more _ c.args.bytes c.end-end.result _ c.push.new.self c.args.mirror.now c.push.new.mirror c.in-Ok.field-0
    (c.end-end.ensures ∙ ap (λ s. delivered_after s c.args.bytes) (sym c.self.view_is))
    (part_of c.self.inside.delivered c.end-end.result c.deref.result.now
    ∙ ap (λ bs. drop c.self.inside.delivered (take c.end-end.result bs)) c.deref.ensures.value)
    c.in-Ok.ensures.push.limits c.in-Ok.ensures.ok)

pub returns-in-Err-clause-some : goal.returns-in-Err-clause-some
returns-in-Err-clause-some c =
    subst (λ s. IsForMemory c.in-Err.fault → s.delivered < delivered_after s c.args.bytes) c.self.view_is
    (some_pushed (sending c.self.inside.session c.self.inside.framing c.self.inside.reader c.self.inside.bytes.items c.self.inside.delivered c.self.inside.start c.self.inside.is_over)
    c.args.bytes c.in-Err.fault _ c.self.invariant (λ e. (c.in-Err.ensures.push.closed e).0) (λ e going. (c.in-Err.ensures.push.nothing
    (part_of c.self.inside.delivered c.end-end.result c.deref.result.now
    ∙ ap (λ bs. drop c.self.inside.delivered (take c.end-end.result bs)) c.deref.ensures.value
    ∙ ap (λ n. drop c.self.inside.delivered (take n c.self.inside.bytes.items)) (c.end-end.ensures ∙ ap (λ s. delivered_after s c.args.bytes) (sym c.self.view_is))
    ∙ e) going).0))
