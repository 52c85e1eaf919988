use Rattle.std.proofs.Common.{sym, ap, ◌∙◌, subst, ◌++◌}
use Rattle.feed_node.specs.Serving.{SendsCommit, commit_after}
use Rattle.feed_wire.specs.Framed.{frame}
use Rattle.feed_world.specs.States.{IsConnection}
use Rattle.feed_world.specs.Step.{serves}
use Rattle.feed_world.proofs.Answered.{commit_comes}
use Rattle.feed_world.proofs.Served.{up_to_date_there, lost_there, more_there, commit_is_next, sent_is_next}
use Rattle.feed_world.proofs.connection.Connection.serve.Goals as goal
use Rattle.feed_tables.proofs.Listers.{on_any_err}

pub returns-in_err-session-clause-err : goal.returns-in_err-session-clause-err
returns-in_err-session-clause-err c =
    λ limits log d place is_log is_place shown sent is.
    on_any_err c.from_residual.result _ (commit_is_next limits log d place _ _ is_log is_place shown sent (subst (IsConnection log d) (sym c.self.view_is) is) c.if-self.false
    (commit_comes _ _ c.in_err-session.ensures.err.0 c.in_err-session.ensures.err.1))

pub returns-in_err-frame-in-More-clause-err : goal.returns-in_err-frame-in-More-clause-err
returns-in_err-frame-in-More-clause-err c =
    λ limits log d place is_log is_place shown sent is.
    on_any_err c.from_residual-in_err-frame-in-More.result _ (sent_is_next limits log d place _ _ is_log is_place shown sent (subst (IsConnection log d) (sym c.self.view_is) is) c.if-self.false
    c.in-More.session c.next.new.out.items
    (λ e. let both = sym (c.in_ok-session.ensures.up_to_date.1 e) ∙ c.in-More.is in absurd (cc))
    (subst (λ l. SendsCommit (commit_after c.args.server.now.shown c.self.inside.session) c.in-More.session l c.next.new.out.items) c.new-lines.ensures.items
    (c.in_ok-session.ensures.more c.in-More.session c.in-More.is)))

pub returns-in-More-clause-ok : goal.returns-in-More-clause-ok
returns-in-More-clause-ok c =
    λ limits log d place is_log is_place shown sent is.
    more_there limits log d place _ _ is_log is_place shown sent (subst (IsConnection log d) (sym c.self.view_is) is) c.if-self.false
    c.in-More.session c.next.new.out.items c.frame.new.out.items
    (λ e. let both = sym (c.in_ok-session.ensures.up_to_date.1 e) ∙ c.in-More.is in absurd (cc))
    (subst (λ l. SendsCommit (commit_after c.args.server.now.shown c.self.inside.session) c.in-More.session l c.next.new.out.items) c.new-lines.ensures.items
    (c.in_ok-session.ensures.more c.in-More.session c.in-More.is))
    (c.in_ok-frame-in-More.ensures.ok ∙ ap (λ l. c.self.inside.bytes.items ++ frame c.self.inside.framing l) c.as_slice.ensures.value)

pub returns-in-UpToDate-clause-ok : goal.returns-in-UpToDate-clause-ok
returns-in-UpToDate-clause-ok c =
    λ limits log d place is_log is_place shown sent is.
    let r = up_to_date_there limits log d place _ _ is_log is_place shown sent (subst (IsConnection log d) (sym c.self.view_is) is) c.if-self.false (c.in_ok-session.ensures.up_to_date.0 c.in-UpToDate.is) in
    (r.0, subst (IsConnection log (serves d place).1) c.self.view_is r.1)

pub returns-clause-ok : goal.returns-clause-ok
returns-clause-ok c =
    λ limits log d place is_log is_place shown sent is.
    lost_there limits log d place _ _ is_log is_place shown sent (subst (IsConnection log d) (sym c.self.view_is) is) c.if-self.false
    (λ e. let both = sym (c.in_ok-session.ensures.up_to_date.1 e) ∙ c.in-Gone.is in absurd (cc)) (c.in_ok-session.ensures.gone.0 c.in-Gone.is)
