use Rattle.std.specs.Prelude.{is_none}
use Rattle.std.proofs.Common.{◌∙◌, sym, ap, subst, drop}
use Rattle.feed_live.specs.Relaying.{pursuit, MayFollow, followed_by}
use Rattle.feed_live.proofs.RelayLemmas.{asked_more_honest, known_before, asks_follows, with_left}
use Rattle.feed_device.specs.Calls.{AnsweredSince}
use Rattle.feed_device.proofs.CallLemmas.{answers_once}
use Rattle.feed_live.proofs.source.Source.ask_once.Goals as goal

pub returns-in-Ok-clause-follows : goal.returns-in-Ok-clause-follows
returns-in-Ok-clause-follows g c =
    λ asks screens limits log servers contest sockets follows. (
      follows.0,
      (
        λ honest. follows.1.0 (asked_more_honest limits log servers _ _ _ c.in-Ok.ensures.bytes honest),
        λ known.
            let here = follows.1.1 (known_before _ _ _ c.in-Ok.ensures.bytes known) in
            asks_follows limits log servers (is_none c.args.self.now.coming) c.args.self.now.request.items c.args.self.now.rest.items c.behind-rest.result.now _ _ c.args.count c.in-Ok.more _ _
            c.in-Ok.ensures.bytes (c.behind-rest.ensures ∙ ap (drop c.args.count) c.deref.ensures.value)
            (subst (λ r. MayFollow limits log servers (g.L.Link.exchanges c.args.link.now) (pursuit (is_none c.args.self.now.coming) r c.args.self.now.request.items c.args.self.now.rest.items c.args.self.now.upstream.follower (followed_by c.args.self.now))) asks here),
      ),
    )

pub returns-in-Ok-clause-since : goal.returns-in-Ok-clause-since
returns-in-Ok-clause-since g c = answers_once _ _ _ c.in-Ok.ensures.calls.written

pub returns-else-not-has_to_wait-clause-since : goal.returns-else-not-has_to_wait-clause-since
returns-else-not-has_to_wait-clause-since g c = answers_once _ _ _ c.in-Err.ensures.calls.written

pub returns-then-not-has_to_wait-clause-since : goal.returns-then-not-has_to_wait-clause-since
returns-then-not-has_to_wait-clause-since g c =
    subst (λ k. AnsweredSince (g.L.Link.calls c.args.link.now).written k.written) (sym c.lost-then-not-has_to_wait.ensures.calls) (answers_once _ _ _ c.in-Err.ensures.calls.written)

pub returns-in-Ok-eq0-clause-follows : goal.returns-in-Ok-eq0-clause-follows
returns-in-Ok-eq0-clause-follows g c =
    λ asks screens limits log servers contest sockets follows. (
      c.lost.ensures.left.servers ∙ follows.0,
      with_left limits log servers c.lost.ensures.left c.lost.new.self.rest.items (λ honest. follows.1.0 (asked_more_honest limits log servers _ _ _ c.in-Ok-eq0.ensures.bytes honest)),
    )

pub returns-in-Ok-eq0-clause-since : goal.returns-in-Ok-eq0-clause-since
returns-in-Ok-eq0-clause-since g c =
    subst (λ k. AnsweredSince (g.L.Link.calls c.args.link.now).written k.written) (sym c.lost.ensures.calls) (answers_once _ _ _ c.in-Ok-eq0.ensures.calls.written)
