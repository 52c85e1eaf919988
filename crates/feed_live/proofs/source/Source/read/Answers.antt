use Rattle.std.specs.Prelude.{is_none}
use Rattle.std.proofs.Common.{◌≡◌, ◌∙◌, sym, ap, subst, [], take, length}
use Rattle.feed_live.specs.Relaying.{FollowsServers, followed_by, within_turn}
use Rattle.feed_live.proofs.RelayLemmas.{with_left, received_more_honest, known_before, reads_follows, to_show, to_show_of}
use Rattle.feed_live.proofs.source.Source.read.Goals as goal

pub returns-in-Ok-eq0-clause-follows : goal.returns-in-Ok-eq0-clause-follows
returns-in-Ok-eq0-clause-follows g c =
    λ reads none limits log servers contest sockets follows.
    let none_came : length (take c.in-Ok-eq0.field-0 c.read.new.buf) ≡ 0 = ap (λ n. length (take n c.read.new.buf)) c.in-Ok-eq0.field-0-test in
    let shows = c.settle_ended.ensures.shows limits log servers contest sockets (to_show_of limits log servers c.args.self.now c.args.screens.now none_came
    (to_show limits log servers c.args.self.now c.args.screens.now _ (take c.in-Ok-eq0.field-0 c.read.new.buf) reads (
      follows.0,
      (
        λ honest. follows.1.0 (received_more_honest limits log servers _ _ _ c.in-Ok-eq0.ensures.bytes honest),
        λ known.
            reads_follows limits log servers (is_none c.args.self.now.coming) c.args.self.now.reach c.args.self.now.request.items (take c.in-Ok-eq0.field-0 c.read.new.buf) _ _ c.args.self.now.upstream.follower (followed_by c.args.self.now) c.in-Ok-eq0.ensures.bytes (follows.1.1 (known_before _ _ _ c.in-Ok-eq0.ensures.bytes known)),
      ),
    ))) in
    (c.end.ensures.left.servers ∙ shows.0, with_left limits log servers c.end.ensures.left c.end.new.self.rest.items shows.1)

pub returns-in-Ok-clause-follows : goal.returns-in-Ok-clause-follows
returns-in-Ok-clause-follows g c =
    λ reads none limits log servers contest sockets follows.
    c.take.ensures.follows reads none limits log servers contest sockets (
      follows.0,
      (
        λ honest. follows.1.0 (received_more_honest limits log servers _ _ _ c.in-Ok.ensures.bytes honest),
        λ known.
            reads_follows limits log servers (is_none c.args.self.now.coming) c.args.self.now.reach c.args.self.now.request.items _ _ _ c.args.self.now.upstream.follower (followed_by c.args.self.now) c.in-Ok.ensures.bytes (follows.1.1 (known_before _ _ _ c.in-Ok.ensures.bytes known)),
      ),
    )

pub returns-then-not-has_to_wait-clause-follows : goal.returns-then-not-has_to_wait-clause-follows
returns-then-not-has_to_wait-clause-follows g c =
    λ reads none limits log servers contest sockets follows.
    let shows = c.settle_ended-then-not-has_to_wait.ensures.shows limits log servers contest sockets (to_show limits log servers c.args.self.now c.args.screens.now _ [] reads
    (subst (λ e. FollowsServers limits log servers contest (within_turn e c.args.self.now [] c.args.screens.now) sockets) (sym c.in-Err.ensures.bytes) follows)) in
    (c.end-then-not-has_to_wait.ensures.left.servers ∙ shows.0, with_left limits log servers c.end-then-not-has_to_wait.ensures.left c.end-then-not-has_to_wait.new.self.rest.items shows.1)
