use Rattle.std.proofs.Common.{refl, sym, subst}
use Rattle.std.specs.Prelude.{Contains}
use Rattle.std.proofs.lemmas.Result.{err_from_is_err_and}
use Rattle.feed_live.specs.States.{states_of}
use Rattle.feed_live.proofs.InputLemmas.{shows_taken, shows_stopped, stops_in, none_ok}
use Rattle.feed_files.proofs.InputLemmas.{takes_on, takes_so}
use Rattle.feed_live.proofs.StateLemmas.{among_states}
use Rattle.feed_live.proofs.source.Source.feed_line.Goals as goal

pub returns-in_err-feed-clause-takes : goal.returns-in_err-feed-clause-takes
returns-in_err-feed-clause-takes c =
    λ next limits log contest begun input sockets shows takes. (
      shows_stopped limits log input c.args.line.now next _ c.change.ensures.mirror c.feed.ensures.limits c.in_err-feed.ensures.err takes shows,
      none_ok _ _ c.from_residual.result c.from_residual.ensures.1,
    )

pub returns-then-relay-clause-takes : goal.returns-then-relay-clause-takes
returns-then-relay-clause-takes c =
    λ next limits log contest begun input sockets shows takes. (
      shows_taken limits log input c.args.line.now next _ c.change.ensures.mirror c.feed.ensures.limits c.in_ok-feed.ensures.ok
          (λ at serving. c.relay.ensures.serving (states_of limits log) contest sockets
          (subst (λ n. Contains (states_of limits log) n) (sym c.node.ensures) (among_states limits log _ at)) serving)
          takes shows,
      takes_on c.args.line.now next _ c.in_ok-feed.ensures.ok (takes_so refl c.change.ensures.mirror takes),
    )

pub returns-else-relay-clause-takes : goal.returns-else-relay-clause-takes
returns-else-relay-clause-takes c =
    λ next limits log contest begun input sockets shows takes. (
      shows_taken limits log input c.args.line.now next _ c.change.ensures.mirror c.feed.ensures.limits c.in_ok-feed.ensures.ok
          (λ at serving. c.relay.ensures.serving (states_of limits log) contest sockets
          (subst (λ n. Contains (states_of limits log) n) (sym c.node.ensures) (among_states limits log _ at)) serving)
          takes shows,
      takes_on c.args.line.now next _ c.in_ok-feed.ensures.ok (takes_so refl c.change.ensures.mirror takes),
    )

pub returns-in_err-feed-clause-stops : goal.returns-in_err-feed-clause-stops
returns-in_err-feed-clause-stops c =
    λ next.
    let e = err_from_is_err_and c.from_residual.result c.from_residual.ensures.1 in
    rw (e.1, e.2) (λ begun input takes. stops_in c.args.line.now next _ c.in_err-feed.ensures.err (takes_so refl c.change.ensures.mirror takes))

pub returns-then-relay-clause-stops : goal.returns-then-relay-clause-stops
returns-then-relay-clause-stops c = λ next begun input takes. takes_on c.args.line.now next _ c.in_ok-feed.ensures.ok (takes_so refl c.change.ensures.mirror takes)

pub returns-else-relay-clause-stops : goal.returns-else-relay-clause-stops
returns-else-relay-clause-stops c = λ next begun input takes. takes_on c.args.line.now next _ c.in_ok-feed.ensures.ok (takes_so refl c.change.ensures.mirror takes)
