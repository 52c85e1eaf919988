use Rattle.std.proofs.Common.{refl, ap, ◌∙◌, arith, ◌∷◌, ◌++◌}
use Rattle.std.proofs.lemmas.Result.{err_from_is_err_and}
use Rattle.feed_world.specs.Log.{numbered}
use Rattle.feed_world.specs.States.{node_asked}
use Rattle.feed_world.proofs.Asked.{asked_nobody, asked_leads, asked_fails, asked_none}
use Rattle.feed_world.proofs.Moved.{between, first_of_rest, put_between}
use Rattle.feed_world.proofs.moves.ask.Goals as goal

pub returns-in_err-place-clause-err : goal.returns-in_err-place-clause-err
returns-in_err-place-clause-err c w h framed =
    let p = err_from_is_err_and c.from_residual.result c.from_residual.ensures.1 in
    rw (p.1, p.2, c.in_err-place.ensures.err.0) (asked_nobody w c.args.primary.now _ h c.args.number c.args.asks c.in_err-place.ensures.err.1)

pub returns-in-Some-clause-ok : goal.returns-in-Some-clause-ok
returns-in-Some-clause-ok c w h framed =
    let first = c.split_at_mut-earlier.ensures in
    let second = c.split_at_mut-own.ensures in
    let is = first_of_rest c.args.followers.now c.split_at_mut-earlier.result.1.now c.split_at_mut-own.result.0.now c.in_ok-place.place c.index-own-0.result first.by_index.1 (second.by_index.0 0 c.index-own-0.result (omega arith)) in
    asked_leads w c.args.primary.now _ h c.args.number c.in_ok-place.place c.in_ok-place.ensures.ok.0 c.index-own-0.result c.in_ok-place.ensures.ok.1
    _ is c.split_at_mut-earlier.result.0.now c.split_at_mut-own.result.1.now first.front_len
    (ap (λ f. c.split_at_mut-earlier.result.0.now ++ f ∷ c.split_at_mut-own.result.1.now) is
    ∙ between c.args.followers.now c.split_at_mut-earlier.result.0.now c.split_at_mut-earlier.result.1.now c.split_at_mut-own.result.1.now c.in_ok-place.place c.index-own-0.result c.in_ok-place.ensures.ok.1 first.front first.back second.back)
    c.args.asks c.of.result (c.of.ensures ∙ ap (node_asked c.args.asks) c.upstream.ensures) framed
    c.in-Some.server.now.shown (c.in-Some.ensures.some _) (c.in-Some.ensures.other refl)
    _ c.ask.new.self (put_between c.args.followers.now c.split_at_mut-earlier.result.0.now c.split_at_mut-earlier.result.1.now c.split_at_mut-own.result.0.now c.split_at_mut-own.result.1.now c.in_ok-place.place _ first.front first.back second.front second.back) c.ask.result
    (λ m at p n k. c.ask.ensures.ok w.limits (numbered w.log) m at (λ number. refl) (record { is_log = h.log; is_place = p; shows = n; mirror = k }))

pub returns-in-Some-clause-err : goal.returns-in-Some-clause-err
returns-in-Some-clause-err c w h framed =
    let first = c.split_at_mut-earlier.ensures in
    let second = c.split_at_mut-own.ensures in
    let is = first_of_rest c.args.followers.now c.split_at_mut-earlier.result.1.now c.split_at_mut-own.result.0.now c.in_ok-place.place c.index-own-0.result first.by_index.1 (second.by_index.0 0 c.index-own-0.result (omega arith)) in
    asked_fails w c.args.primary.now _ h c.args.number c.in_ok-place.place c.in_ok-place.ensures.ok.0 c.index-own-0.result c.in_ok-place.ensures.ok.1
    _ is c.split_at_mut-earlier.result.0.now c.split_at_mut-own.result.1.now first.front_len
    (ap (λ f. c.split_at_mut-earlier.result.0.now ++ f ∷ c.split_at_mut-own.result.1.now) is
    ∙ between c.args.followers.now c.split_at_mut-earlier.result.0.now c.split_at_mut-earlier.result.1.now c.split_at_mut-own.result.1.now c.in_ok-place.place c.index-own-0.result c.in_ok-place.ensures.ok.1 first.front first.back second.back)
    c.args.asks c.of.result (c.of.ensures ∙ ap (node_asked c.args.asks) c.upstream.ensures) framed
    c.in-Some.server.now.shown (c.in-Some.ensures.some _) (c.in-Some.ensures.other refl)
    c.ask.result
    (λ m at p n k. c.ask.ensures.err w.limits (numbered w.log) m at (record { is_log = h.log; is_place = p; shows = n; mirror = k }))

pub returns-in-None-clause-err : goal.returns-in-None-clause-err
returns-in-None-clause-err c w h framed =
    let first = c.split_at_mut-earlier.ensures in
    let second = c.split_at_mut-own.ensures in
    let is = first_of_rest c.args.followers.now c.split_at_mut-earlier.result.1.now c.split_at_mut-own.result.0.now c.in_ok-place.place c.index-own-0.result first.by_index.1 (second.by_index.0 0 c.index-own-0.result (omega arith)) in
    asked_none w c.args.primary.now _ h c.args.number c.in_ok-place.place c.in_ok-place.ensures.ok.0 c.index-own-0.result c.in_ok-place.ensures.ok.1
    _ is c.split_at_mut-earlier.result.0.now c.split_at_mut-own.result.1.now first.front_len
    (ap (λ f. c.split_at_mut-earlier.result.0.now ++ f ∷ c.split_at_mut-own.result.1.now) is
    ∙ between c.args.followers.now c.split_at_mut-earlier.result.0.now c.split_at_mut-earlier.result.1.now c.split_at_mut-own.result.1.now c.in_ok-place.place c.index-own-0.result c.in_ok-place.ensures.ok.1 first.front first.back second.back)
    c.args.asks c.of.result (c.of.ensures ∙ ap (node_asked c.args.asks) c.upstream.ensures) framed
    c.in-None.ensures.none
