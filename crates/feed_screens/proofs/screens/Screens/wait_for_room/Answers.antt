use Rattle.std.proofs.Common.{◌≤◌, subst, inl, length, drop, arith}
use Rattle.std.proofs.lemmas.List.{drop_all}
use Rattle.feed_hub.specs.Seats.{IsAskingSeat}
use Rattle.feed_screens.proofs.ServingLemmas.{serving_all, serving_noted, serving_nothing, serving_heard, but_changed, still_sits, cut_stays, held_sits, hears_nothing_more}
use Rattle.feed_screens.proofs.screens.Screens.wait_for_room.Goals as goal

pub returns-in_err-taken-clause-serving : goal.returns-in_err-taken-clause-serving
returns-in_err-taken-clause-serving c =
    λ nodes contest sockets keyed serves.
    let none = c.in_err-taken.ensures.err.1 in
    hears_nothing_more (record c.args.self.now { hub = c.hold.new.self }) sockets c.args.keyed.at _ c.from_residual.result c.from_residual.ensures.1
    (serving_all c.hold.new.self c.args.self.now.conns sockets c.args.keyed.at c.args.keyed.key c.args.piece.now keyed (inl (λ asked. subst IsAskingSeat none asked))
    (but_changed sockets c.args.keyed.at c.args.piece.now c.args.keyed.key c.hold.ensures.rest (still_sits contest (cut_stays nodes _ _ c.args.keyed.key none)) serves))

pub returns-then-taken-piece-clause-serving : goal.returns-then-taken-piece-clause-serving
returns-then-taken-piece-clause-serving c =
    λ nodes contest sockets keyed serves. (
      drop c.in_ok-taken.taken c.args.piece.now,
      serving_heard c.args.self.now.hub c.hold.new.self c.args.self.now.conns sockets c.args.keyed.at c.args.keyed.key c.args.piece.now c.in_ok-taken.taken keyed c.hold.ensures.rest
          (held_sits _ c.args.piece.now c.in_ok-taken.taken c.args.self.now.hub c.hold.new.self c.args.keyed.key c.in_ok-taken.ensures.held c.hold.ensures.rest.broadcast) serves,
    )

pub returns-clause-serving : goal.returns-clause-serving
returns-clause-serving c =
    λ nodes contest sockets keyed serves.
    let all : length c.args.piece.now ≤ c.in_ok-taken.taken = omega (arith, c.if-taken-piece.false) in
    serving_noted c.wait_for.ensures.same
    (serving_nothing c.hold.new.self c.args.self.now.conns sockets c.args.keyed.at (drop c.in_ok-taken.taken c.args.piece.now) (drop_all c.in_ok-taken.taken c.args.piece.now all)
    (serving_heard c.args.self.now.hub c.hold.new.self c.args.self.now.conns sockets c.args.keyed.at c.args.keyed.key c.args.piece.now c.in_ok-taken.taken keyed c.hold.ensures.rest
    (held_sits _ c.args.piece.now c.in_ok-taken.taken c.args.self.now.hub c.hold.new.self c.args.keyed.key c.in_ok-taken.ensures.held c.hold.ensures.rest.broadcast) serves))
