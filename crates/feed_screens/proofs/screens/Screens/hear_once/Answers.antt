use Rattle.std.proofs.Common.{◌≡◌, ◌≢◌, ◌∙◌, Some, None, inl, sym, subst, drop}
use Rattle.feed_hub.specs.Seats.{seat_at, IsAskingSeat}
use Rattle.feed_screens.specs.Serving.{ServesBut}
use Rattle.feed_screens.proofs.ServingLemmas.{serving_all, serving_noted, serving_heard, but_changed, still_sits, cut_stays, heard_sits, is_answered, is_unasked, hears_so, hears_failed}
use Rattle.feed_screens.proofs.screens.Screens.hear_once.Goals as goal

pub returns-in_err-heard-clause-serving : goal.returns-in_err-heard-clause-serving
returns-in_err-heard-clause-serving c =
    λ nodes sockets among keyed serves.
    let none = c.in_err-heard.ensures.err.1 in
    hears_failed (record c.args.self.now { hub = c.hear.new.self }) sockets c.args.keyed.at c.args.piece.now _ c.from_residual.result c.from_residual.ensures.1
    (serving_all c.hear.new.self c.args.self.now.conns sockets c.args.keyed.at c.args.keyed.key c.args.piece.now keyed (inl (λ asked. subst IsAskingSeat none asked))
    (but_changed sockets c.args.keyed.at c.args.piece.now c.args.keyed.key c.hear.ensures.rest (still_sits _ (cut_stays nodes _ _ c.args.keyed.key none)) serves))

pub returns-in_default-clause-serving : goal.returns-in_default-clause-serving
returns-in_default-clause-serving c =
    λ nodes sockets among keyed serves.
    let heard = c.in_ok-heard.heard in
    let left = serving_heard c.args.self.now.hub c.hear.new.self c.args.self.now.conns sockets c.args.keyed.at c.args.keyed.key c.args.piece.now heard.taken keyed c.hear.ensures.rest
    (heard_sits c.args.contest.now c.args.self.now.hub c.hear.new.self c.args.keyed.key c.args.answering.now.mirror.node c.args.desk.now.time c.args.piece.now heard among c.in_ok-heard.ensures.heard (c.in_ok-heard.ensures.served nodes) c.hear.ensures.rest.broadcast) serves in
    hears_so (record c.args.self.now { hub = c.hear.new.self }) sockets c.args.keyed.at c.args.piece.now heard.taken
    (λ none. serving_all c.hear.new.self c.args.self.now.conns sockets c.args.keyed.at c.args.keyed.key c.args.piece.now keyed
    (is_unasked (seat_at c.hear.new.self.seats.slab c.args.keyed.key) c.args.piece.now (λ asked. c.in_ok-heard.ensures.moves asked none))
    (subst (λ n. ServesBut nodes c.args.contest.now c.hear.new.self c.args.self.now.conns sockets c.args.keyed.at (drop n c.args.piece.now)) none left))
    left

pub returns-clause-serving : goal.returns-clause-serving
returns-clause-serving c =
    λ nodes sockets among keyed serves.
    let heard = c.in_ok-heard.heard in
    let hears = c.in_ok-heard.ensures.heard in
    let served = c.in_ok-heard.ensures.served nodes in
    let answered : heard.status ≢ None = λ none. let no : None ≡ Some c.in-Some.status = sym none ∙ c.in-Some.is in absurd (cc) in
    serving_noted c.owe.ensures.same
    (serving_noted c.is_answered.ensures.same
    (serving_all c.hear.new.self c.args.self.now.conns sockets c.args.keyed.at c.args.keyed.key (drop heard.taken c.args.piece.now) keyed
    (inl (is_answered c.args.contest.now c.args.self.now.hub c.hear.new.self c.args.keyed.key c.args.answering.now.mirror.node c.args.desk.now.time c.args.piece.now heard among hears served c.hear.ensures.rest.broadcast answered))
    (serving_heard c.args.self.now.hub c.hear.new.self c.args.self.now.conns sockets c.args.keyed.at c.args.keyed.key c.args.piece.now heard.taken keyed c.hear.ensures.rest
    (heard_sits c.args.contest.now c.args.self.now.hub c.hear.new.self c.args.keyed.key c.args.answering.now.mirror.node c.args.desk.now.time c.args.piece.now heard among hears served c.hear.ensures.rest.broadcast) serves)))

pub returns-in_err-owe-clause-serving : goal.returns-in_err-owe-clause-serving
returns-in_err-owe-clause-serving c =
    λ nodes sockets among keyed serves.
    let heard = c.in_ok-heard.heard in
    let hears = c.in_ok-heard.ensures.heard in
    let served = c.in_ok-heard.ensures.served nodes in
    let answered : heard.status ≢ None = λ none. let no : None ≡ Some c.in-Some.status = sym none ∙ c.in-Some.is in absurd (cc) in
    hears_failed c.owe.new.self sockets c.args.keyed.at c.args.piece.now _ c.from_residual-in_err-owe.result c.from_residual-in_err-owe.ensures.1
    (serving_noted c.owe.ensures.same
    (serving_noted c.is_answered.ensures.same
    (serving_all c.hear.new.self c.args.self.now.conns sockets c.args.keyed.at c.args.keyed.key (drop heard.taken c.args.piece.now) keyed
    (inl (is_answered c.args.contest.now c.args.self.now.hub c.hear.new.self c.args.keyed.key c.args.answering.now.mirror.node c.args.desk.now.time c.args.piece.now heard among hears served c.hear.ensures.rest.broadcast answered))
    (serving_heard c.args.self.now.hub c.hear.new.self c.args.self.now.conns sockets c.args.keyed.at c.args.keyed.key c.args.piece.now heard.taken keyed c.hear.ensures.rest
    (heard_sits c.args.contest.now c.args.self.now.hub c.hear.new.self c.args.keyed.key c.args.answering.now.mirror.node c.args.desk.now.time c.args.piece.now heard among hears served c.hear.ensures.rest.broadcast) serves))))
