use Rattle.feed_live.specs.States.{states_of}
use Rattle.feed_live.proofs.RelayLemmas.{with_screens}
use Rattle.std.proofs.Common.{◌≡◌, ◌∙◌, inl, inr, sym, ap, subst}
use Rattle.feed_live.specs.declared.source.Reach.TheVariants.{Away, Reads}
use Rattle.feed_live.specs.Relaying.{SameWaiting}
use Rattle.feed_live.specs.Leaving.{IsAtRest}
use Rattle.feed_live.proofs.TurnLemmas.{left_on}
use Rattle.feed_live.proofs.TimesLemmas.{keeps_then, heeds_then, heeds_until, heeds_same, same_times, rests_same, heeds_link_same}
use Rattle.feed_live.proofs.CallingLemmas.{still_marks}
use Rattle.feed_live.proofs.turn.Live.follow.Goals as goal

pub returns-then-is_heard-clause-relaying : goal.returns-then-is_heard-clause-relaying
returns-then-is_heard-clause-relaying g c =
    λ sockets limits log servers is.
    let settled = c.settle.ensures.relaying sockets limits log servers (c.go_on.ensures.relaying sockets limits log servers (is.0, c.tick.ensures.follows c.args.self.now.screens limits log servers _ sockets is.1)) in
    (settled.0, (settled.1.0, with_screens limits log servers _ (λ shows serving. c.look_again.ensures.serving (states_of limits log) _ sockets serving) settled.1.1))

pub returns-else-was_held-clause-relaying : goal.returns-else-was_held-clause-relaying
returns-else-was_held-clause-relaying g c =
    λ sockets limits log servers is. c.settle.ensures.relaying sockets limits log servers (c.go_on.ensures.relaying sockets limits log servers (is.0, c.tick.ensures.follows c.args.self.now.screens limits log servers _ sockets is.1))

pub returns-then-is_heard-clause-keeps : goal.returns-then-is_heard-clause-keeps
returns-then-is_heard-clause-keeps g c = keeps_then c.settle.ensures.times.keeps (keeps_then c.go_on.ensures.times.keeps c.tick.ensures.keeps)

pub returns-else-was_held-clause-keeps : goal.returns-else-was_held-clause-keeps
returns-else-was_held-clause-keeps g c = keeps_then c.settle.ensures.times.keeps (keeps_then c.go_on.ensures.times.keeps c.tick.ensures.keeps)

pub returns-then-is_heard-clause-heeds : goal.returns-then-is_heard-clause-heeds
returns-then-is_heard-clause-heeds g c =
    λ none some reach more stay waits.
    let ticked = c.tick.ensures.stays reach stay in
    heeds_link_same ticked.0 ticked.3 c.settle.ensures.calls (c.go_on.ensures.heeds (ticked.2 ∙ more) waits)

pub returns-else-was_held-clause-heeds : goal.returns-else-was_held-clause-heeds
returns-else-was_held-clause-heeds g c =
    λ none some reach more stay waits.
    let ticked = c.tick.ensures.stays reach stay in
    heeds_link_same ticked.0 ticked.3 c.settle.ensures.calls (c.go_on.ensures.heeds (ticked.2 ∙ more) waits)

pub returns-then-is_heard-clause-leaves : goal.returns-then-is_heard-clause-leaves
returns-then-is_heard-clause-leaves g c =
    λ none some is.
    let rest = c.tick.ensures.rests (inr (inl is)) in
    let on = c.go_on.ensures.rests rest in
    let settled = c.settle.ensures.rests (subst IsAtRest (sym on.0) rest) in
    left_on (c.settle.ensures.calls ∙ on.1) (ap (λ s. s.reach) (settled ∙ on.0)) (c.tick.ensures.leaves is)

pub returns-then-is_heard-clause-moves : goal.returns-then-is_heard-clause-moves
returns-then-is_heard-clause-moves g c =
    λ none some is.
    let rest = c.tick.ensures.rests (inr (inr is)) in
    let on = c.go_on.ensures.rests rest in
    let settled = c.settle.ensures.rests (subst IsAtRest (sym on.0) rest) in
    left_on (c.settle.ensures.calls ∙ on.1) (ap (λ s. s.reach) (settled ∙ on.0)) (c.tick.ensures.moves is)

pub returns-else-was_held-clause-leaves : goal.returns-else-was_held-clause-leaves
returns-else-was_held-clause-leaves g c =
    λ none some is.
    let rest = c.tick.ensures.rests (inr (inl is)) in
    let on = c.go_on.ensures.rests rest in
    let settled = c.settle.ensures.rests (subst IsAtRest (sym on.0) rest) in
    left_on (c.settle.ensures.calls ∙ on.1) (ap (λ s. s.reach) (settled ∙ on.0)) (c.tick.ensures.leaves is)

pub returns-else-was_held-clause-moves : goal.returns-else-was_held-clause-moves
returns-else-was_held-clause-moves g c =
    λ none some is.
    let rest = c.tick.ensures.rests (inr (inr is)) in
    let on = c.go_on.ensures.rests rest in
    let settled = c.settle.ensures.rests (subst IsAtRest (sym on.0) rest) in
    left_on (c.settle.ensures.calls ∙ on.1) (ap (λ s. s.reach) (settled ∙ on.0)) (c.tick.ensures.moves is)

pub returns-then-is_heard-clause-holds : goal.returns-then-is_heard-clause-holds
returns-then-is_heard-clause-holds g c =
    λ none some reach stay.
    let ticked = c.tick.ensures.stays reach stay in
    heeds_then c.settle.ensures.times (heeds_then c.go_on.ensures.times (heeds_until c.tick.ensures.keeps.clock (heeds_same c.args.self.now.desk.time (same_times ticked.1 (rests_same c.args.self.now.source c.tick.new.self ticked.0.reach ticked.2)))))

pub returns-then-is_heard-clause-pauses : goal.returns-then-is_heard-clause-pauses
returns-then-is_heard-clause-pauses g c =
    λ away more before.
    let ticked = c.tick.ensures.pauses away before in
    let rest : IsAtRest c.tick.new.self = (ticked.2 ∙ more, λ reads. let wrong : Away ≡ Reads = sym away ∙ sym ticked.1.reach ∙ reads in absurd (cc)) in
    let on = c.go_on.ensures.rests rest in
    let settled = c.settle.ensures.rests (subst IsAtRest (sym on.0) rest) in
    (subst (λ s. SameWaiting c.args.self.now.source s) (sym (settled ∙ on.0)) ticked.1, c.settle.ensures.calls ∙ on.1 ∙ ticked.3)

pub returns-else-was_held-clause-holds : goal.returns-else-was_held-clause-holds
returns-else-was_held-clause-holds g c =
    λ none some reach stay.
    let ticked = c.tick.ensures.stays reach stay in
    heeds_then c.settle.ensures.times (heeds_then c.go_on.ensures.times (heeds_until c.tick.ensures.keeps.clock (heeds_same c.args.self.now.desk.time (same_times ticked.1 (rests_same c.args.self.now.source c.tick.new.self ticked.0.reach ticked.2)))))

pub returns-else-was_held-clause-pauses : goal.returns-else-was_held-clause-pauses
returns-else-was_held-clause-pauses g c =
    λ away more before.
    let ticked = c.tick.ensures.pauses away before in
    let rest : IsAtRest c.tick.new.self = (ticked.2 ∙ more, λ reads. let wrong : Away ≡ Reads = sym away ∙ sym ticked.1.reach ∙ reads in absurd (cc)) in
    let on = c.go_on.ensures.rests rest in
    let settled = c.settle.ensures.rests (subst IsAtRest (sym on.0) rest) in
    (subst (λ s. SameWaiting c.args.self.now.source s) (sym (settled ∙ on.0)) ticked.1, c.settle.ensures.calls ∙ on.1 ∙ ticked.3)

pub returns-then-is_heard-clause-rests : goal.returns-then-is_heard-clause-rests
returns-then-is_heard-clause-rests g c = λ rest. c.settle.ensures.times.rests (c.go_on.ensures.times.rests (c.tick.ensures.away rest))

pub returns-else-was_held-clause-rests : goal.returns-else-was_held-clause-rests
returns-else-was_held-clause-rests g c = λ rest. c.settle.ensures.times.rests (c.go_on.ensures.times.rests (c.tick.ensures.away rest))

pub returns-then-is_heard-clause-more : goal.returns-then-is_heard-clause-more
returns-then-is_heard-clause-more g c = λ marks.
    still_marks c.go_on.new.self.source c.settle.new.self.source (g.L.Link.calls c.go_on.new.link) (g.L.Link.calls c.settle.new.link) c.settle.ensures.more (λ reads. c.settle.ensures.calls)
    (c.go_on.ensures.more (still_marks c.args.self.now.source c.tick.new.self (g.L.Link.calls c.args.link.now) (g.L.Link.calls c.tick.new.link) c.tick.ensures.reads c.tick.ensures.calls marks))

pub returns-else-was_held-clause-more : goal.returns-else-was_held-clause-more
returns-else-was_held-clause-more g c = λ marks.
    still_marks c.go_on.new.self.source c.settle.new.self.source (g.L.Link.calls c.go_on.new.link) (g.L.Link.calls c.settle.new.link) c.settle.ensures.more (λ reads. c.settle.ensures.calls)
    (c.go_on.ensures.more (still_marks c.args.self.now.source c.tick.new.self (g.L.Link.calls c.args.link.now) (g.L.Link.calls c.tick.new.link) c.tick.ensures.reads c.tick.ensures.calls marks))
