use Rattle.std.proofs.Common.{sym, subst}
use Rattle.slab.specs.Slab.{get}
use Rattle.feed_hub.specs.declared.screen.Refill.TheVariants.{Goes, Waits}
use Rattle.feed_hub.specs.Hub.{Refills}
use Rattle.feed_hub.specs.Seats.{seat_at, Watched}
use Rattle.feed_screens.specs.Serving.{GetsNext}
use Rattle.feed_screens.specs.Waiting.{IsMarkedFor}
use Rattle.feed_screens.proofs.GettingLemmas.{of_false}
use Rattle.feed_screens.proofs.ServingLemmas.{serving_changed, serving_noted, still_sits, watched_stays, cut_stays}
use Rattle.feed_screens.proofs.screens.Screens.refill.Goals as goal

pub returns-in-Goes-clause-serving : goal.returns-in-Goes-clause-serving
returns-in-Goes-clause-serving c =
    λ nodes contest sockets among serving.
    serving_noted c.is_refilled.ensures.same
    (serving_changed c.args.keyed.key c.refill.ensures.rest
    (still_sits contest (watched_stays nodes _ _ _ _ c.in_ok-got.ensures.ok (c.in_ok-got.ensures.served nodes among))) serving)

pub returns-in-Waits-clause-serving : goal.returns-in-Waits-clause-serving
returns-in-Waits-clause-serving c =
    λ nodes contest sockets among serving.
    serving_noted c.wait_for_commit.ensures.same
    (serving_changed c.args.keyed.key c.refill.ensures.rest
    (still_sits contest (watched_stays nodes _ _ _ _ c.in_ok-got.ensures.ok (c.in_ok-got.ensures.served nodes among))) serving)

pub returns-in_err-got-clause-serving : goal.returns-in_err-got-clause-serving
returns-in_err-got-clause-serving c =
    λ nodes contest sockets among serving.
    serving_changed c.args.keyed.key c.refill.ensures.rest (still_sits contest (cut_stays nodes _ _ c.args.keyed.key c.in_err-got.ensures.err.0)) serving

pub returns-in-Goes-clause-next : goal.returns-in-Goes-clause-next
returns-in-Goes-clause-next c =
    λ _. (
      c.may_take_room-has_room.result,
      c.may_take_room-has_room.ensures.others,
      record {
        got = c.in_ok-got.got;
        next = subst (λ h. Watched (Refills c.args.self.now.hub.broadcast c.args.node.now.shown c.may_take_room-has_room.result c.args.desk.now.time c.in_ok-got.got) (seat_at c.args.self.now.hub.seats.slab c.args.keyed.key) (seat_at h.seats.slab c.args.keyed.key)) (sym c.is_refilled.ensures.same.hub) c.in_ok-got.ensures.ok;
      },
    )

pub returns-in-Waits-clause-next : goal.returns-in-Waits-clause-next
returns-in-Waits-clause-next c =
    λ _. (
      c.may_take_room-has_room.result,
      c.may_take_room-has_room.ensures.others,
      record {
        got = c.in_ok-got.got;
        next = subst (λ h. Watched (Refills c.args.self.now.hub.broadcast c.args.node.now.shown c.may_take_room-has_room.result c.args.desk.now.time c.in_ok-got.got) (seat_at c.args.self.now.hub.seats.slab c.args.keyed.key) (seat_at h.seats.slab c.args.keyed.key)) (sym c.wait_for_commit.ensures.same.hub) c.in_ok-got.ensures.ok;
      },
    )

pub returns-in-Goes-clause-room : goal.returns-in-Goes-clause-room
returns-in-Goes-clause-room c =
    λ _ none.
    let has_room = c.may_take_room-has_room in
    of_false (λ room. GetsNext c.args.self.now.hub c.args.node.now.shown room c.args.desk.now.time c.args.keyed.key (seat_at c.is_refilled.new.self.hub.seats.slab c.args.keyed.key))
    has_room.result (λ yes. none (has_room.ensures.room yes))
    (record {
      got = c.in_ok-got.got;
      next = subst (λ h. Watched (Refills c.args.self.now.hub.broadcast c.args.node.now.shown has_room.result c.args.desk.now.time c.in_ok-got.got) (seat_at c.args.self.now.hub.seats.slab c.args.keyed.key) (seat_at h.seats.slab c.args.keyed.key)) (sym c.is_refilled.ensures.same.hub) c.in_ok-got.ensures.ok;
    })

pub returns-in-Waits-clause-room : goal.returns-in-Waits-clause-room
returns-in-Waits-clause-room c =
    λ _ none.
    let has_room = c.may_take_room-has_room in
    of_false (λ room. GetsNext c.args.self.now.hub c.args.node.now.shown room c.args.desk.now.time c.args.keyed.key (seat_at c.wait_for_commit.new.self.hub.seats.slab c.args.keyed.key))
    has_room.result (λ yes. none (has_room.ensures.room yes))
    (record {
      got = c.in_ok-got.got;
      next = subst (λ h. Watched (Refills c.args.self.now.hub.broadcast c.args.node.now.shown has_room.result c.args.desk.now.time c.in_ok-got.got) (seat_at c.args.self.now.hub.seats.slab c.args.keyed.key) (seat_at h.seats.slab c.args.keyed.key)) (sym c.wait_for_commit.ensures.same.hub) c.in_ok-got.ensures.ok;
    })

pub returns-in-Goes-clause-marks : goal.returns-in-Goes-clause-marks
returns-in-Goes-clause-marks c =
    λ _.
    record {
      got = c.in_ok-got.got;
      has_room = c.may_take_room-has_room.result;
      next = subst (λ h. Watched (Refills c.args.self.now.hub.broadcast c.args.node.now.shown c.may_take_room-has_room.result c.args.desk.now.time c.in_ok-got.got) (seat_at c.args.self.now.hub.seats.slab c.args.keyed.key) (seat_at h.seats.slab c.args.keyed.key)) (sym c.is_refilled.ensures.same.hub) c.in_ok-got.ensures.ok;
      marked = subst (λ r. IsMarkedFor r c.is_refilled.new.self.hub c.args.keyed.key c.args.desk.now.time (get c.args.self.now.conns c.args.keyed.at) (get c.is_refilled.new.self.conns c.args.keyed.at)) (sym c.in-Goes.is)
          (subst (λ h. IsMarkedFor (Goes c.in-Goes.number) h c.args.keyed.key c.args.desk.now.time (get c.args.self.now.conns c.args.keyed.at) (get c.is_refilled.new.self.conns c.args.keyed.at)) (sym c.is_refilled.ensures.same.hub) c.is_refilled.ensures.here);
    }

pub returns-in-Waits-clause-marks : goal.returns-in-Waits-clause-marks
returns-in-Waits-clause-marks c =
    λ _.
    record {
      got = c.in_ok-got.got;
      has_room = c.may_take_room-has_room.result;
      next = subst (λ h. Watched (Refills c.args.self.now.hub.broadcast c.args.node.now.shown c.may_take_room-has_room.result c.args.desk.now.time c.in_ok-got.got) (seat_at c.args.self.now.hub.seats.slab c.args.keyed.key) (seat_at h.seats.slab c.args.keyed.key)) (sym c.wait_for_commit.ensures.same.hub) c.in_ok-got.ensures.ok;
      marked = subst (λ r. IsMarkedFor r c.wait_for_commit.new.self.hub c.args.keyed.key c.args.desk.now.time (get c.args.self.now.conns c.args.keyed.at) (get c.wait_for_commit.new.self.conns c.args.keyed.at)) (sym c.in-Waits.is)
          (subst (λ h. IsMarkedFor (Waits c.in-Waits.length) h c.args.keyed.key c.args.desk.now.time (get c.args.self.now.conns c.args.keyed.at) (get c.wait_for_commit.new.self.conns c.args.keyed.at)) (sym c.wait_for_commit.ensures.same.hub) (c.wait_for_commit.ensures.waits, c.wait_for_commit.ensures.ends));
    }
