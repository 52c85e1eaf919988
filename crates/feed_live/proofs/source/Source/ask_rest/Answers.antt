use Rattle.std.proofs.Common.{◌≡◌, ◌∙◌, sym}
use Rattle.feed_device.proofs.CallLemmas.{answers_then}
use Rattle.feed_live.proofs.TimesLemmas.{heeds_then}
use Rattle.feed_live.specs.declared.source.Reach.TheVariants.{Away, Asks}
use Rattle.feed_live.proofs.CallingLemmas.{asked_leaves, leaves_after, then_broken, unread_then}
use Rattle.feed_live.proofs.source.Source.ask_rest.Goals as goal

pub returns-then-not-ask_once-clause-follows : goal.returns-then-not-ask_once-clause-follows
returns-then-not-ask_once-clause-follows g c =
    λ screens limits log servers contest sockets follows. c.ask_once.ensures.follows c.in-Asks.is screens limits log servers contest sockets (c.writes.invariant.follows screens limits log servers contest sockets follows)

pub returns-then-not-ask_once-clause-heeds : goal.returns-then-not-ask_once-clause-heeds
returns-then-not-ask_once-clause-heeds g c = heeds_then (c.ask_once.ensures.heeds c.in-Asks.is) c.writes.invariant.heeds

pub returns-then-not-ask_once-clause-looks : goal.returns-then-not-ask_once-clause-looks
returns-then-not-ask_once-clause-looks g c = c.ask_once.ensures.looks ∙ c.writes.invariant.looks

pub returns-then-not-ask_once-clause-since : goal.returns-then-not-ask_once-clause-since
returns-then-not-ask_once-clause-since g c = answers_then _ _ _ c.writes.invariant.since c.ask_once.ensures.since

pub writes-preserved : goal.writes-preserved
writes-preserved g c =
    record {
      follows = λ screens limits log servers contest sockets follows. c.ask_once.ensures.follows c.in-Asks.is screens limits log servers contest sockets (c.writes.invariant.follows screens limits log servers contest sockets follows);
      heeds = heeds_then (c.ask_once.ensures.heeds c.in-Asks.is) c.writes.invariant.heeds;
      looks = c.ask_once.ensures.looks ∙ c.writes.invariant.looks;
      since = answers_then _ _ _ c.writes.invariant.since c.ask_once.ensures.since;
      nothing_read = unread_then _ _ _ _ _ _ (λ stays away. let wrong : Asks c.in-Asks.count ≡ Away = sym c.in-Asks.is ∙ away in absurd (cc)) c.writes.invariant.nothing_read c.ask_once.ensures.nothing_read;
      leaves = leaves_after c.args.self.now c.writes.self c.ask_once.new.self (λ away. let wrong : Asks c.in-Asks.count ≡ Away = sym c.in-Asks.is ∙ away in absurd (cc)) (then_broken _ _ _ c.writes.invariant.since)
          (asked_leaves _ _ _ _ _ _ _ _ c.ask_once.ensures.some (λ none. (c.ask_once.ensures.none none).2));
    }

pub returns-then-not-ask_once-clause-leaves : goal.returns-then-not-ask_once-clause-leaves
returns-then-not-ask_once-clause-leaves g c =
    leaves_after c.args.self.now c.writes.self c.ask_once.new.self (λ away. let wrong : Asks c.in-Asks.count ≡ Away = sym c.in-Asks.is ∙ away in absurd (cc)) (then_broken _ _ _ c.writes.invariant.since)
    (asked_leaves _ _ _ _ _ _ _ _ c.ask_once.ensures.some (λ none. (c.ask_once.ensures.none none).2))

pub returns-then-not-ask_once-clause-nothing_read : goal.returns-then-not-ask_once-clause-nothing_read
returns-then-not-ask_once-clause-nothing_read g c =
    unread_then _ _ _ _ _ _ (λ stays away. let wrong : Asks c.in-Asks.count ≡ Away = sym c.in-Asks.is ∙ away in absurd (cc)) c.writes.invariant.nothing_read c.ask_once.ensures.nothing_read
