use Rattle.std.proofs.Common.{◌≢◌, ◌∙◌, sym, ap, drop, rules}
use Rattle.feed_device.proofs.CallLemmas.{answered_once, answered_then}
use Rattle.feed_live.proofs.TimesLemmas.{heeds_then, asks_count}
use Rattle.feed_live.specs.declared.source.Reach.TheVariants.{Away}
use Rattle.feed_live.proofs.CallingLemmas.{asked_leaves, leaves_after, then_broken, unread_then}
use Rattle.feed_live.proofs.source.Source.ask.Goals as goal

pub returns-then-ask_once-clause-follows : goal.returns-then-ask_once-clause-follows
returns-then-ask_once-clause-follows g c =
    λ screens limits log servers contest sockets follows. c.ask_rest.ensures.follows screens limits log servers contest sockets (c.ask_once.ensures.follows c.in-Asks.is screens limits log servers contest sockets follows)

pub returns-then-ask_once-clause-heeds : goal.returns-then-ask_once-clause-heeds
returns-then-ask_once-clause-heeds g c = heeds_then c.ask_rest.ensures.heeds (c.ask_once.ensures.heeds c.in-Asks.is)

pub returns-else-ask_once-clause-follows : goal.returns-else-ask_once-clause-follows
returns-else-ask_once-clause-follows g c = c.ask_once.ensures.follows c.in-Asks.is

pub returns-else-ask_once-clause-heeds : goal.returns-else-ask_once-clause-heeds
returns-else-ask_once-clause-heeds g c = c.ask_once.ensures.heeds c.in-Asks.is

pub returns-else-ask_once-clause-looks : goal.returns-else-ask_once-clause-looks
returns-else-ask_once-clause-looks g c = c.ask_once.ensures.looks

pub returns-then-ask_once-clause-asks : goal.returns-then-ask_once-clause-asks
returns-then-ask_once-clause-asks g c =
    λ count at some.
    let same = asks_count c.in-Asks.count count (sym c.in-Asks.is ∙ at) in
    let offered = c.ask_once.ensures.some (λ none. some (ap (λ n. drop n c.args.self.now.request.items) (sym same) ∙ none)) in
    answered_then _ _ _ (answered_once offered.0 _ _ offered.1.written) c.ask_rest.ensures.since

pub returns-then-ask_once-clause-leaves : goal.returns-then-ask_once-clause-leaves
returns-then-ask_once-clause-leaves g c =
    let there : c.ask_once.new.self.reach ≢ Away = search rules in
    leaves_after c.args.self.now c.ask_once.new.self c.ask_rest.new.self there (then_broken _ _ _ c.ask_once.ensures.since) c.ask_rest.ensures.leaves

pub returns-else-ask_once-clause-leaves : goal.returns-else-ask_once-clause-leaves
returns-else-ask_once-clause-leaves g c = asked_leaves _ _ _ _ _ _ _ _ c.ask_once.ensures.some (λ none. (c.ask_once.ensures.none none).2)

pub returns-then-ask_once-clause-nothing_read : goal.returns-then-ask_once-clause-nothing_read
returns-then-ask_once-clause-nothing_read g c =
    let there : c.ask_once.new.self.reach ≢ Away = search rules in
    unread_then _ _ _ _ _ _ (λ stays. there) c.ask_once.ensures.nothing_read c.ask_rest.ensures.nothing_read
