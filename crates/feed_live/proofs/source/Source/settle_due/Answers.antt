use Rattle.std.specs.Prelude.{is_none}
use Rattle.std.proofs.Common.{◌∙◌, rules, ◌≡◌, refl, length}
use Rattle.feed_live.specs.declared.source.Reach.TheVariants.{Reads}
use Rattle.feed_live.specs.Relaying.{followed_by}
use Rattle.feed_live.proofs.RelayLemmas.{with_left, with_same, with_unread, within, to_show, to_show_of}
use Rattle.feed_live.proofs.TimesLemmas.{heeds_then, heeds_same}
use Rattle.feed_live.proofs.CallingLemmas.{leaves_come, leaves_same}
use Rattle.feed_live.proofs.source.Source.settle_due.Goals as goal

pub returns-then-not-is_due_to_settle-clause-follows : goal.returns-then-not-is_due_to_settle-clause-follows
returns-then-not-is_due_to_settle-clause-follows g c =
    let reads : c.args.self.now.reach ≡ Reads = search rules in
    λ limits log servers contest sockets follows. (
      c.note_at_shown.ensures.same.servers ∙ c.report_coming.ensures.same.servers ∙ follows.0,
      with_same limits log servers c.note_at_shown.ensures.same _ _ _ c.note_at_shown.ensures.same.rest
          (with_same limits log servers c.report_coming.ensures.same _ _ _ c.report_coming.ensures.same.rest follows.1),
    )

pub returns-then-not-is_due_to_settle-clause-stays : goal.returns-then-not-is_due_to_settle-clause-stays
returns-then-not-is_due_to_settle-clause-stays g c =
    let reads : c.args.self.now.reach ≡ Reads = search rules in
    λ not. absurd (not reads)

pub returns-in-Some-Again-clause-follows : goal.returns-in-Some-Again-clause-follows
returns-in-Some-Again-clause-follows g c =
    let reads : c.args.self.now.reach ≡ Reads = search rules in
    let many : length c.args.self.now.rest.items ≡ c.len-unread.result = search rules in
    λ limits log servers contest sockets follows.
    let shows = c.settle.ensures.shows limits log servers contest sockets (to_show_of limits log servers c.args.self.now c.args.screens.now many (to_show limits log servers c.args.self.now c.args.screens.now _ c.args.self.now.rest.items reads follows)) in
    (c.ask_again.ensures.left.servers ∙ shows.0, with_left limits log servers c.ask_again.ensures.left c.ask_again.new.self.rest.items shows.1)

pub returns-in-Some-Behind-clause-follows : goal.returns-in-Some-Behind-clause-follows
returns-in-Some-Behind-clause-follows g c =
    let reads : c.args.self.now.reach ≡ Reads = search rules in
    let many : length c.args.self.now.rest.items ≡ c.len-unread.result = search rules in
    λ limits log servers contest sockets follows.
    let shows = c.settle.ensures.shows limits log servers contest sockets (to_show_of limits log servers c.args.self.now c.args.screens.now many (to_show limits log servers c.args.self.now c.args.screens.now _ c.args.self.now.rest.items reads follows)) in
    (c.ask_other.ensures.left.servers ∙ shows.0, with_left limits log servers c.ask_other.ensures.left c.ask_other.new.self.rest.items shows.1)

pub returns-in-Some-Again-clause-stays : goal.returns-in-Some-Again-clause-stays
returns-in-Some-Again-clause-stays g c =
    let reads : c.args.self.now.reach ≡ Reads = search rules in
    let many : length c.args.self.now.rest.items ≡ c.len-unread.result = search rules in
    λ not. absurd (not reads)

pub returns-in-Some-Behind-clause-stays : goal.returns-in-Some-Behind-clause-stays
returns-in-Some-Behind-clause-stays g c =
    let reads : c.args.self.now.reach ≡ Reads = search rules in
    let many : length c.args.self.now.rest.items ≡ c.len-unread.result = search rules in
    λ not. absurd (not reads)

pub returns-in-Some-Memory-clause-follows : goal.returns-in-Some-Memory-clause-follows
returns-in-Some-Memory-clause-follows g c =
    let reads : c.args.self.now.reach ≡ Reads = search rules in
    let many : length c.args.self.now.rest.items ≡ c.len-unread.result = search rules in
    λ limits log servers contest sockets follows.
    let shows = c.settle.ensures.shows limits log servers contest sockets (to_show_of limits log servers c.args.self.now c.args.screens.now many (to_show limits log servers c.args.self.now c.args.screens.now _ c.args.self.now.rest.items reads follows)) in
    (c.lost.ensures.left.servers ∙ shows.0, with_left limits log servers c.lost.ensures.left c.lost.new.self.rest.items shows.1)

pub returns-in-Some-Memory-clause-stays : goal.returns-in-Some-Memory-clause-stays
returns-in-Some-Memory-clause-stays g c =
    let reads : c.args.self.now.reach ≡ Reads = search rules in
    let many : length c.args.self.now.rest.items ≡ c.len-unread.result = search rules in
    λ not. absurd (not reads)

pub returns-in-None-clause-follows : goal.returns-in-None-clause-follows
returns-in-None-clause-follows g c =
    let reads : c.args.self.now.reach ≡ Reads = search rules in
    let many : length c.args.self.now.rest.items ≡ c.len-unread.result = search rules in
    λ limits log servers contest sockets follows.
    within (with_unread limits log servers (is_none c.settle.new.self.coming) _ c.settle.new.self.reach c.settle.new.self.request.items c.settle.new.self.upstream.follower (followed_by c.settle.new.self) (c.in-None.ensures.rest refl))
    (c.in-None.ensures.follows refl reads c.args.self.now.rest.items many limits log servers contest sockets follows)

pub returns-in-None-clause-stays : goal.returns-in-None-clause-stays
returns-in-None-clause-stays g c =
    let reads : c.args.self.now.reach ≡ Reads = search rules in
    let many : length c.args.self.now.rest.items ≡ c.len-unread.result = search rules in
    λ not. absurd (not reads)

pub returns-then-not-is_due_to_settle-clause-heeds : goal.returns-then-not-is_due_to_settle-clause-heeds
returns-then-not-is_due_to_settle-clause-heeds g c = heeds_then (heeds_same _ c.note_at_shown.ensures.times) c.report_coming.ensures.heeds

pub returns-in-Some-Again-clause-heeds : goal.returns-in-Some-Again-clause-heeds
returns-in-Some-Again-clause-heeds g c = heeds_then c.ask_again.ensures.heeds c.settle.ensures.heeds

pub returns-in-Some-Behind-clause-heeds : goal.returns-in-Some-Behind-clause-heeds
returns-in-Some-Behind-clause-heeds g c = heeds_then c.ask_other.ensures.heeds c.settle.ensures.heeds

pub returns-in-Some-Memory-clause-heeds : goal.returns-in-Some-Memory-clause-heeds
returns-in-Some-Memory-clause-heeds g c = heeds_then c.lost.ensures.heeds c.settle.ensures.heeds

pub returns-in-None-clause-heeds : goal.returns-in-None-clause-heeds
returns-in-None-clause-heeds g c = c.settle.ensures.heeds

pub returns-in-Some-Again-clause-calls : goal.returns-in-Some-Again-clause-calls
returns-in-Some-Again-clause-calls g c = c.ask_again.ensures.calls ∙ c.settle.ensures.calls

pub returns-in-Some-Behind-clause-calls : goal.returns-in-Some-Behind-clause-calls
returns-in-Some-Behind-clause-calls g c = c.ask_other.ensures.calls ∙ c.settle.ensures.calls

pub returns-in-Some-Memory-clause-calls : goal.returns-in-Some-Memory-clause-calls
returns-in-Some-Memory-clause-calls g c = c.lost.ensures.calls ∙ c.settle.ensures.calls

pub returns-in-Some-Again-clause-leaves : goal.returns-in-Some-Again-clause-leaves
returns-in-Some-Again-clause-leaves g c = leaves_come c.args.self.now c.ask_again.new.self _ c.is_due_to_settle.ensures c.if-not-is_due_to_settle.false

pub returns-in-Some-Behind-clause-leaves : goal.returns-in-Some-Behind-clause-leaves
returns-in-Some-Behind-clause-leaves g c = leaves_come c.args.self.now c.ask_other.new.self _ c.is_due_to_settle.ensures c.if-not-is_due_to_settle.false

pub returns-in-Some-Memory-clause-leaves : goal.returns-in-Some-Memory-clause-leaves
returns-in-Some-Memory-clause-leaves g c = leaves_come c.args.self.now c.lost.new.self _ c.is_due_to_settle.ensures c.if-not-is_due_to_settle.false

pub returns-in-None-clause-leaves : goal.returns-in-None-clause-leaves
returns-in-None-clause-leaves g c = leaves_come c.args.self.now c.settle.new.self _ c.is_due_to_settle.ensures c.if-not-is_due_to_settle.false

pub returns-then-not-is_due_to_settle-clause-leaves : goal.returns-then-not-is_due_to_settle-clause-leaves
returns-then-not-is_due_to_settle-clause-leaves g c = leaves_same c.args.self.now c.note_at_shown.new.self (c.note_at_shown.ensures.same.reach ∙ c.report_coming.ensures.same.reach)
