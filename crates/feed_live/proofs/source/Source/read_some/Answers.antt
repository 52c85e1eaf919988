use Rattle.std.specs.Prelude.{is_none}
use Rattle.std.proofs.Common.{◌≡◌, ◌≢◌, ◌∙◌, inl, inr, rules, sym, ap, subst}
use Rattle.feed_device.proofs.CallLemmas.{answered_once, answered_then, answers_once}
use Rattle.feed_device.specs.Calls.{AnsweredAtLeastOnce}
use Rattle.feed_live.specs.Calling.{ReadAtOnce, MayReadOn}
use Rattle.feed_live.specs.Relaying.{followed_by}
use Rattle.feed_live.proofs.RelayLemmas.{with_unread, within}
use Rattle.feed_live.proofs.TimesLemmas.{heeds_then}
use Rattle.feed_live.specs.declared.source.Reach.TheVariants.{Away, Reads}
use Rattle.feed_live.proofs.CallingLemmas.{kept_leaves, leaves_after, read_leaves, then_read_on}
use Rattle.feed_live.proofs.source.Source.read_some.Goals as goal

pub returns-then-read-clause-follows : goal.returns-then-read-clause-follows
returns-then-read-clause-follows g c =
    let may : MayReadOn c.take_kept.new.self c.take_kept.new.screens.saying.waits = c.may_read.ensures.0 c.if-not-may_read.false in
    λ reads limits log servers contest sockets follows.
    c.read_more.ensures.follows limits log servers contest sockets
    (c.read.ensures.follows may.reads may.rest limits log servers contest sockets
    (within (with_unread limits log servers (is_none c.take_kept.new.self.coming) _ c.take_kept.new.self.reach c.take_kept.new.self.request.items c.take_kept.new.self.upstream.follower (followed_by c.take_kept.new.self) (sym may.rest))
    (c.take_kept.ensures.follows reads limits log servers contest sockets follows)))

pub returns-then-read-clause-heeds : goal.returns-then-read-clause-heeds
returns-then-read-clause-heeds g c = heeds_then c.read_more.ensures.heeds (heeds_then c.read.ensures.heeds c.take_kept.ensures.heeds)

pub returns-then-read-clause-looks : goal.returns-then-read-clause-looks
returns-then-read-clause-looks g c = c.read_more.ensures.looks ∙ c.read.ensures.calls.1.looked ∙ ap (λ k. k.looked) c.take_kept.ensures.calls

pub returns-then-read-clause-written : goal.returns-then-read-clause-written
returns-then-read-clause-written g c = c.read_more.ensures.written ∙ c.read.ensures.calls.1.written ∙ ap (λ k. k.written) c.take_kept.ensures.calls

pub returns-then-read-clause-reads : goal.returns-then-read-clause-reads
returns-then-read-clause-reads g c =
    λ may.
    subst (λ k. AnsweredAtLeastOnce k.read (g.L.Link.calls c.read_more.new.link).read) c.take_kept.ensures.calls
    (answered_then _ _ _ (answered_once _ _ _ c.read.ensures.calls.1.read) c.read_more.ensures.since)

pub returns-else-read-clause-follows : goal.returns-else-read-clause-follows
returns-else-read-clause-follows g c =
    let may : MayReadOn c.take_kept.new.self c.take_kept.new.screens.saying.waits = c.may_read.ensures.0 c.if-not-may_read.false in
    λ reads limits log servers contest sockets follows.
    c.read.ensures.follows may.reads may.rest limits log servers contest sockets
    (within (with_unread limits log servers (is_none c.take_kept.new.self.coming) _ c.take_kept.new.self.reach c.take_kept.new.self.request.items c.take_kept.new.self.upstream.follower (followed_by c.take_kept.new.self) (sym may.rest))
    (c.take_kept.ensures.follows reads limits log servers contest sockets follows))

pub returns-else-read-clause-heeds : goal.returns-else-read-clause-heeds
returns-else-read-clause-heeds g c = heeds_then c.read.ensures.heeds c.take_kept.ensures.heeds

pub returns-else-read-clause-looks : goal.returns-else-read-clause-looks
returns-else-read-clause-looks g c = c.read.ensures.calls.1.looked ∙ ap (λ k. k.looked) c.take_kept.ensures.calls

pub returns-else-read-clause-written : goal.returns-else-read-clause-written
returns-else-read-clause-written g c = c.read.ensures.calls.1.written ∙ ap (λ k. k.written) c.take_kept.ensures.calls

pub returns-else-read-clause-reads : goal.returns-else-read-clause-reads
returns-else-read-clause-reads g c =
    λ may.
    subst (λ k. AnsweredAtLeastOnce k.read (g.L.Link.calls c.read.new.link).read) c.take_kept.ensures.calls (answered_once _ _ _ c.read.ensures.calls.1.read)

pub returns-then-read-clause-takes : goal.returns-then-read-clause-takes
returns-then-read-clause-takes g c =
    λ reads.
    inr (inr (subst (λ k. AnsweredAtLeastOnce k.read (g.L.Link.calls c.read_more.new.link).read) c.take_kept.ensures.calls
    (answered_then _ _ _ (answered_once _ _ _ c.read.ensures.calls.1.read) c.read_more.ensures.since)))

pub returns-then-not-may_read-clause-leaves : goal.returns-then-not-may_read-clause-leaves
returns-then-not-may_read-clause-leaves g c = kept_leaves c.args.self.now c.take_kept.new.self c.take_kept.ensures.nothing

pub returns-then-read-clause-leaves : goal.returns-then-read-clause-leaves
returns-then-read-clause-leaves g c =
    let reads : c.read.new.self.reach ≡ Reads = search rules in
    let there : c.read.new.self.reach ≢ Away = λ away. let wrong : Reads ≡ Away = sym reads ∙ away in absurd (cc) in
    leaves_after c.args.self.now c.read.new.self c.read_more.new.self there
    (λ came. inl (subst (λ k. ReadAtOnce k.read (g.L.Link.calls c.read_more.new.link).read) c.take_kept.ensures.calls (then_read_on _ _ _ (answers_once _ _ _ c.read.ensures.calls.1.read) came)))
    c.read_more.ensures.leaves

pub returns-else-read-clause-leaves : goal.returns-else-read-clause-leaves
returns-else-read-clause-leaves g c =
    let may : MayReadOn c.take_kept.new.self c.take_kept.new.screens.saying.waits = c.may_read.ensures.0 c.if-not-may_read.false in
    leaves_after c.args.self.now c.take_kept.new.self c.read.new.self (λ away. let wrong : Reads ≡ Away = sym may.reads ∙ away in absurd (cc))
    (λ came. inl (subst (λ k. ReadAtOnce k.read (g.L.Link.calls c.read.new.link).read) c.take_kept.ensures.calls came))
    (read_leaves _ _ _ _ _ _ c.read.ensures.calls.1 c.read.ensures.calls.2)
