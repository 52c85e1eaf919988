use Rattle.std.specs.Prelude.{is_none}
use Rattle.std.proofs.Common.{◌≡◌, ◌∙◌, sym}
use Rattle.feed_device.proofs.CallLemmas.{answers_once, answers_then}
use Rattle.feed_live.specs.Calling.{MayReadOn}
use Rattle.feed_live.specs.Relaying.{followed_by}
use Rattle.feed_live.proofs.RelayLemmas.{with_unread, within}
use Rattle.feed_live.proofs.TimesLemmas.{heeds_then}
use Rattle.feed_live.specs.declared.source.Reach.TheVariants.{Away, Reads}
use Rattle.feed_live.proofs.CallingLemmas.{leaves_after, read_leaves, then_read_on}
use Rattle.feed_live.proofs.source.Source.read_more.Goals as goal

pub returns-then-not-read-clause-follows : goal.returns-then-not-read-clause-follows
returns-then-not-read-clause-follows g c =
    let may : MayReadOn c.loop.self c.loop.screens.saying.waits = c.may_read.ensures.0 c.if-not-may_read.false in
    λ limits log servers contest sockets follows.
    c.read.ensures.follows may.reads may.rest limits log servers contest sockets
    (within (with_unread limits log servers (is_none c.loop.self.coming) _ c.loop.self.reach c.loop.self.request.items c.loop.self.upstream.follower (followed_by c.loop.self) (sym may.rest))
    (c.loop.invariant.follows limits log servers contest sockets follows))

pub returns-then-not-read-clause-heeds : goal.returns-then-not-read-clause-heeds
returns-then-not-read-clause-heeds g c = heeds_then c.read.ensures.heeds c.loop.invariant.heeds

pub returns-then-not-read-clause-looks : goal.returns-then-not-read-clause-looks
returns-then-not-read-clause-looks g c = c.read.ensures.calls.1.looked ∙ c.loop.invariant.looks

pub returns-then-not-read-clause-written : goal.returns-then-not-read-clause-written
returns-then-not-read-clause-written g c = c.read.ensures.calls.1.written ∙ c.loop.invariant.written

pub returns-then-not-read-clause-since : goal.returns-then-not-read-clause-since
returns-then-not-read-clause-since g c = answers_then _ _ _ c.loop.invariant.since (answers_once _ _ _ c.read.ensures.calls.1.read)

pub loop-preserved : goal.loop-preserved
loop-preserved g c =
    let may : MayReadOn c.loop.self c.loop.screens.saying.waits = c.may_read.ensures.0 c.if-not-may_read.false in
    record {
      follows = λ limits log servers contest sockets follows.
          c.read.ensures.follows may.reads may.rest limits log servers contest sockets
          (within (with_unread limits log servers (is_none c.loop.self.coming) _ c.loop.self.reach c.loop.self.request.items c.loop.self.upstream.follower (followed_by c.loop.self) (sym may.rest))
          (c.loop.invariant.follows limits log servers contest sockets follows));
      heeds = heeds_then c.read.ensures.heeds c.loop.invariant.heeds;
      keeps = λ before. c.read.ensures.keeps may.rest;
      looks = c.read.ensures.calls.1.looked ∙ c.loop.invariant.looks;
      written = c.read.ensures.calls.1.written ∙ c.loop.invariant.written;
      begun = c.read.ensures.calls.1.begun ∙ c.loop.invariant.begun;
      since = answers_then _ _ _ c.loop.invariant.since (answers_once _ _ _ c.read.ensures.calls.1.read);
      leaves = leaves_after c.args.self.now c.loop.self c.read.new.self (λ away. let wrong : Reads ≡ Away = sym may.reads ∙ away in absurd (cc)) (then_read_on _ _ _ c.loop.invariant.since)
          (read_leaves _ _ _ _ _ _ c.read.ensures.calls.1 c.read.ensures.calls.2);
    }

pub returns-then-not-read-clause-leaves : goal.returns-then-not-read-clause-leaves
returns-then-not-read-clause-leaves g c =
    let may : MayReadOn c.loop.self c.loop.screens.saying.waits = c.may_read.ensures.0 c.if-not-may_read.false in
    leaves_after c.args.self.now c.loop.self c.read.new.self (λ away. let wrong : Reads ≡ Away = sym may.reads ∙ away in absurd (cc)) (then_read_on _ _ _ c.loop.invariant.since)
    (read_leaves _ _ _ _ _ _ c.read.ensures.calls.1 c.read.ensures.calls.2)

pub returns-then-not-read-clause-begun : goal.returns-then-not-read-clause-begun
returns-then-not-read-clause-begun g c = c.read.ensures.calls.1.begun ∙ c.loop.invariant.begun
