use Rattle.std.proofs.Common.{[], refl}
use Rattle.feed_http.specs.Live.{accepts_none}
use Rattle.feed_relay.proofs.CommitLemmas.{takes_next}
use Rattle.feed_relay.proofs.commits.commit_all.Goals as goal

pub batches-init : goal.batches-init
batches-init c = ([], accepts_none, refl)

pub batches-preserved : goal.batches-preserved
batches-preserved c =
    takes_next c.args.primary.now c.batches.primary c.commit.new.self c.args.input.now.items
    c.batches.input.items c.pop_front.new.self.items c.in-Some.batch c.batches.invariant
    c.in-Some.ensures.items c.in_ok-commit.ensures.accepted c.in_ok-commit.ensures.ok
