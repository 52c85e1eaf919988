use Rattle.std.proofs.Common.{subst}
use Rattle.feed_live.specs.Leaving.{IsBy}
use Rattle.feed_live.proofs.SourceLemmas.{at_most_so, by_sooner}
use Rattle.feed_live.proofs.source.Source.looks_at.Goals as goal

pub returns : goal.returns
returns c =
    let seventh = c.sooner.ensures.least in
    let sixth = at_most_so seventh c.sooner-due-7.ensures.least in
    let fifth = at_most_so sixth c.sooner-due-6.ensures.least in
    let fourth = at_most_so fifth c.sooner-due-5.ensures.least in
    let third = at_most_so fourth c.sooner-due-4.ensures.least in
    let second = at_most_so third c.sooner-due-3.ensures.least in
    let first = at_most_so second c.sooner-due-2.ensures.least in
    record {
      late = subst (λ at. IsBy at c.sooner.result) c.late_at.ensures (by_sooner c.late_at.result first c.sooner-due.ensures.by);
      quiet = subst (λ at. IsBy at c.sooner.result) c.returns_at.ensures (by_sooner c.returns_at.result second c.sooner-due-2.ensures.by);
      first = subst (λ at. IsBy at c.sooner.result) c.look_at.ensures (by_sooner c.look_at.result third c.sooner-due-3.ensures.by);
      heard = subst (λ at. IsBy at c.sooner.result) c.heard_at.ensures (by_sooner c.heard_at.result fourth c.sooner-due-4.ensures.by);
      newest = subst (λ at. IsBy at c.sooner.result) c.newest_at.ensures (by_sooner c.newest_at.result fifth c.sooner-due-5.ensures.by);
    }
