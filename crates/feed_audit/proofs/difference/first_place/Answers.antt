use Rattle.std.proofs.Common.{sym, ◌∙◌, subst}
use Rattle.feed_audit.specs.Differences.{DifferFirst}
use Rattle.feed_audit.proofs.Ordered.{part_first}
use Rattle.feed_audit.proofs.difference.first_place.Goals as goal

pub returns-in-Some-clause-some : goal.returns-in-Some-clause-some
returns-in-Some-clause-some c =
    let ours = c.args.primary.now.contents in
    let theirs = c.args.screen.now.contents in
    subst (DifferFirst ours theirs) (sym c.in_ok-place_of-in-Some.ensures)
    (part_first ours theirs c.puts.result.now c.puts-2.result.now c.in-Some.change.now
    (c.puts.ensures ours (c.as_slice.ensures.value ∙ c.in_ok-ours.ensures.listing))
    (c.puts-2.ensures theirs (c.as_slice-2.ensures.value ∙ c.in_ok-theirs.ensures.listing))
    c.in-Some.ensures.some)
