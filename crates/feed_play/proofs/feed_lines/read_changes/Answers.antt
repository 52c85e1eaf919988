use Rattle.std.proofs.Common.{ap, arith, length}
use Rattle.feed_play.proofs.FeedLineLemmas.{takes_more}
use Rattle.feed_play.proofs.feed_lines.read_changes.Goals as goal

pub lines-preserved : goal.lines-preserved
lines-preserved c =
    let (note, is, grown) = c.in_default-read_feed_line.ensures.ok in
    let (left, read) = c.in-Some.ensures.some in
    let before = c.lines.invariant in
    let fewer = ap length left in
    record {
      taken = takes_more _ c.lines.lines _ c.lines._line c.lines.changes.items _ c.in-Some.line.now note before.taken left read is grown;
      all = omega (arith, read, fewer, before.all);
      later = omega (arith, read, before.later);
    }
