use Rattle.std.proofs.Common.{arith}
use Rattle.feed_text.proofs.AsciiBlocks.{ascii_through, ascii_more}
use Rattle.feed_text.proofs.ascii.is_ascii.Goals as goal

pub loop-at-preserved : goal.loop-at-preserved
loop-at-preserved c = (omega arith, ascii_more c.args.text.now c.loop-at.at c.loop-at.invariant.1 (c.is_ascii_at.ensures c.if-not-is_ascii_at.false))

pub returns : goal.returns
returns c = λ yes. ascii_through c.args.text.now c.loop-at.at _ c.loop-at-test.false (omega arith) c.loop-at.invariant.1 (c.is_ascii_at-2.ensures yes)
