use Rattle.feed_text.proofs.AsciiBlocks.{ascii_of_mask}
use Rattle.feed_text.proofs.ascii.is_ascii_block.Goals as goal

pub returns : goal.returns
returns c = ascii_of_mask c.args.block c.fits-block.0
