use Rattle.feed_commands.proofs.DeviceLinesLemmas.{bytes_passed}
use Rattle.feed_commands.proofs.device_lines.DeviceLinesSkipped.skip.Goals as goal

pub returns-clause-left : goal.returns-clause-left
returns-clause-left g c behind is = bytes_passed c.args.self.now.start c.args.self.now.looked c.args.self.now.bytes.items behind (g.R.FeedRead.remaining c.args.self.now.input) is
