use Rattle.std.proofs.Common.{refl}
use Rattle.feed_audit.proofs.Meeting.{on_ours}
use Rattle.feed_audit.proofs.since.Since.note_ours.Goals as goal

pub returns : goal.returns
returns c = λ before theirs known o there. on_ours c.args.self.now _ before c.args.node.now.shown theirs (known c.if-not-self.false) o (c.in_ok-self.ensures there) refl
