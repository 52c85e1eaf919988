use Rattle.feed_text.proofs.Found.{within_shallow}
use Rattle.feed_text.proofs.line.fault_without_memory.Goals as goal

pub returns-then-is_object_line : goal.returns-then-is_object_line
returns-then-is_object_line c =
    let (members, h) = c.if-is_object_line.ensures in
    (c.requires, within_shallow c.args.line.now members h, (h.held.tree, h.held.holds))
