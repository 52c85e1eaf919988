use Rattle.feed_node.proofs.FeedBatches.{batches_are_of_feed}
use Rattle.feed_node.proofs.OneReading.{reading_is_one}
use Rattle.feed_node.proofs.Saving.{saved_texts_restore}
use Rattle.feed_node.proofs.SentOnce.{texts_go_on, batches_publish, snapshot_publishes}
use Rattle.feed_node.proofs.laws.reading_laws.Goals as goal

pub returns : goal.returns
returns c =
    let line = c.line_laws.ensures in
    let means = c.written_lines_law.ensures in
    let tables = c.table_laws.ensures in
    let node = c.node_laws.ensures in
    let one = reading_is_one line.one_meaning in
    let snapshots = snapshot_publishes line.cut line.only_cut means tables.restores tables.sized tables.weighed in
    record {
      one = one;
      goes_on = texts_go_on line.cut line.only_cut;
      batches = batches_publish line.cut line.only_cut means;
      snapshots = snapshots;
      saved = saved_texts_restore node.read node.good one snapshots;
      of_feed = batches_are_of_feed;
    }
