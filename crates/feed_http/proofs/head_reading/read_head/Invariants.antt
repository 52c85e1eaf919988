-- The bytes so far are what the reader gave in the turns that were taken, and each read was needed.
use Rattle.std.proofs.Common.{◌≡◌, ◌≤◌, ◌-◌}
use Rattle.std.specs.Io.KnownBytes.{Consumes}
use Rattle.feed_http.specs.Device.{RoseBy}
use Rattle.feed_http.specs.HeadReading.{IsReadAsNeeded}
use Rattle.feed_http.proofs.head_reading.read_head.Given as goal

abbrev pub invariant-pieces : goal.invariant-pieces
invariant-pieces g l =
    let reader = g.R.FeedRead in
    record {
      given : Consumes (reader.remaining l.initial.reader) (reader.remaining l.reader) l.bytes.items;
      needed : IsReadAsNeeded l.bytes.items;
      within : l.made ≤ l.most_reads;
      reads : RoseBy (reader.reads l.initial.reader) (reader.reads l.reader) l.made;
      quiet : reader.failures l.reader ≡ reader.failures l.initial.reader;
    }

abbrev pub decreases-pieces : goal.decreases-pieces
decreases-pieces g l = l.most_reads - l.made
