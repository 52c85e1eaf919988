-- What a call leaves in the ledger.
use Rattle.feed_ledger.specs.Entries.{Entry, accepted, read, wrote, closed, begun, looked, shown_once, shown_all, came, came_to_end, waited, reported, failed}
use Rattle.feed_ledger.specs.declared.ledger.Call.{Call}
use Rattle.feed_ledger.specs.declared.ledger.Call.TheVariants.{Accept, Read, Write, Close, Connect, Look, ShowOnce, ShowAll, Came, CameToEnd, Wait, Report, Fail}

abbrev pub entry_of : Call → Entry
entry_of (Accept at was_taken) = accepted at was_taken
entry_of (Read at answer bytes) = read at answer bytes.now
entry_of (Write at answer bytes) = wrote at answer bytes.now
entry_of (Close at) = closed at
entry_of (Connect server was_begun) = begun server was_begun
entry_of (Look answer) = looked answer
entry_of (ShowOnce unread) = shown_once unread
entry_of (ShowAll unread) = shown_all unread
entry_of (Came bytes) = came bytes.now
entry_of CameToEnd = came_to_end
entry_of (Wait due takes_input is_over) = waited due takes_input is_over
entry_of Report = reported
entry_of Fail = failed
