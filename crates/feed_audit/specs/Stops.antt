-- Which fault of an audit it is that one of its records can't be read on.
use Rattle.std.specs.Prelude.{◌≢◌, ℕ, ◌+◌, min}
use Rattle.feed_node.specs.declared.fault.FeedFault.TheVariants as feed
use Rattle.feed_audit.specs.declared.stop.Stop.{Stop}
use Rattle.feed_audit.specs.declared.stop.Stop.TheVariants as stop
use Rattle.feed_records.specs.declared.reading.Unread.{Unread}
use Rattle.feed_records.specs.declared.reading.Unread.TheVariants as unread
use Rattle.feed_audit.specs.declared.verdict.AuditFault.{AuditFault}
use Rattle.feed_audit.specs.declared.verdict.AuditFault.TheVariants as fault

-- the primary's, behind so many lines
abbrev pub primary_fault : Stop → ℕ → AuditFault
primary_fault (stop.Feed feed.Memory) lines = fault.Memory
primary_fault (stop.Feed why) lines = fault.Primary (min (lines + 1) 18446744073709551615) why
primary_fault (stop.Unread unread.Memory) lines = fault.Memory
primary_fault (stop.Unread why) lines = fault.PrimaryUnread why

-- the screen's
abbrev pub screen_fault : Stop → ℕ → AuditFault
screen_fault (stop.Feed feed.Memory) lines = fault.Memory
screen_fault (stop.Feed why) lines = fault.Screen (min (lines + 1) 18446744073709551615) why
screen_fault (stop.Unread unread.Memory) lines = fault.Memory
screen_fault (stop.Unread why) lines = fault.ScreenUnread why

-- a want of memory is a fault of its own
abbrev pub IsOfRecord : Unread → Type 0
IsOfRecord why = why ≢ unread.Memory

-- it is that the primary's can't be read on, or a want of memory
abbrev pub IsUnreadPrimary : AuditFault → Type 0
IsUnreadPrimary (fault.PrimaryUnread why) = IsOfRecord why
IsUnreadPrimary fault.Memory = Unit {0}
IsUnreadPrimary why = ⊥

-- the same of the screen's
abbrev pub IsUnreadScreen : AuditFault → Type 0
IsUnreadScreen (fault.ScreenUnread why) = IsOfRecord why
IsUnreadScreen fault.Memory = Unit {0}
IsUnreadScreen why = ⊥

-- a record can't be read on, and this is so of it; of another fault nothing is said
abbrev pub IsUnread : (Unread → Type 0) → (Unread → Type 0) → AuditFault → Type 0
IsUnread primary screen (fault.PrimaryUnread why) = primary why
IsUnread primary screen (fault.ScreenUnread why) = screen why
IsUnread primary screen (fault.Primary line why) = Unit {0}
IsUnread primary screen (fault.Screen line why) = Unit {0}
IsUnread primary screen (fault.Chunked line) = Unit {0}
IsUnread primary screen (fault.OtherToken line) = Unit {0}
IsUnread primary screen fault.Memory = Unit {0}
