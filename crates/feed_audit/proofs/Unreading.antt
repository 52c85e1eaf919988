-- Which record can't be read on.
use Rattle.std.proofs.Common.{◌≡◌, refl, ℕ}
use Rattle.feed_node.specs.declared.fault.FeedFault.TheVariants as feed
use Rattle.feed_audit.specs.Stops.{IsUnread, IsUnreadScreen, primary_fault, screen_fault}
use Rattle.feed_audit.specs.declared.stop.Stop.{Stop}
use Rattle.feed_audit.specs.declared.stop.Stop.TheVariants as stopped
use Rattle.feed_records.specs.declared.reading.Unread.{Unread}
use Rattle.feed_records.specs.declared.reading.Unread.TheVariants as unread
use Rattle.feed_audit.specs.declared.verdict.AuditFault.{AuditFault}
use Rattle.feed_audit.specs.declared.verdict.AuditFault.TheVariants as failed

module _ (P Q : Unread → Type 0) where
  pub primary_unread : (stop : Stop) (lines : ℕ) → ((why : Unread) → stop ≡ stopped.Unread why → P why) → IsUnread P Q (primary_fault stop lines)
  primary_unread (stopped.Feed feed.NotOpen) lines h = tt
  primary_unread (stopped.Feed feed.LongLine) lines h = tt
  primary_unread (stopped.Feed (feed.Line fault)) lines h = tt
  primary_unread (stopped.Feed feed.StageFull) lines h = tt
  primary_unread (stopped.Feed feed.Memory) lines h = tt
  primary_unread (stopped.Unread unread.Failed) lines h = h unread.Failed refl
  primary_unread (stopped.Unread unread.TooLong) lines h = h unread.TooLong refl
  primary_unread (stopped.Unread unread.Memory) lines h = tt

  pub screen_unread : (stop : Stop) (lines : ℕ) → ((why : Unread) → stop ≡ stopped.Unread why → Q why) → IsUnread P Q (screen_fault stop lines)
  screen_unread (stopped.Feed feed.NotOpen) lines h = tt
  screen_unread (stopped.Feed feed.LongLine) lines h = tt
  screen_unread (stopped.Feed (feed.Line fault)) lines h = tt
  screen_unread (stopped.Feed feed.StageFull) lines h = tt
  screen_unread (stopped.Feed feed.Memory) lines h = tt
  screen_unread (stopped.Unread unread.Failed) lines h = h unread.Failed refl
  screen_unread (stopped.Unread unread.TooLong) lines h = h unread.TooLong refl
  screen_unread (stopped.Unread unread.Memory) lines h = tt

  -- of two records' faults, one is the primary's
  pub unread_of_primary : (why : AuditFault) → IsUnread P (λ _. ⊥) why → IsUnread P Q why
  unread_of_primary (failed.PrimaryUnread w) h = h
  unread_of_primary (failed.ScreenUnread w) h = absurd h
  unread_of_primary (failed.Primary line w) h = tt
  unread_of_primary (failed.Screen line w) h = tt
  unread_of_primary (failed.Chunked line) h = tt
  unread_of_primary (failed.OtherToken line) h = tt
  unread_of_primary failed.Memory h = tt

  -- and one the screen's
  pub unread_of_screen : (why : AuditFault) → IsUnread (λ _. ⊥) Q why → IsUnread P Q why
  unread_of_screen (failed.PrimaryUnread w) h = absurd h
  unread_of_screen (failed.ScreenUnread w) h = h
  unread_of_screen (failed.Primary line w) h = tt
  unread_of_screen (failed.Screen line w) h = tt
  unread_of_screen (failed.Chunked line) h = tt
  unread_of_screen (failed.OtherToken line) h = tt
  unread_of_screen failed.Memory h = tt

pub unread_screen : (why : Unread) (lines : ℕ) → IsUnreadScreen (screen_fault (stopped.Unread why) lines)
unread_screen unread.Failed lines = λ e. absurd (cc)
unread_screen unread.TooLong lines = λ e. absurd (cc)
unread_screen unread.Memory lines = tt

-- what is so of a text that can't be read on
abbrev pub IsStopOf : (Unread → Type 0) → Stop → Type 0
IsStopOf P (stopped.Feed why) = Unit {0}
IsStopOf P (stopped.Unread why) = P why
