-- Why what is looked for can't be told to be missing.
use Rattle.std.proofs.Common.{◌≡◌, ◌≢◌, ap, ◌∙◌, ℕ, ◌+◌, min, List, [], Option, None, Some}
use Rattle.std.specs.Prelude.{IfSome, IsSome}
use Rattle.feed_settings.specs.Limits.{Limits}
use Rattle.feed_node.specs.Publishing.{Published}
use Rattle.feed_note.specs.declared.line.Line.{Line}
use Rattle.feed_node.specs.Mirroring.{MirrorState}
use Rattle.feed_node.specs.States.{NodeState}
use Rattle.feed_node.specs.declared.fault.FeedFault.TheVariants as feed
use Rattle.feed_audit.specs.Answers.{FailsFrom, FailsToLocate}
use Rattle.feed_audit.specs.States.{Start, afresh, published_from}
use Rattle.feed_audit.specs.Stops.{primary_fault, IsUnreadPrimary}
use Rattle.feed_audit.specs.Walks.{Walked, AllAre, StopsReading, StopsFirst}
use Rattle.feed_audit.specs.declared.stop.Stop.{Stop}
use Rattle.feed_audit.specs.declared.stop.Stop.TheVariants as stopped
use Rattle.feed_records.specs.declared.reading.Unread.{Unread}
use Rattle.feed_records.specs.declared.reading.Unread.TheVariants as unread
use Rattle.feed_audit.specs.declared.verdict.AuditFault.{AuditFault}
use Rattle.feed_audit.specs.declared.verdict.AuditFault.TheVariants as failed
use Rattle.feed_audit.proofs.Agreeing.{state_of}
use Rattle.feed_audit.proofs.Walking.{all_none, all_behind}
use Rattle.feed_audit.proofs.Tokens.{some_is}

-- the primary's record can't be read on
pub unread_primary : (why : Unread) (lines : ℕ) → IsUnreadPrimary (primary_fault (stopped.Unread why) lines)
unread_primary unread.Failed lines = λ e. absurd (cc)
unread_primary unread.TooLong lines = λ e. absurd (cc)
unread_primary unread.Memory lines = tt

pub locate_unread : (limits : Limits) (primary : List ℕ) (wanted : NodeState) (why : AuditFault) → IsUnreadPrimary why → FailsToLocate limits primary wanted why
locate_unread limits primary wanted (failed.Primary line why) f = absurd f
locate_unread limits primary wanted (failed.Screen line why) f = absurd f
locate_unread limits primary wanted (failed.Chunked line) f = absurd f
locate_unread limits primary wanted (failed.OtherToken line) f = absurd f
locate_unread limits primary wanted (failed.PrimaryUnread why) f = f
locate_unread limits primary wanted (failed.ScreenUnread why) f = absurd f
locate_unread limits primary wanted failed.Memory f = tt

pub unread_fails : (start : Start) (primary screen : List ℕ) (why : AuditFault) → IsUnreadPrimary why → FailsFrom start primary screen why
unread_fails start primary screen (failed.Primary line why) f = absurd f
unread_fails start primary screen (failed.Screen line why) f = absurd f
unread_fails start primary screen (failed.Chunked line) f = absurd f
unread_fails start primary screen (failed.OtherToken line) f = absurd f
unread_fails start primary screen (failed.PrimaryUnread why) f = f
unread_fails start primary screen (failed.ScreenUnread why) f = absurd f
unread_fails start primary screen failed.Memory f = tt

-- what stopped the search, as it is told
pub locate_stops : (limits : Limits) (primary : List ℕ) (wanted : NodeState) (stop : Stop) (lines : ℕ)
    → StopsFirst (afresh limits) primary [] wanted (min (lines + 1) 18446744073709551615) stop → FailsToLocate limits primary wanted (primary_fault stop lines)
locate_stops limits primary wanted (stopped.Feed feed.NotOpen) lines f = f (λ e. absurd (cc))
locate_stops limits primary wanted (stopped.Feed feed.LongLine) lines f = f (λ e. absurd (cc))
locate_stops limits primary wanted (stopped.Feed (feed.Line why)) lines f = f (λ e. absurd (cc))
locate_stops limits primary wanted (stopped.Feed feed.StageFull) lines f = f (λ e. absurd (cc))
locate_stops limits primary wanted (stopped.Feed feed.Memory) lines f = tt
locate_stops limits primary wanted (stopped.Unread unread.Failed) lines f = λ e. absurd (cc)
locate_stops limits primary wanted (stopped.Unread unread.TooLong) lines f = λ e. absurd (cc)
locate_stops limits primary wanted (stopped.Unread unread.Memory) lines f = tt

-- lines without its token don't publish it
if_other : (shown : Option Published) (state : Published) → IfSome shown (λ (s : Published). s.token ≢ state.token) → IfSome shown (λ s. s ≢ state)
if_other None state h = tt
if_other (Some s) state h = λ e. h (ap (λ (s : Published). s.token) e)

lacking : (limits : Limits) (primary : List ℕ) (notes : List Line) (wanted : NodeState) (line : ℕ)
    → ((state : Published) → wanted.published ≡ Some state → AllAre (afresh limits) (λ (shown : Published). shown.token ≢ state.token) notes)
    → (stop : Stop) → StopsReading (afresh limits) primary notes line stop → StopsFirst (afresh limits) primary [] wanted line stop
lacking limits primary notes wanted line lacks (stopped.Feed why) f = λ n.
    let b = f n in
    record {
      faults = b.faults;
      missed = λ state is h a rest e. if_other (published_from (afresh limits) a) state
          (all_behind (afresh limits) (λ (shown : Published). shown.token ≢ state.token) primary notes line why (lacks state is) b a rest e);
    }
lacking limits primary notes wanted line lacks (stopped.Unread why) f = tt

pub explain_stops : (limits : Limits) (primary : List ℕ) (notes : List Line) (wanted : NodeState)
    → ((state : Published) → wanted.published ≡ Some state → AllAre (afresh limits) (λ (shown : Published). shown.token ≢ state.token) notes)
    → (stop : Stop) (lines : ℕ) → StopsReading (afresh limits) primary notes (min (lines + 1) 18446744073709551615) stop
    → FailsToLocate limits primary wanted (primary_fault stop lines)
explain_stops limits primary notes wanted lacks stop lines f = locate_stops limits primary wanted stop lines (lacking limits primary notes wanted _ lacks stop f)

-- ---- what is looked for is a state of the screen's

pub locate_fails : (start : Start) (primary screen behind : List ℕ) (notes : List Line) (count : ℕ) (new : MirrorState) (wanted : NodeState) (why : AuditFault)
    → Walked start screen behind notes count new → IsSome new.node.published → wanted ≡ new.node → FailsToLocate start.limits primary wanted why
    → FailsFrom start primary screen why
locate_fails start primary screen behind notes count new wanted (failed.Primary line why) w some is f =
    let its = some_is new.node.published some in
    record {
      faults = f.faults;
      state = its.0;
      is = state_of start screen behind notes count new its.0 w its.1;
      lacks = f.missed its.0 (ap (λ (n : NodeState). n.published) is ∙ its.1) (all_none start.limits (λ shown. shown ≢ its.0));
    }
locate_fails start primary screen behind notes count new wanted (failed.Screen line why) w some is f = absurd f
locate_fails start primary screen behind notes count new wanted (failed.Chunked line) w some is f = absurd f
locate_fails start primary screen behind notes count new wanted (failed.OtherToken line) w some is f = absurd f
locate_fails start primary screen behind notes count new wanted (failed.PrimaryUnread why) w some is f = f
locate_fails start primary screen behind notes count new wanted (failed.ScreenUnread why) w some is f = absurd f
locate_fails start primary screen behind notes count new wanted failed.Memory w some is f = tt
