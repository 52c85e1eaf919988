-- How many states a text has that was read so far.
use Rattle.std.proofs.Common.{◌≡◌, sym, ap, ◌∙◌, subst, ℕ, ◌+◌, ◌≤◌, min, List, [], ◌∷◌, ◌++◌, length, arith}
use Rattle.feed_settings.specs.Limits.{Limits}
use Rattle.feed_note.specs.declared.line.Line.{Line}
use Rattle.feed_text.specs.Limits.{line_bytes}
use Rattle.feed_node.specs.Mirroring.{MirrorState, first_opening}
use Rattle.feed_node.specs.Reading.{AllGood}
use Rattle.feed_node.specs.declared.fault.FeedFault.TheVariants as feed
use Rattle.feed_audit.specs.declared.verdict.AuditFault.{AuditFault}
use Rattle.feed_audit.specs.declared.verdict.AuditFault.TheVariants as failed
use Rattle.feed_audit.specs.Answers.{HasStates, FailsToCount}
use Rattle.feed_audit.specs.States.{Start, afresh}
use Rattle.feed_audit.specs.Stops.{primary_fault, IsUnreadPrimary}
use Rattle.feed_audit.specs.Walks.{Walked, Counts, ReadsMore, GoesToEnd, StopsReading}
use Rattle.feed_audit.specs.declared.stop.Stop.{Stop}
use Rattle.feed_audit.specs.declared.stop.Stop.TheVariants as stopped
use Rattle.feed_records.specs.declared.reading.Unread.TheVariants as unread
use Rattle.feed_audit.proofs.Agreeing.{good_of, all_lines}

-- nothing was read
pub counts_none : (limits : Limits) (text : List ℕ) (lines states : ℕ) (mirror : MirrorState) → Walked (afresh limits) text text [] lines mirror → states ≡ 0
    → Counts (afresh limits) text text lines states mirror
counts_none limits text lines states mirror w none = record { notes = []; walked = w; counted = none }

-- one state more
pub counts_on : (start : Start) (text left behind : List ℕ) (count new_count states new_states : ℕ) (old new : MirrorState)
    (a : Counts start text left count states old) → ReadsMore start text behind a.notes new_count new → new_states ≡ min (states + 1) 18446744073709551615
    → Counts start text behind new_count new_states new
counts_on start text left behind count new_count states new_states old new a g more = record {
  notes = a.notes ++ (g.before ++ g.note ∷ []);
  walked = g.walked;
  counted = let one = g.counted in let before = a.counted in omega arith;
}

pub counts_all : (limits : Limits) (text left : List ℕ) (count new_count states : ℕ) (old new : MirrorState)
    (a : Counts (afresh limits) text left count states old) → GoesToEnd (afresh limits) text a.notes new_count new → HasStates limits text states
counts_all limits text left count new_count states old new a g =
    let w = g.passes.walked in
    let notes = a.notes ++ g.passes.more in
    let all = all_lines (afresh limits) text g.behind notes new_count new w g.part in
    let good = subst (λ ls. AllGood limits first_opening ls notes) (sym all.0) (good_of (afresh limits) text g.behind notes new_count new w) in
    record {
      notes = notes;
      read = record { good = good; short = subst (λ r. length r ≤ line_bytes) (sym all.1) g.short };
      counted = a.counted ∙ ap (λ n. min n 18446744073709551615) (sym g.passes.counted);
    }

-- what stopped the reading, as it is told
pub count_stops : (limits : Limits) (primary : List ℕ) (notes : List Line) (stop : Stop) (lines : ℕ)
    → StopsReading (afresh limits) primary notes (min (lines + 1) 18446744073709551615) stop → FailsToCount limits primary (primary_fault stop lines)
count_stops limits primary notes (stopped.Feed feed.NotOpen) lines f = (f (λ e. absurd (cc))).faults
count_stops limits primary notes (stopped.Feed feed.LongLine) lines f = (f (λ e. absurd (cc))).faults
count_stops limits primary notes (stopped.Feed (feed.Line why)) lines f = (f (λ e. absurd (cc))).faults
count_stops limits primary notes (stopped.Feed feed.StageFull) lines f = (f (λ e. absurd (cc))).faults
count_stops limits primary notes (stopped.Feed feed.Memory) lines f = tt
count_stops limits primary notes (stopped.Unread unread.Failed) lines f = λ e. absurd (cc)
count_stops limits primary notes (stopped.Unread unread.TooLong) lines f = λ e. absurd (cc)
count_stops limits primary notes (stopped.Unread unread.Memory) lines f = tt

-- and that it can't be opened again
pub count_unread : (limits : Limits) (primary : List ℕ) (why : AuditFault) → IsUnreadPrimary why → FailsToCount limits primary why
count_unread limits primary (failed.Primary line why) f = absurd f
count_unread limits primary (failed.Screen line why) f = absurd f
count_unread limits primary (failed.Chunked line) f = absurd f
count_unread limits primary (failed.OtherToken line) f = absurd f
count_unread limits primary (failed.PrimaryUnread why) f = f
count_unread limits primary (failed.ScreenUnread why) f = absurd f
count_unread limits primary failed.Memory f = tt
