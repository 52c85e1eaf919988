-- What a mirror makes of a file.
use Rattle.std.proofs.Common.{◌≡◌, refl, sym, ap, ◌∙◌, subst, ℕ, ◌≤◌, Bool, true, false, List, [], ◌++◌, length, Option, Some, None, append_assoc, append-nil}
use Rattle.feed_settings.specs.Limits.{Limits}
use Rattle.feed_node.specs.Publishing.{Published}
use Rattle.feed_node.specs.Texts.{snapshot_text}
use Rattle.feed_note.specs.declared.line.Line.{Line}
use Rattle.feed_node.specs.declared.fault.FeedFault.{FeedFault}
use Rattle.feed_node.specs.declared.fault.FeedFault.TheVariants.{NotOpen, LongLine, Line as BadLine, StageFull, Memory}
use Rattle.feed_node.specs.Mirroring.{MirrorState, StandsAt, HasStopped, HasLost, Faulted, IsRestored}
use Rattle.feed_node.specs.Reading.{Reads, FaultsAt, reads, keep_latest}
use Rattle.feed_node.specs.States.{NodeState}
use Rattle.feed_node.specs.Steps.{ReadingIsOne}
use Rattle.feed_wire.specs.FrameLaws.{joined}
use Rattle.feed_world.specs.Laws.{opened_text}
use Rattle.feed_world.specs.Log.{Log, IsLog, state_after}
use Rattle.feed_world.specs.Position.{Position, IsPlaceOfLog, node_where}
use Rattle.feed_world.specs.Reading.{opening_at}
use Rattle.feed_hub.specs.declared.record.Record.{Record}
use Rattle.feed_hub.specs.Told.{Told}
use Rattle.feed_hub.specs.Record.{IsRecorded}
use Rattle.feed_laws.specs.Laws.{IsInLog, AreInLog, ShowsState, ReachesState, ScreensShowStates, ScreensReach}
use Rattle.feed_laws.specs.Files.{RestoresInLog, ReadsOnInLog, FilesRestore, FilesReach}

-- ---- bytes of which each prefix shows a state of the log

module _ (one : ReadingIsOne) (limits : Limits) (log : Log) (place : Option Position) (fresh : Bool) (bytes : List ℕ)
    (shown : (prefix behind : List ℕ) → prefix ++ behind ≡ bytes → ShowsState limits log place fresh prefix) where
  reads_in_log : (prefix behind : List ℕ) (notes : List Line) → prefix ++ behind ≡ bytes
      → Reads limits (opening_at log place fresh) prefix notes
      → IsInLog limits log (keep_latest limits.history (reads limits.history (opening_at log place fresh) notes))
  reads_in_log prefix behind notes whole good =
      let s = shown prefix behind whole in
      let same : s.notes ≡ notes = one.notes limits (opening_at log place fresh) prefix s.notes notes s.nothing_bad good in
      (s.at, s.is_place, ap (λ ns. keep_latest limits.history (reads limits.history (opening_at log place fresh) ns)) (sym same) ∙ s.shows)

  fed_in_log : (notes : List Line) (mirror : MirrorState) → mirror.limits ≡ limits
      → StandsAt (opening_at log place fresh) bytes notes mirror → IsInLog limits log mirror.node
  fed_in_log notes mirror bounds stands =
      let good = subst (λ l. Reads l (opening_at log place fresh) bytes notes) bounds stands.nothing_bad in
      let there = reads_in_log bytes [] notes (append-nil bytes) good in (
        there.0,
        there.1,
        ap (λ m. m.node) stands.state ∙ ap (λ l. keep_latest l.history (reads l.history (opening_at log place fresh) notes)) bounds ∙ there.2,
      )

  cut_in_log : (before piece : List ℕ) (old new : MirrorState) → before ++ piece ≡ bytes → old.limits ≡ limits
      → HasLost (opening_at log place fresh) before piece old new → IsInLog limits log new.node
  cut_in_log before piece old new whole bounds lost =
      let ends : (before ++ lost.counted) ++ lost.uncounted ≡ bytes =
      append_assoc before lost.counted lost.uncounted ∙ ap (λ p. before ++ p) lost.whole ∙ whole in
      let good = subst (λ l. Reads l (opening_at log place fresh) (before ++ lost.counted) lost.notes) bounds lost.nothing_bad in
      let there = reads_in_log (before ++ lost.counted) lost.uncounted lost.notes ends good in (
        there.0,
        there.1,
        ap (λ m. m.node) lost.state ∙ ap (λ l. keep_latest l.history (reads l.history (opening_at log place fresh) lost.notes)) bounds ∙ there.2,
      )

  none_stops : (before piece : List ℕ) (notes : List Line) (old new : MirrorState) (fault : FeedFault)
      → before ++ piece ≡ bytes → old.limits ≡ limits
      → HasStopped (opening_at log place fresh) (before ++ piece) notes fault old new → ⊥
  none_stops before piece notes old new fault whole bounds stopped =
      let s = shown bytes [] (append-nil bytes) in
      one.faultless limits (opening_at log place fresh) bytes s.notes notes fault s.nothing_bad
      (subst (λ bs. FaultsAt limits (opening_at log place fresh) bs notes fault) whole
      (subst (λ l. FaultsAt l (opening_at log place fresh) (before ++ piece) notes fault) bounds stopped.first))

  fails_in_log : (before piece : List ℕ) (old new : MirrorState) (fault : FeedFault)
      → before ++ piece ≡ bytes → old.limits ≡ limits
      → Faulted (opening_at log place fresh) before piece old new fault → (fault ≡ Memory) × IsInLog limits log new.node
  fails_in_log before piece old new Memory whole bounds lost = (refl, cut_in_log before piece old new whole bounds lost)
  fails_in_log before piece old new NotOpen whole bounds f = absurd (none_stops before piece f.0 old new NotOpen whole bounds f.1)
  fails_in_log before piece old new LongLine whole bounds f = absurd (none_stops before piece f.0 old new LongLine whole bounds f.1)
  fails_in_log before piece old new (BadLine fault) whole bounds f = absurd (none_stops before piece f.0 old new (BadLine fault) whole bounds f.1)
  fails_in_log before piece old new StageFull whole bounds f = absurd (none_stops before piece f.0 old new StageFull whole bounds f.1)

module _ (one : ReadingIsOne) (limits : Limits) (log : Log) (bytes : List ℕ)
    (shown : (prefix behind : List ℕ) → prefix ++ behind ≡ bytes → ShowsState limits log None true prefix) where
  restored_in_log : (mirror : MirrorState) → IsRestored limits bytes mirror → IsInLog limits log mirror.node
  restored_in_log mirror restored =
      let there = reads_in_log one limits log None true bytes shown bytes [] restored.notes (append-nil bytes) restored.nothing_bad in
      (there.0, there.1, ap (λ m. m.node) restored.state ∙ there.2)

  pub restores_in_log : RestoresInLog limits log bytes
  restores_in_log =
      record {
        reads = shown bytes [] (append-nil bytes);
        fed = fed_in_log one limits log None true bytes shown;
        fails = fails_in_log one limits log None true bytes shown;
        restored = restored_in_log;
      }

-- so it is with a mirror that reads on from a position
pub reads_on_in_log : ReadingIsOne → (limits : Limits) (log : Log) (own : Position) (bytes : List ℕ)
    → ((prefix behind : List ℕ) → prefix ++ behind ≡ bytes → ShowsState limits log (Some own) false prefix) → ReadsOnInLog limits log own bytes
reads_on_in_log one limits log own bytes shown =
    record {
      reads = shown bytes [] (append-nil bytes);
      fed = fed_in_log one limits log (Some own) false bytes shown;
      fails = fails_in_log one limits log (Some own) false bytes shown;
    }

-- ---- what a record has is that

-- the snapshot of a record is that of a state of the log
begins_at : (limits : Limits) (log : Log) (place : Option Position) (p : Published)
    → IsPlaceOfLog limits log place → (node_where log place).published ≡ Some p
    → (k : ℕ) × (k ≤ length log.commits) × (p ≡ record { tables = state_after log k; token = log.token k })
begins_at limits log None p is_place e = let no : None ≡ Some p = e in absurd (cc)
begins_at limits log (Some q) p is_place e =
    let there : Some (record { tables = state_after log q.at; token = log.token q.at }) ≡ Some p = e in
    (q.at, is_place.in_log, cc)

module _ (limits : Limits) (log : Log) (nodes : List NodeState) (written : List ℕ) (r : Record)
    (is_log : IsLog limits log) (in_log : AreInLog log nodes) (recorded : IsRecorded nodes written r) where
  pub begun : (k : ℕ) × (k ≤ length log.commits) × (recorded.snapshot ≡ record { tables = state_after log k; token = log.token k })
  begun =
      let node = in_log recorded.first recorded.among in
      begins_at node.0 log node.1.0 recorded.snapshot node.1.1 (ap (λ n. n.published) (sym node.1.2) ∙ recorded.published)

  its_told : Told nodes (log.token begun.0) recorded.texts r.token
  its_told = subst (λ p. Told nodes p.token recorded.texts r.token) begun.2 recorded.told

  its_bytes : written ++ r.own ≡ opened_text log true begun.0 ++ joined recorded.texts
  its_bytes = recorded.all ∙ ap (λ p. snapshot_text p.tables p.token ++ joined recorded.texts) begun.2

  pub record_shows : ScreensShowStates → (prefix behind : List ℕ) → prefix ++ behind ≡ written
      → ShowsState limits log None true prefix
  record_shows shows prefix behind whole =
      shows limits log nodes begun.0 recorded.texts r.token None true prefix (behind ++ r.own) is_log in_log begun.1 its_told tt
      (λ e. let no : true ≡ false = e in absurd (cc))
      (sym (append_assoc prefix behind r.own) ∙ ap (λ w. w ++ r.own) whole ∙ its_bytes)

  pub record_reaches : ScreensReach → r.own ≡ [] → ReachesState limits log None true r.token written
  record_reaches reach none =
      let all : opened_text log true begun.0 ++ joined recorded.texts ≡ written =
      sym its_bytes ∙ ap (λ o. written ++ o) none ∙ append-nil written in
      subst (ReachesState limits log None true r.token) all
      (reach limits log nodes begun.0 recorded.texts r.token None true is_log in_log begun.1 its_told tt (λ e. let no : true ≡ false = e in absurd (cc)))

pub files_restore : ReadingIsOne → ScreensShowStates → FilesRestore
files_restore one shows limits log nodes written prefix behind r is_log in_log recorded whole =
    restores_in_log one limits log prefix
    (λ first rest e. record_shows limits log nodes written r is_log in_log recorded shows first (rest ++ behind)
    (sym (append_assoc first rest behind) ∙ ap (λ f. f ++ behind) e ∙ whole))

pub files_reach : ScreensReach → FilesReach
files_reach reach limits log nodes written r is_log in_log recorded none =
    record_reaches limits log nodes written r is_log in_log recorded reach none
