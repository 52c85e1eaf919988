-- What is restored of a saved text, and of a prefix of it.
use Rattle.std.proofs.Common.{◌≡◌, refl, sym, ap, ◌∙◌, subst, ℕ, ◌+◌, Bool, true, arith, List, [], ◌∷◌, ◌++◌, append-nil, Some, None}
use Rattle.std.specs.Prelude.{◌≢◌, if◌then◌else◌}
use Rattle.feed_settings.specs.Limits.{Limits}
use Rattle.feed_note.specs.declared.line.Line.{Line}
use Rattle.feed_note.specs.Lines.{lines, rest}
use Rattle.feed_node.specs.Publishing.{Published}
use Rattle.feed_node.specs.Texts.{snapshot_text}
use Rattle.feed_node.specs.declared.fault.FeedFault.{FeedFault}
use Rattle.feed_node.specs.declared.fault.FeedFault.TheVariants.{NotOpen, LongLine, Line as BadLine, StageFull, Memory}
use Rattle.feed_node.specs.Mirroring.{MirrorState, first_opening, IsRestored, FailsToRestore}
use Rattle.feed_node.specs.Reading.{Reads, FaultsAt, reads, keep_latest, awaits_reset}
use Rattle.feed_node.specs.Saved.{Restores, SavedTextsRestore}
use Rattle.feed_node.specs.Sent.{TakesText, PublishesAtEnd, fresh_on, renewed_on, SnapshotsPublishAtEnd}
use Rattle.feed_node.specs.Staging.{StagingState, steps, AllTaken}
use Rattle.feed_node.specs.States.{NodeState, Node, nothing_published, published_token}
use Rattle.feed_node.specs.Steps.{StepsRead, TakenAreGood, ReadingIsOne, standing_after}
use Rattle.feed_node.specs.Kept.{most_kept}
use Rattle.feed_node.proofs.Latest.{keep_last_all}

-- the mirror that is cut off where this stands
abbrev cut_at : Limits → NodeState → Bool → MirrorState
cut_at limits shown afresh =
    record {
      limits = limits;
      node = shown;
      since = if afresh then None else published_token shown;
      connection = None;
    }

module _ (read : StepsRead) (good : TakenAreGood) (one : ReadingIsOne) (limits : Limits) where
  abbrev begun : StagingState
  begun = fresh_on (record { shown = nothing_published; history = limits.history })

  opened : begun ≡ standing_after limits.history first_opening []
  opened = λ i. record {
    node = record {
      shown = record {
        published = None;
        held = sym (keep_last_all (most_kept limits.history [] + 1) [] (omega arith)) i;
        kept = sym (keep_last_all (most_kept limits.history []) [] (omega arith)) i;
      };
      history = limits.history;
    };
    afresh = true;
    changes = [];
  }

  -- lines that are taken are what is read
  taken_is_read : (text : List ℕ) (notes : List Line) → TakesText limits begun text notes
      → Reads limits first_opening text notes
  taken_is_read text notes t =
      record {
        good = good limits first_opening (lines text) notes
            (subst (λ s. AllTaken limits s (lines text) notes) opened t.taken);
        short = t.short;
      }

  -- so a mirror that is restored is cut off where they lead
  leads_there : (text : List ℕ) (notes : List Line) (t : StagingState) (mirror : MirrorState)
      → TakesText limits begun text notes → (steps begun notes).node.shown ≡ t.node.shown
      → (steps begun notes).afresh ≡ t.afresh
      → IsRestored limits text mirror → mirror ≡ cut_at limits t.node.shown t.afresh
  leads_there text notes t mirror takes shown afresh r =
      let same : r.notes ≡ notes =
      one.notes limits first_opening text r.notes notes r.nothing_bad
      (taken_is_read text notes takes) in
      let after : steps begun notes ≡ standing_after limits.history first_opening notes =
      ap (λ s. steps s notes) opened ∙ read limits.history first_opening notes in
      let node : keep_latest limits.history (reads limits.history first_opening notes) ≡ t.node.shown =
      sym (ap (λ s. s.node.shown) after) ∙ shown in
      let awaits : awaits_reset first_opening notes ≡ t.afresh =
      sym (ap (λ s. s.afresh) after) ∙ afresh in
      r.state
      ∙ ap (λ ns. cut_at limits (keep_latest limits.history (reads limits.history first_opening ns))
      (awaits_reset first_opening ns)) same
      ∙ (λ i. cut_at limits (node i) (awaits i))

  -- and nothing is wrong with the text
  never : (text : List ℕ) (notes : List Line) (fault : FeedFault)
      → TakesText limits begun text notes
      → (others : List Line) × FaultsAt limits first_opening text others fault → ⊥
  never text notes fault takes f =
      one.faultless limits first_opening text notes f.0 fault (taken_is_read text notes takes) f.1

  no_fault : (text : List ℕ) (notes : List Line) (fault : FeedFault)
      → TakesText limits begun text notes → FailsToRestore limits text fault → fault ≡ Memory
  no_fault text notes Memory takes f = refl
  no_fault text notes NotOpen takes f = absurd (never text notes NotOpen takes f)
  no_fault text notes LongLine takes f = absurd (never text notes LongLine takes f)
  no_fault text notes (BadLine why) takes f = absurd (never text notes (BadLine why) takes f)
  no_fault text notes StageFull takes f = absurd (never text notes StageFull takes f)

  -- ---- nothing was published

  takes_nothing : TakesText limits begun [] []
  unfolding lines rest
  takes_nothing = record { taken = tt; short = omega arith }

  nothing_before : (prefix behind : List ℕ) → prefix ++ behind ≡ [] → prefix ≡ []
  nothing_before [] behind e = refl
  nothing_before (b ∷ prefix) behind e = absurd (cc)

  nothing_restores : Restores limits [] None
  nothing_restores =
      record {
        whole = λ mirror r. leads_there [] [] begun mirror takes_nothing refl refl r;
        part = λ prefix behind mirror e some r.
            let none : behind ≡ [] =
            sym (ap (λ f. f ++ behind) (nothing_before prefix behind e)) ∙ e in
            absurd (some none);
        faultless = λ prefix behind fault e f.
            no_fault [] [] fault takes_nothing
            (subst (λ t. FailsToRestore limits t fault) (nothing_before prefix behind e) f);
      }

  -- ---- or this was

  module _ (p : Published) (s : PublishesAtEnd limits begun (snapshot_text p.tables p.token)
      (renewed_on begun.node p) 1) where
    abbrev text : List ℕ
    text = snapshot_text p.tables p.token

    prefix_is_right : (prefix behind : List ℕ) (fault : FeedFault) → prefix ++ behind ≡ text
        → FailsToRestore limits prefix fault → fault ≡ Memory
    prefix_is_right prefix [] fault e f =
        no_fault text s.notes fault s.takes
        (subst (λ t. FailsToRestore limits t fault) (sym (append-nil prefix) ∙ e) f)
    prefix_is_right prefix (b ∷ behind) fault e f =
        let some : (b ∷ behind) ≢ [] = λ n. cc in
        let g = s.before prefix (b ∷ behind) e some in
        no_fault prefix g.0 fault g.1 f

    snapshot_restores : Restores limits text (Some p)
    snapshot_restores =
        record {
          whole = λ mirror r. leads_there text s.notes (renewed_on begun.node p) mirror s.takes
              (ap (λ t. t.node.shown) s.leads_to) (ap (λ t. t.afresh) s.leads_to) r;
          part = λ prefix behind mirror e some r.
              let g = s.before prefix behind e some in
              leads_there prefix g.0 begun mirror g.1 (ap (λ n. n.shown) g.2.node) g.2.afresh r;
          faultless = prefix_is_right;
        }

pub saved_texts_restore : StepsRead → TakenAreGood → ReadingIsOne → SnapshotsPublishAtEnd
    → SavedTextsRestore
saved_texts_restore read good one publish limits None sendable some small =
    nothing_restores read good one limits
saved_texts_restore read good one publish limits (Some p) sendable some small =
    let node : Node = record { shown = nothing_published; history = limits.history } in
    snapshot_restores read good one limits p (publish limits node p sendable some small)
