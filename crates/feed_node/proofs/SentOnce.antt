-- The text of a batch, and of a snapshot on a fresh connection, publishes at its end.
use Rattle.std.proofs.Common.{◌≡◌, refl, sym, ap, ◌∙◌, subst, ℕ, ◌+◌, ◌<◌, ◌≤◌, false, arith, List, [], ◌∷◌, ◌++◌, Some, length, take, append-nil, length-append}
use Rattle.std.specs.Prelude.{◌≢◌}
use Rattle.feed_settings.specs.Limits.{Limits}
use Rattle.feed_text.specs.Limits.{line_bytes}
use Rattle.feed_changes.specs.declared.change.Change.{Change}
use Rattle.feed_tables.specs.Listings.{ListingRestores, ListingHasSize, ListingHasBytes}
use Rattle.feed_tables.specs.Tables.{listing}
use Rattle.feed_note.specs.declared.line.Line.{Line}
use Rattle.feed_note.specs.declared.line.Line.TheVariants.{Note}
use Rattle.feed_note.specs.Lines.{lines, rest, ended, LinesCut, LinesAreTheOnlyCut}
use Rattle.feed_note.specs.Texts.{batch_text}
use Rattle.feed_node.specs.Texts.{snapshot_text}
use Rattle.feed_note.specs.Written.{WrittenLineMeans}
use Rattle.feed_node.specs.Bounds.{is_large}
use Rattle.feed_node.proofs.Bounds.{large_listing}
use Rattle.feed_node.specs.Sent.{TakesText, TextsGoOn, PublishesNothing, PublishesAtEnd, FitsBatch, BatchesPublishAtEnd, fresh_on, renewed_on, SnapshotsPublishAtEnd}
use Rattle.feed_node.specs.Staging.{StagingState, step, times_published, AllTaken}
use Rattle.feed_node.specs.States.{reset_to}
use Rattle.feed_node.proofs.Batches.{batch_lines, batch_notes, ended-batch, length-batch_lines, batch_is_short, taken_batch, steps_batch, count_batch, part_of_batch, taken-append, taken-take}
use Rattle.feed_node.proofs.TextLines.{AreShort, unbroken, lines_of, lines_behind, prefix_lines}

not_empty : (behind : List ℕ) → behind ≢ [] → 1 ≤ length behind
not_empty [] some = absurd (some refl)
not_empty (b ∷ behind) some = omega arith

pub texts_go_on : LinesCut → LinesAreTheOnlyCut → TextsGoOn
texts_go_on cut only_cut limits s text behind notes more none first later =
    let at = lines_behind cut only_cut text behind none in
    record {
      taken = subst (λ ls. AllTaken limits s ls (notes ++ more)) (sym at.0)
          (taken-append limits s (lines text) (lines behind) notes more first.taken later.taken);
      short = subst (λ r. length r ≤ line_bytes) (sym at.1) later.short;
    }

module _ (cut : LinesCut) (only_cut : LinesAreTheOnlyCut) (means : WrittenLineMeans)
    (limits : Limits) (s : StagingState) (cs : List Change) (token : List ℕ)
    (f : FitsBatch limits s cs token) where
  abbrev ls : List (List ℕ)
  ls = batch_lines cs token

  short_lines : AreShort line_bytes ls
  short_lines = batch_is_short means cs token f.within f.name

  taken_lines : AllTaken limits s ls (batch_notes cs token)
  taken_lines = taken_batch means limits s cs token f.within f.name f.few f.small

  text_is : ended ls ++ [] ≡ batch_text cs token
  text_is = append-nil (ended ls) ∙ ended-batch cs token

  whole_lines : (lines (batch_text cs token) ≡ ls) × (rest (batch_text cs token) ≡ [])
  whole_lines =
      let o = lines_of cut only_cut ls [] (unbroken line_bytes ls short_lines) refl in
      (ap lines (sym text_is) ∙ o.0, ap rest (sym text_is) ∙ o.1)

  prefix_of_batch : (prefix behind : List ℕ) → prefix ++ behind ≡ batch_text cs token → behind ≢ []
      → (part : List Line) × TakesText limits s prefix part × PublishesNothing s part
  prefix_of_batch prefix behind e some =
      let text : prefix ++ behind ≡ ended ls = e ∙ sym (ended-batch cs token) in
      let size : length (ended ls) ≡ length prefix + length behind =
      ap length (sym text) ∙ length-append prefix behind in
      let more = not_empty behind some in
      let g = prefix_lines cut only_cut line_bytes ls short_lines prefix behind text (omega arith) in
      let many = length-batch_lines cs token in
      let fewer : g.j < length cs = let l = g.fewer in omega arith in (
        take g.j (batch_notes cs token),
        record {
          taken = subst (λ xs. AllTaken limits s xs (take g.j (batch_notes cs token))) (sym g.are)
              (taken-take limits g.j s ls (batch_notes cs token) taken_lines);
          short = g.short;
        },
        part_of_batch s cs token g.j fewer,
      )

  batch_publishes : PublishesAtEnd limits s (batch_text cs token) (step s (Note cs (Some token)))
      (times_published s (Note cs (Some token) ∷ []))
  batch_publishes =
      record {
        notes = batch_notes cs token;
        takes = record {
          taken = subst (λ xs. AllTaken limits s xs (batch_notes cs token)) (sym whole_lines.0)
              taken_lines;
          short = let none : length (rest (batch_text cs token)) ≡ 0 = ap length whole_lines.1 in
              omega arith;
        };
        ended = whole_lines.1;
        leads_to = steps_batch s cs token f.some;
        counted = count_batch s cs token f.some;
        before = prefix_of_batch;
      }

pub batches_publish : LinesCut → LinesAreTheOnlyCut → WrittenLineMeans → BatchesPublishAtEnd
batches_publish cut only_cut means limits s cs token f =
    batch_publishes cut only_cut means limits s cs token f

-- a snapshot is a batch that makes its tables of empty ones
pub snapshot_publishes : LinesCut → LinesAreTheOnlyCut → WrittenLineMeans → ListingRestores
    → ListingHasSize → ListingHasBytes → SnapshotsPublishAtEnd
snapshot_publishes cut only_cut means restores sized weighed limits node p sendable one small =
    let cs = listing p.tables in
    let many = sized p.tables in
    let tables = restores p.tables in
    let some : cs ≢ [] = λ e. let none : length cs ≡ 0 = ap length e in absurd (omega arith) in
    let fits : FitsBatch limits (fresh_on node) cs p.token =
    record {
      some = some;
      within = sendable.within;
      name = sendable.token;
      few = large_listing sized weighed limits p.tables one small;
      small = subst (λ t. is_large limits t ≡ false) (sym tables) small;
    } in
    let leads : step (fresh_on node) (Note cs (Some p.token)) ≡ renewed_on node p =
    (λ i. record {
      node = record { shown = reset_to (tables i) p.token; history = node.history };
      afresh = false;
      changes = [];
    }) in
    subst (λ t. PublishesAtEnd limits (fresh_on node) (snapshot_text p.tables p.token) t 1) leads
    (batch_publishes cut only_cut means limits (fresh_on node) cs p.token fits)
