-- The lines of a batch, taken one after another: none publishes but the last, which publishes all.
use Rattle.std.proofs.Common.{◌≡◌, refl, sym, ap, ◌∙◌, subst, ℕ, zero, suc, ◌<◌, Bool, true, false, ◌&&◌, ◌||◌, arith, List, [], ◌∷◌, ◌++◌, length, take, append_assoc, append-nil, Option, Some, None}
use Rattle.std.specs.Prelude.{if◌then◌else◌, ◌≢◌}
use Rattle.std.specs.List.{AllByRecursion}
use Rattle.feed_settings.specs.Limits.{Limits}
use Rattle.feed_text.specs.Limits.{line_bytes}
use Rattle.feed_changes.specs.declared.change.Change.{Change}
use Rattle.feed_changes.specs.Changes.{IsChange}
use Rattle.feed_changes.specs.Names.{IsName}
use Rattle.feed_note.specs.declared.line.Line.{Line}
use Rattle.feed_note.specs.declared.line.Line.TheVariants.{Note}
use Rattle.feed_note.specs.Lines.{ended}
use Rattle.feed_note.specs.Texts.{batch_text}
use Rattle.feed_note.specs.Written.{written, written_line, WrittenLineMeans}
use Rattle.feed_node.specs.Bounds.{is_full, is_large}
use Rattle.feed_node.proofs.Bounds.{full_before}
use Rattle.feed_node.specs.declared.fault.FeedFault.{FeedFault}
use Rattle.feed_node.specs.declared.fault.FeedFault.TheVariants.{StageFull}
use Rattle.feed_node.specs.Sent.{PublishesNothing}
use Rattle.feed_node.specs.States.{published_tables}
use Rattle.feed_node.specs.Staging.{StagingState, staging, with_changes, then_token, publishes, times_published, step, steps, AllTaken}
use Rattle.feed_node.proofs.TextLines.{AreShort}

-- the lines of a batch
abbrev pub batch_lines : List Change → List ℕ → List (List ℕ)
batch_lines [] token = []
batch_lines (c ∷ []) token = written_line c (Some token) ∷ []
batch_lines (c ∷ d ∷ cs) token = written_line c None ∷ batch_lines (d ∷ cs) token

-- and what they say
abbrev pub batch_notes : List Change → List ℕ → List Line
batch_notes [] token = []
batch_notes (c ∷ []) token = Note (c ∷ []) (Some token) ∷ []
batch_notes (c ∷ d ∷ cs) token = Note (c ∷ []) None ∷ batch_notes (d ∷ cs) token

pub ended-batch : (cs : List Change) (token : List ℕ)
    → ended (batch_lines cs token) ≡ batch_text cs token
ended-batch [] token = refl
ended-batch (c ∷ []) token = append-nil (written c (Some token))
ended-batch (c ∷ d ∷ cs) token = ap (λ t. written c None ++ t) (ended-batch (d ∷ cs) token)

pub length-batch_lines : (cs : List Change) (token : List ℕ)
    → length (batch_lines cs token) ≡ length cs
length-batch_lines [] token = refl
length-batch_lines (c ∷ []) token = refl
length-batch_lines (c ∷ d ∷ cs) token = ap suc (length-batch_lines (d ∷ cs) token)

pub batch_is_short : WrittenLineMeans → (cs : List Change) (token : List ℕ)
    → AllByRecursion IsChange cs → IsName token → AreShort line_bytes (batch_lines cs token)
batch_is_short means [] token h n = tt
batch_is_short means (c ∷ []) token h n =
    let l = means c (Some token) h.0 n in
    ((l.unbroken, l.size), tt)
batch_is_short means (c ∷ d ∷ cs) token h n =
    let l = means c None h.0 tt in
    ((l.unbroken, l.size), batch_is_short means (d ∷ cs) token h.1 n)

-- ---- taking lines

fits_by : (a b c : Bool) → a ≡ false → c ≡ false
    → ◌≡◌ {A = Option FeedFault} (if a || (b && c) then Some StageFull else None) None
fits_by true b c p r = absurd (cc)
fits_by false b true p r = absurd (cc)
fits_by false true false p r = refl
fits_by false false false p r = refl

pub taken_batch : WrittenLineMeans → (limits : Limits) (s : StagingState) (cs : List Change)
    (token : List ℕ) → AllByRecursion IsChange cs → IsName token
    → is_full limits (s.changes ++ cs) ≡ false
    → is_large limits (published_tables (step s (Note cs (Some token))).node.shown) ≡ false
    → AllTaken limits s (batch_lines cs token) (batch_notes cs token)
taken_batch means limits s [] token h n few small = tt
taken_batch means limits s (c ∷ []) token h n few small =
    let l = means c (Some token) h.0 n in
    let fits = fits_by _ (publishes s (Note (c ∷ []) (Some token))) _ few small in
    (record { short = l.size; means = l.means; fits = fits }, tt)
taken_batch means limits s (c ∷ d ∷ cs) token h n few small =
    let l = means c None h.0 tt in
    let whole : (s.changes ++ c ∷ []) ++ d ∷ cs ≡ s.changes ++ c ∷ d ∷ cs =
    append_assoc s.changes (c ∷ []) (d ∷ cs) in
    let more : is_full limits ((s.changes ++ c ∷ []) ++ d ∷ cs) ≡ false =
    subst (λ waiting. is_full limits waiting ≡ false) (sym whole) few in
    let less : is_full limits (s.changes ++ c ∷ []) ≡ false =
    full_before limits (s.changes ++ c ∷ []) (d ∷ cs) more in
    let fits = fits_by _ false _ less refl in
    let still : is_large limits (published_tables (step (staging s (c ∷ [])) (Note (d ∷ cs) (Some token))).node.shown)
    ≡ false =
    subst (λ waiting. is_large limits (published_tables (then_token (Some token) (with_changes s waiting)).node.shown)
    ≡ false) (sym whole) small in (
      record { short = l.size; means = l.means; fits = fits },
      taken_batch means limits (staging s (c ∷ [])) (d ∷ cs) token h.1 n more still,
    )

-- the last line does what one line that said all would
pub steps_batch : (s : StagingState) (cs : List Change) (token : List ℕ) → cs ≢ []
    → steps s (batch_notes cs token) ≡ step s (Note cs (Some token))
steps_batch s [] token some = absurd (some refl)
steps_batch s (c ∷ []) token some = refl
steps_batch s (c ∷ d ∷ cs) token some =
    steps_batch (staging s (c ∷ [])) (d ∷ cs) token (λ e. cc)
    ∙ ap (λ waiting. then_token (Some token) (with_changes s waiting))
    (append_assoc s.changes (c ∷ []) (d ∷ cs))

-- ---- tokens

pub count_batch : (s : StagingState) (cs : List Change) (token : List ℕ) → cs ≢ []
    → times_published s (batch_notes cs token) ≡ times_published s (Note cs (Some token) ∷ [])
count_batch s [] token some = absurd (some refl)
count_batch s (c ∷ []) token some = refl
count_batch s (c ∷ d ∷ cs) token some =
    let later : times_published (staging s (c ∷ [])) (batch_notes (d ∷ cs) token)
    ≡ times_published s (Note (c ∷ d ∷ cs) (Some token) ∷ []) =
    count_batch (staging s (c ∷ [])) (d ∷ cs) token (λ e. cc) in
    omega arith

-- before the last line nothing is published
pub part_of_batch : (s : StagingState) (cs : List Change) (token : List ℕ) (j : ℕ) → j < length cs
    → PublishesNothing s (take j (batch_notes cs token))
part_of_batch s [] token j h = absurd (omega arith)
part_of_batch s (c ∷ cs) token zero h = record { node = refl; afresh = refl; count = refl }
part_of_batch s (c ∷ []) token (suc j) h = absurd (omega arith)
part_of_batch s (c ∷ d ∷ cs) token (suc j) h =
    let later = part_of_batch (staging s (c ∷ [])) (d ∷ cs) token j (omega arith) in
    let none = later.count in
    record { node = later.node; afresh = later.afresh; count = omega arith }

-- ---- lists of lines

pub taken-append : (limits : Limits) (s : StagingState) (xs ys : List (List ℕ)) (ns ms : List Line)
    → AllTaken limits s xs ns → AllTaken limits (steps s ns) ys ms
    → AllTaken limits s (xs ++ ys) (ns ++ ms)
taken-append limits s [] ys [] ms h k = k
taken-append limits s [] ys (n ∷ ns) ms h k = absurd h
taken-append limits s (x ∷ xs) ys [] ms h k = absurd h
taken-append limits s (x ∷ xs) ys (n ∷ ns) ms h k =
    (h.0, taken-append limits (step s n) xs ys ns ms h.1 k)

pub taken-take : (limits : Limits) (j : ℕ) (s : StagingState) (xs : List (List ℕ)) (ns : List Line)
    → AllTaken limits s xs ns → AllTaken limits s (take j xs) (take j ns)
taken-take limits zero s xs ns h = tt
taken-take limits (suc j) s [] [] h = tt
taken-take limits (suc j) s [] (n ∷ ns) h = absurd h
taken-take limits (suc j) s (x ∷ xs) [] h = absurd h
taken-take limits (suc j) s (x ∷ xs) (n ∷ ns) h =
    (h.0, taken-take limits j (step s n) xs ns h.1)
