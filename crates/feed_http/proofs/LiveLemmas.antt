-- What a session is sent while its primary takes batches.
use Rattle.std.proofs.Common.{◌≡◌, refl, sym, ap, ◌∙◌, subst, ℕ, zero, suc, ◌+◌, ◌-◌, ◌<◌, ◌≤◌, Bool, true, false, true≢false, List, [], ◌∷◌, ◌++◌, length, take, drop, get_or, arith, inl, inr, Option, Some, None, append_assoc, append-nil, length-append, length-drop, length-take, map, cond, not, nat_lt, ◌&&◌}
use Rattle.std.specs.Prelude.{◌⊎◌, MatchOption, Vec, min, if◌then◌else◌, IfSome, slice_get}
use Rattle.std.specs.List.{prefix_len}
use Rattle.std.specs.Option.{option_and_then}
use Rattle.std.specs.Str.{bytes_eq}
use Rattle.std.specs.Io.KnownBytes.{Appends}
use Rattle.std.proofs.KnownBytes.{Appends-trans}
use Rattle.std.proofs.Math.ListN.{get_or-append}
use Rattle.std.proofs.lemmas.List.{get_or-drop}
use Rattle.std.proofs.lemmas.Option.{slice_get-get_or, slice_get_within}
use Rattle.std.proofs.lemmas.Bool.{cases_lt, cases_Bool, and_right}
use Rattle.std.proofs.lemmas.Bool.Decides.{nat_tests}
use Rattle.std.proofs.lemmas.Slice.Eq.{bytes_eq-Decides}
use Rattle.feed_settings.specs.Limits.{History}
use Rattle.feed_settings.specs.declared.framing.Framing.{Framing}
use Rattle.feed_changes.specs.declared.change.Change.{Change}
use Rattle.feed_tables.specs.Amounts.{changes_bytes}
use Rattle.feed_node.specs.Publishing.{Published}
use Rattle.feed_node.specs.declared.commit.Commit.{Commit}
use Rattle.feed_node.specs.Log.{PrimaryState, token_after}
use Rattle.feed_node.specs.Bounds.{passes}
use Rattle.feed_node.specs.Kept.{are_heavy, commits_bytes, many_within, kept_of, most_kept}
use Rattle.feed_node.specs.States.{NodeState, nothing_published, token_of, place_of, keep_last, HoldsItsTokens, IsConsistent}
use Rattle.feed_node.specs.Serving.{is_published, token_before, commit_text}
use Rattle.feed_answer.specs.Answered.{AnswersTo, parts_of, answer_to, answer_opened}
use Rattle.feed_wire.specs.Asked.{Asked, refused, feed, framing_for}
use Rattle.feed_wire.specs.Framed.{frame_end}
use Rattle.feed_answer.specs.Opening.{starts_behind, opens_from}
use Rattle.feed_answer.specs.Served.{farewell, behind_opening}
use Rattle.feed_http.specs.Device.{counted}
use Rattle.feed_http.specs.Sessions.{Nothing_new, Lost, next}
use Rattle.feed_http.specs.Serving.{HasAll, commit_frames}
use Rattle.feed_http.specs.Sending.{Sent, sent_none, sent_one, WroteCommits}
use Rattle.feed_http.specs.Live.{Intake, intake_of, Accepts, accepts_none, accepts_one, TakesTurn, batches_bytes, are_heavy_batches, left_behind, MayLoseTokens, HasSent, commit_sent, IsOver, SendsLive, IsCutShort}
use Rattle.feed_http.specs.Taking.{IsHeld}
use Rattle.feed_node.proofs.Bounds.{less_passes, over}
use Rattle.feed_node.proofs.Keeping.{tokens-length}
use Rattle.feed_node.proofs.Kept.{many_all}
use Rattle.feed_node.proofs.Latest.{drop-both}
use Rattle.feed_http.proofs.ServingLemmas.{next_moves, frames-append}
use Rattle.feed_http.proofs.RestLemmas.{new_is_published, last_is, never_lost}

-- ---- a turn

-- the next batch moves from those that remain to those that were taken
pub next_taken : (all earlier later : List (List Change)) (batch : List Change) (rest : List (List Change))
    → all ≡ earlier ++ later → later ≡ batch ∷ rest → all ≡ (earlier ++ batch ∷ []) ++ rest
next_taken all earlier later batch rest split e =
    split ∙ ap (λ l. earlier ++ l) e ∙ sym (append_assoc earlier (batch ∷ []) rest)

pub accepts_limits : (first : PrimaryState) (batches : List (List Change)) (now : PrimaryState)
    → Accepts first batches now → now.limits ≡ first.limits
accepts_limits first batches now accepts_none = refl
accepts_limits first batches now (accepts_one earlier primary batch run fine) = accepts_limits first earlier primary run

-- ---- a token stays held

-- the token before the last so many is kept, where so many are
keeps_one : (many_kept : ℕ) (held : List (List ℕ)) (last token : List ℕ) (place many : ℕ)
    → place + many + 1 ≡ length held → many + 1 ≤ many_kept → get_or held place [] ≡ token
    → (p : ℕ) × (p + (many + 1) + 1 ≡ length (keep_last (many_kept + 1) (held ++ last ∷ [])))
    × (get_or (keep_last (many_kept + 1) (held ++ last ∷ [])) p [] ≡ token)
keeps_one many_kept held last token place many at few is =
    let grown : length (held ++ last ∷ []) ≡ length held + 1 = length-append held (last ∷ []) in
    let dropped = length (held ++ last ∷ []) - (many_kept + 1) in
    let left : length (drop dropped (held ++ last ∷ [])) ≡ length (held ++ last ∷ []) - dropped = length-drop dropped (held ++ last ∷ []) in
    let same : dropped + (place - dropped) ≡ place = omega arith in
    let there : (place - dropped) + (many + 1) + 1 ≡ length (drop dropped (held ++ last ∷ [])) = omega arith in (
      place - dropped,
      there,
      get_or-drop dropped (held ++ last ∷ []) (place - dropped) [] ∙ ap (λ n. get_or (held ++ last ∷ []) n []) same
          ∙ get_or-append held (last ∷ []) [] place (omega arith) ∙ is,
    )

-- ---- what fits is kept

-- the changes of a commit
abbrev batch_of : Commit → List Change
batch_of commit = commit.changes

-- so are batches light that are fewer
light_part : (limit : Option ℕ) (batches : List (List Change)) (batch : List Change)
    → are_heavy_batches limit (batches ++ batch ∷ []) ≡ false → are_heavy_batches limit batches ≡ false
light_part limit batches batch light = by (nat_lt 1 (length batches)) refl
  where
    grown : length (batches ++ batch ∷ []) ≡ length batches + 1
    grown = length-append batches (batch ∷ [])

    less : (bs : List (List Change)) → batches_bytes bs ≤ batches_bytes (bs ++ batch ∷ [])
    less [] = omega arith
    less (b ∷ bs) = let later = less bs in omega arith

    both : (a b : Bool) → (a && b) ≡ false → a ≡ true → b ≡ false
    both true b e is = e
    both false b e is = absurd (true≢false (sym is))

    by : (many : Bool) → nat_lt 1 (length batches) ≡ many → are_heavy_batches limit batches ≡ false
    by false is = ap (λ m. m && passes limit (batches_bytes batches)) is
    by true is =
        let some : 1 < length batches = grind (arith, nat_tests) in
        let fits = both (nat_lt 1 (length (batches ++ batch ∷ []))) (passes limit (batches_bytes (batches ++ batch ∷ []))) light
        (sym (over 1 (length (batches ++ batch ∷ [])) (omega (arith, grown, some)))) in
        ap (λ b. nat_lt 1 (length batches) && b) (less_passes limit (batches_bytes batches) (batches_bytes (batches ++ batch ∷ [])) (less batches) fits)
        ∙ and_right (nat_lt 1 (length batches)) false refl

-- commits are as heavy as their batches
many_same : (cs : List Commit) (batches : List (List Change)) → map batch_of cs ≡ batches → length cs ≡ length batches
many_same [] batches e = ap length e
many_same (c ∷ cs) batches e = ap suc (many_same cs (map batch_of cs) refl) ∙ ap length e

bytes_same : (cs : List Commit) (batches : List (List Change)) → map batch_of cs ≡ batches → commits_bytes cs ≡ batches_bytes batches
bytes_same [] batches e = ap batches_bytes e
bytes_same (c ∷ cs) batches e = ap (λ n. changes_bytes c.changes + n) (bytes_same cs (map batch_of cs) refl) ∙ ap batches_bytes e

heavy_same : (limit : Option ℕ) (cs : List Commit) (batches : List (List Change)) → map batch_of cs ≡ batches
    → are_heavy limit cs ≡ are_heavy_batches limit batches
unfolding are_heavy
heavy_same limit cs batches e =
    ap (λ n. nat_lt 1 n && passes limit (commits_bytes cs)) (many_same cs batches e)
    ∙ ap (λ n. nat_lt 1 (length batches) && passes limit n) (bytes_same cs batches e)

-- the latest are kept, whatever is before them, where they fit
fits_behind : (most : ℕ) (before cs : List Commit) → are_heavy (Some most) cs ≡ false
    → length cs ≤ many_within most (before ++ cs)
fits_behind most [] cs light = let all = many_all most cs light in omega arith
fits_behind most (c ∷ before) cs light = by (are_heavy (Some most) (c ∷ before ++ cs)) (fits_behind most before cs light)
  where
    by : (b : Bool) → length cs ≤ many_within most (before ++ cs)
        → length cs ≤ (if b then many_within most (before ++ cs) else suc (length (before ++ cs)))
    by true fits = fits
    by false fits = let long = length-append before cs in omega arith

kept_behind : (history : History) (before cs : List Commit) → length cs ≤ history.commits
    → are_heavy history.bytes cs ≡ false → length cs ≤ most_kept history (before ++ cs)
kept_behind history before cs few light = by history.bytes light
  where
    by : (bytes : Option ℕ) → are_heavy bytes cs ≡ false → length cs ≤ kept_of history.commits bytes (before ++ cs)
    by None e = few
    by (Some most) e = let fits = fits_behind most before cs e in omega arith

-- commits of these batches are kept, and are the latest
record KeepsLatest (batches : List (List Change)) (kept : List Commit) : Type 0 where
  pub before : List Commit
  pub latest : List Commit
  pub kept_is : kept ≡ before ++ latest
  pub are : map batch_of latest ≡ batches

are_more : (cs : List Commit) (batches : List (List Change)) (c : Commit) → map batch_of cs ≡ batches
    → map batch_of (cs ++ c ∷ []) ≡ batches ++ c.changes ∷ []
are_more [] batches c e = ap (λ l. l ++ c.changes ∷ []) e
are_more (d ∷ cs) batches c e = ap (λ l. d.changes ∷ l) (are_more cs (map batch_of cs) c refl) ∙ ap (λ l. l ++ c.changes ∷ []) e

keeps_more : (many : ℕ) (batches : List (List Change)) (kept : List Commit) (c : Commit) (keeps : KeepsLatest batches kept)
    → length (keeps.latest ++ c ∷ []) ≤ many → KeepsLatest (batches ++ c.changes ∷ []) (keep_last many (kept ++ c ∷ []))
keeps_more many batches kept c keeps enough =
    let whole : kept ++ c ∷ [] ≡ keeps.before ++ (keeps.latest ++ c ∷ []) =
    ap (λ l. l ++ c ∷ []) keeps.kept_is ∙ append_assoc keeps.before keeps.latest (c ∷ []) in
    let long : length (keeps.before ++ (keeps.latest ++ c ∷ [])) ≡ length keeps.before + length (keeps.latest ++ c ∷ []) =
    length-append keeps.before (keeps.latest ++ c ∷ []) in
    let dropped = length (keeps.before ++ (keeps.latest ++ c ∷ [])) - many in
    record {
      before = drop dropped keeps.before;
      latest = keeps.latest ++ c ∷ [];
      kept_is = ap (keep_last many) whole ∙ sym (drop-both dropped keeps.before (keeps.latest ++ c ∷ []) (omega arith));
      are = are_more keeps.latest batches c keeps.are;
    }

-- the last token is held behind batches that fit together into what is kept
turn_holds : (first : PrimaryState) (batches : List (List Change)) (now : PrimaryState) (token : List ℕ) (last : ℕ)
    → Accepts first batches now → last + 1 ≡ length first.node.held → get_or first.node.held last [] ≡ token
    → length batches ≤ first.limits.history.commits → are_heavy_batches first.limits.history.bytes batches ≡ false
    → ((p : ℕ) × (p + length batches + 1 ≡ length now.node.held) × (get_or now.node.held p [] ≡ token)) × KeepsLatest batches now.node.kept
turn_holds first batches now token last accepts_none many is few light =
    ((last, omega arith, is), record { before = first.node.kept; latest = []; kept_is = sym (append-nil first.node.kept); are = refl })
turn_holds first batches now token last (accepts_one earlier primary batch run fine) many is few light =
    let grown : length (earlier ++ batch ∷ []) ≡ length earlier + 1 = length-append earlier (batch ∷ []) in
    let ((p, at, here), keeps) = turn_holds first earlier primary token last run many is (omega arith) (light_part first.limits.history.bytes earlier batch light) in
    let limits : primary.limits.history ≡ first.limits.history = ap (λ l. l.history) (accepts_limits first earlier primary run) in
    let commits = ap (λ h. h.commits) limits in
    let c : Commit = record { changes = batch; token = token_after (primary.count + 1) } in
    let cs = primary.node.kept ++ c ∷ [] in
    let whole : cs ≡ keeps.before ++ (keeps.latest ++ c ∷ []) =
    ap (λ l. l ++ c ∷ []) keeps.kept_is ∙ append_assoc keeps.before keeps.latest (c ∷ []) in
    let are = are_more keeps.latest earlier c keeps.are in
    let long : length (keeps.latest ++ c ∷ []) ≡ length (earlier ++ batch ∷ []) = many_same (keeps.latest ++ c ∷ []) (earlier ++ batch ∷ []) are in
    let light_now : are_heavy primary.limits.history.bytes (keeps.latest ++ c ∷ []) ≡ false =
    ap (λ (h : History). are_heavy h.bytes (keeps.latest ++ c ∷ [])) limits ∙ heavy_same first.limits.history.bytes (keeps.latest ++ c ∷ []) (earlier ++ batch ∷ []) are ∙ light in
    let enough : length (keeps.latest ++ c ∷ []) ≤ most_kept primary.limits.history cs =
    subst (λ l. length (keeps.latest ++ c ∷ []) ≤ most_kept primary.limits.history l) (sym whole)
    (kept_behind primary.limits.history keeps.before (keeps.latest ++ c ∷ []) (omega arith) light_now) in
    let (q, there, found) = keeps_one (most_kept primary.limits.history cs) primary.node.held (token_after (primary.count + 1)) token p (length earlier) at (omega arith) here in
    ((q, omega arith, found), keeps_more (most_kept primary.limits.history cs) earlier primary.node.kept c keeps enough)

first_within : (p : List ℕ → Bool) (xs : List (List ℕ)) (k : ℕ) → k < length xs
    → p (get_or xs k []) ≡ true → prefix_len (λ x. not (p x)) xs ≤ k
first_within p [] k within here = absurd (omega arith)
first_within p (x ∷ xs) zero within here = rw here (omega arith)
first_within p (x ∷ xs) (suc k) within here = elim (cases_Bool (p x)) [
  | inl is ↦ rw is (omega arith)
  | inr other ↦ (let more = first_within p xs k (omega arith) here in rw other (omega arith))
]

-- what stands among the held tokens is held
pub placed : (node : NodeState) (token : List ℕ) (k : ℕ) → k < length node.held
    → get_or node.held k [] ≡ token → IsHeld node token
placed node token k within here =
    let early = first_within (λ x. bytes_eq x token) node.held k within ((bytes_eq-Decides (get_or node.held k []) token).1 here) in
    is_there (prefix_len (λ x. not (bytes_eq x token)) node.held) early
  where
    is_there : (n : ℕ) → n ≤ k → (place : ℕ) × (cond (nat_lt n (length node.held)) (Some n) None ≡ Some place)
    is_there n early =
        let less : n < length node.held = omega arith in
        let test : nat_lt n (length node.held) ≡ true = grind (arith, nat_tests) in
        (n, ap (λ b. cond b (Some n) None) test)

-- where nothing is new, the session's token is the last of those that are held
newest_at : (node : NodeState) (token : List ℕ) (o : Option Published)
    → MatchOption o (node ≡ nothing_published) (HoldsItsTokens node) → is_published (token_of o) token ≡ true
    → (k : ℕ) × (k + 1 ≡ length node.held) × (get_or node.held k [] ≡ token)
newest_at node token None h e = absurd (true≢false (sym e))
newest_at node token (Some p) h e =
    let many : length node.held ≡ suc (length node.kept) = ap length h.held ∙ ap suc (tokens-length node.kept) in
    (length node.kept, omega arith, last_is node p h ∙ (bytes_eq-Decides p.token token).0 e)

newest : (node : NodeState) (token : List ℕ) → IsConsistent node → next node token ≡ Nothing_new
    → (k : ℕ) × (k + 1 ≡ length node.held) × (get_or node.held k [] ≡ token)
newest node token consistent new = newest_at node token node.published consistent (new_is_published node token new)

-- a session that is sent commits stays at a held token
pub sent_held : (node : NodeState) (start to : List ℕ) (sent : List Commit) → IsConsistent node
    → Sent node start sent to → IsHeld node start → IsHeld node to
sent_held node start to sent consistent (sent_none _) held = held
sent_held node start to sent consistent (sent_one _ token earlier commit run e) held =
    let moves = next_moves node token commit consistent e in
    (moves.place + 1, moves.behind)

-- the batches of a turn are more than are kept, or have more bytes
abbrev HasTooMuch : ℕ → Intake → Type 0
HasTooMuch turn before =
    (before.primary.limits.history.commits < length (take turn before.batches))
    ⊎ (are_heavy_batches before.primary.limits.history.bytes (take turn before.batches) ≡ true)

-- and so it does where a turn is taken, if all of that is kept
turn_keeps : (turn : ℕ) (before now : Intake) (token : List ℕ) → IsConsistent before.primary.node
    → next before.primary.node token ≡ Nothing_new → TakesTurn turn before now
    → HasTooMuch turn before ⊎ IsHeld now.primary.node token
turn_keeps turn before now token consistent new takes =
    elim (cases_lt before.primary.limits.history.commits (length (take turn before.batches))) [
      | inl long ↦ inl (inl long)
      | inr few ↦ by few (are_heavy_batches before.primary.limits.history.bytes (take turn before.batches)) refl
    ]
  where
    by : length (take turn before.batches) ≤ before.primary.limits.history.commits → (heavy : Bool)
        → are_heavy_batches before.primary.limits.history.bytes (take turn before.batches) ≡ heavy
        → HasTooMuch turn before ⊎ IsHeld now.primary.node token
    by few true heavy = inl (inr heavy)
    by few false light =
        let (k, last, is) = newest before.primary.node token consistent new in
        let ((p, at, here), keeps) = turn_holds before.primary (take turn before.batches) now.primary token k takes.accepted last is few light in
        inr (placed now.primary.node token p (omega arith) here)

-- ---- the turns so far

-- so many turns were taken since the start
pub record IsBehindTurns (turn : ℕ) (start before : Intake) : Type 0 where
  pub turns : ℕ
  pub left : before.batches ≡ left_behind turn turns start.batches

left_fewer : (turn turns : ℕ) (batches : List (List Change)) → length (left_behind turn turns batches) ≤ length batches
left_fewer turn zero batches = omega arith
left_fewer turn (suc turns) batches =
    let earlier = left_fewer turn turns batches in
    let dropped = length-drop turn (left_behind turn turns batches) in
    omega arith

pub one_turn_more : (turn : ℕ) (start before now : Intake) → IsBehindTurns turn start before → TakesTurn turn before now → IsBehindTurns turn start now
one_turn_more turn start before now behind takes =
    record { turns = suc behind.turns; left = takes.left ∙ ap (drop turn) behind.left }

-- a turn that has too much has it at its place since the start
long_since : (turn : ℕ) (start before : Intake) → before.primary.limits ≡ start.primary.limits
    → IsBehindTurns turn start before → HasTooMuch turn before → MayLoseTokens turn start
long_since turn start before limits behind (inl long) =
    let same : before.primary.limits.history.commits ≡ start.primary.limits.history.commits = ap (λ l. l.history.commits) limits in
    let many : length (take turn before.batches) ≡ min turn (length before.batches) = length-take turn before.batches in
    let fewer = left_fewer turn behind.turns start.batches in
    let left : length before.batches ≡ length (left_behind turn behind.turns start.batches) = ap length behind.left in
    inl (omega arith, omega arith)
long_since turn start before limits behind (inr heavy) =
    inr (
      behind.turns,
      ap (λ l. are_heavy_batches l.history.bytes (take turn (left_behind turn behind.turns start.batches))) (sym limits)
          ∙ ap (λ l. are_heavy_batches before.primary.limits.history.bytes (take turn l)) (sym behind.left) ∙ heavy,
    )

-- what stays true of the session's token from one turn to the next
pub held_on : (turn : ℕ) (start before now : Intake) (token to : List ℕ) (sent : List Commit)
    → before.primary.limits ≡ start.primary.limits → IsBehindTurns turn start before
    → IsConsistent before.primary.node → Sent before.primary.node token sent to
    → next before.primary.node to ≡ Nothing_new → TakesTurn turn before now
    → MayLoseTokens turn start ⊎ IsHeld before.primary.node token
    → MayLoseTokens turn start ⊎ IsHeld now.primary.node to
held_on turn start before now token to sent limits behind consistent run new takes (inl long) = inl long
held_on turn start before now token to sent limits behind consistent run new takes (inr held) =
    elim (turn_keeps turn before now to consistent new takes) [
      | inl long ↦ inl (long_since turn start before limits behind long)
      | inr kept ↦ inr kept
    ]

-- only a turn that has too much loses the token
pub lost_late : (turn : ℕ) (start before : Intake) (token to : List ℕ) (sent : List Commit)
    → IsConsistent before.primary.node → Sent before.primary.node token sent to
    → next before.primary.node to ≡ Lost → MayLoseTokens turn start ⊎ IsHeld before.primary.node token
    → MayLoseTokens turn start
lost_late turn start before token to sent consistent run e (inl long) = long
lost_late turn start before token to sent consistent run e (inr held) =
    let (k, place) = sent_held before.primary.node token to sent consistent run held in
    absurd (never_lost before.primary.node to k consistent place e)

-- ---- what was sent

pub sent_on : (turn : ℕ) (start : Intake) (opened : List ℕ) (earlier : List Commit) (now : Intake) (token to : List ℕ) (sent : List Commit)
    → HasSent turn start opened earlier now token → Sent now.primary.node token sent to
    → HasSent turn start opened (earlier ++ sent) now to
sent_on turn start opened earlier now token to sent run (sent_none _) =
    subst (λ l. HasSent turn start opened l now token) (sym (append-nil earlier)) run
sent_on turn start opened earlier now token to sent run (sent_one _ middle before commit rest e) =
    subst (λ l. HasSent turn start opened l now commit.token) (append_assoc earlier before (commit ∷ []))
    (commit_sent (earlier ++ before) now middle commit (sent_on turn start opened earlier now token middle before run rest) e)

-- the frames of what was sent before, and of what was sent now
pub frames_on : (framing : Framing) (earlier sent : List Commit) (old middle new : Option (List ℕ))
    → Appends old middle (commit_frames framing earlier) → Appends middle new (commit_frames framing sent)
    → Appends old new (commit_frames framing (earlier ++ sent))
frames_on framing earlier sent old middle new wrote more =
    subst (Appends old new) (sym (frames-append framing earlier sent))
    (Appends-trans old middle new (commit_frames framing earlier) (commit_frames framing sent) wrote more)

-- sending was cut short
pub cut_short : (turn : ℕ) (start : Intake) (opened : List ℕ) (earlier : List Commit) (now : Intake) (token : List ℕ) (framing : Framing) (old middle new : Option (List ℕ))
    → HasSent turn start opened earlier now token → Appends old middle (commit_frames framing earlier)
    → WroteCommits now.primary.node token framing middle new
    → (text : List ℕ) × IsCutShort turn start opened framing now text × Appends old new text
cut_short turn start opened earlier now token framing old middle new run wrote w = (
  commit_frames framing earlier ++ (commit_frames framing w.sent ++ w.begun),
  record {
    sent = earlier ++ w.sent;
    token = w.token;
    has_sent = sent_on turn start opened earlier now token w.token w.sent run w.run;
    begun = w.begun;
    begins = inl w.begins;
    text_is = sym (append_assoc (commit_frames framing earlier) (commit_frames framing w.sent) w.begun)
        ∙ ap (λ t. t ++ w.begun) (sym (frames-append framing earlier w.sent));
  },
  Appends-trans old middle new (commit_frames framing earlier) (commit_frames framing w.sent ++ w.begun) wrote w.wrote,
)

-- the end was cut short
pub end_cut_short : (turn : ℕ) (start : Intake) (opened : List ℕ) (sent : List Commit) (now : Intake) (token : List ℕ) (framing : Framing) (gone : Bool) (prefix rest : List ℕ)
    → HasSent turn start opened sent now token → IsOver now token gone
    → farewell framing gone ++ frame_end framing ≡ prefix ++ rest
    → IsCutShort turn start opened framing now (commit_frames framing sent ++ prefix)
end_cut_short turn start opened sent now token framing gone prefix rest run over split = record {
  sent = sent;
  token = token;
  has_sent = run;
  begun = prefix;
  begins = inr (gone, rest, over, split);
  text_is = refl;
}

-- no batch waits where there is no vector
pub none_left : {A : Type 0} (primary : PrimaryState) (input : List (Vec Change A)) → length input ≡ 0 → (intake_of primary input).batches ≡ []
none_left primary [] e = refl
none_left primary (x ∷ input) e = absurd (omega arith)

-- all was sent
pub all_lost : (node m : NodeState) (token : List ℕ) (gone : Bool) → node ≡ m → gone ≡ true → HasAll node token gone → next m token ≡ Lost
all_lost node m token gone same is all = subst (λ n. next n token ≡ Lost) same (subst (HasAll node token) is all)

pub all_new : (node m : NodeState) (token : List ℕ) (gone : Bool) → node ≡ m → gone ≡ false → HasAll node token gone → next m token ≡ Nothing_new
all_new node m token gone same is all = subst (λ n. next n token ≡ Nothing_new) same (subst (HasAll node token) is all)

-- ---- an answer

pub sends_live : (turn : ℕ) (start now : Intake) (status : ℕ) (framing : Framing) (text opened token : List ℕ) (sent : List Commit) (gone : Bool) (count : ℕ) (old middle between new : Option (List ℕ))
    → HasSent turn start opened sent now token → IsOver now token gone → count ≡ counted 0 (length sent)
    → Appends old middle text → Appends middle between (commit_frames framing sent)
    → Appends between new (farewell framing gone ++ frame_end framing)
    → (all : List ℕ) × SendsLive turn start (parts_of status framing text (Some opened)) all (record { status = status; commits = count; gone = gone }) now × Appends old new all
sends_live turn start now status framing text opened token sent gone count old middle between new run over is wrote frames end = (
  text ++ behind_opening framing (map commit_text sent) gone,
  record { sent = sent; gone = gone; sends = (token, run, over); text_is = refl; tells = record { status = refl; commits = is; gone_is = refl } },
  Appends-trans old middle new text (behind_opening framing (map commit_text sent) gone) wrote
      (Appends-trans middle between new (commit_frames framing sent) (farewell framing gone ++ frame_end framing) frames end),
)

-- the token so many places before a held one is held
before_held : (node : NodeState) (back : ℕ) (asked token : List ℕ)
    → token_before node back asked ≡ Some token → IsHeld node token
before_held node back asked token e = by (place_of node asked) refl
  where
    before : Option ℕ → Option (List ℕ)
    before place = option_and_then (λ k. slice_get node.held (k - back)) place

    by : (place : Option ℕ) → place_of node asked ≡ place → IsHeld node token
    by None f = let none : ◌≡◌ {A = Option (List ℕ)} None (Some token) = sym (ap before f) ∙ e in absurd (cc)
    by (Some place) f =
        let found : slice_get node.held (place - back) ≡ Some token = sym (ap before f) ∙ e in
        let within : place - back < length node.held = slice_get_within node.held (place - back) token found in
        let stands = slice_get-get_or node.held (place - back) [] within in
        let both : Some (get_or node.held (place - back) []) ≡ Some token = sym stands ∙ found in
        let same : get_or node.held (place - back) [] ≡ token = cc in
        placed node token (place - back) within same

-- the session of an answer begins at a token that is held
starts_so : (framing : Framing) (o : Option (List ℕ)) (token : List ℕ)
    → (answer_opened framing (starts_behind o)).session ≡ Some token → o ≡ Some token
starts_so framing None token e = let none : ◌≡◌ {A = Option (List ℕ)} None (Some token) = e in absurd (cc)
starts_so framing (Some t) token e = e

begins_held : (node : NodeState) (framing : Framing) (back : ℕ) (o : Option Published) (since : Option (List ℕ)) (token : List ℕ)
    → MatchOption o (node ≡ nothing_published) (HoldsItsTokens node)
    → (answer_opened framing (opens_from node back o since)).session ≡ Some token → IsHeld node token
begins_held node framing back None since token h e = let none : ◌≡◌ {A = Option (List ℕ)} None (Some token) = e in absurd (cc)
begins_held node framing back (Some p) None token h e =
    let is : ◌≡◌ {A = Option (List ℕ)} (Some p.token) (Some token) = e in
    let same : p.token ≡ token = cc in
    let many : length node.held ≡ suc (length node.kept) = ap length h.held ∙ ap suc (tokens-length node.kept) in
    placed node token (length node.kept) (omega arith) (last_is node p h ∙ same)
begins_held node framing back (Some p) (Some asked) token h e =
    before_held node back asked token (starts_so framing (token_before node back asked) token e)

held_by : (asked : Asked) (node : NodeState) (framing : Framing) (back : ℕ) (token : List ℕ) → IsConsistent node
    → (answer_to asked node framing back).session ≡ Some token → IsHeld node token
held_by (refused refusal) node framing back token consistent e = let none : ◌≡◌ {A = Option (List ℕ)} None (Some token) = e in absurd (cc)
held_by (feed minor since) node framing back token consistent e = begins_held node (framing_for minor framing) back node.published since token consistent e

pub opened_held : (head contest : List ℕ) (node m : NodeState) (framing : Framing) (back : ℕ) (status : ℕ) (with_framing : Framing) (text : List ℕ) (session : Option (List ℕ))
    → AnswersTo head contest node framing back (parts_of status with_framing text session) → node ≡ m → IsConsistent m
    → IfSome session (λ token. IsHeld m token)
opened_held head contest node m framing back status with_framing text None answers same consistent = tt
opened_held head contest node m framing back status with_framing text (Some token) answers same consistent =
    subst (λ n. IsHeld n token) same
    (held_by answers.asked node framing back token (subst IsConsistent (sym same) consistent) (sym (ap (λ a. a.session) answers.answer_is)))
