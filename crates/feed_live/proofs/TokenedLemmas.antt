-- A feed that has a token on each line tells the log of its lines.
use Rattle.std.proofs.Common.{◌≡◌, ◌≢◌, refl, sym, ap, ◌∙◌, subst, ℕ, zero, suc, ◌+◌, ◌<◌, ◌≤◌, Bool, true, false, arith, List, [], ◌∷◌, ◌++◌, append-nil, length, map, Some, None, nat_lt, ltb-true, ltb-false}
use Rattle.std.specs.Prelude.{get_or, AllPairs}
use Rattle.std.specs.List.{AllByRecursion}
use Rattle.feed_changes.specs.declared.change.Change.{Change}
use Rattle.feed_changes.specs.Changes.{IsChange}
use Rattle.feed_changes.specs.Names.{IsName}
use Rattle.feed_note.specs.declared.line.Line.{Line}
use Rattle.feed_note.specs.declared.line.Line.TheVariants.{Note}
use Rattle.feed_note.specs.Lines.{HasNoLineFeed, IsCutInto, LinesAreTheOnlyCut, lines, ended}
use Rattle.feed_note.specs.Written.{WrittenLineMeans, written, written_line}
use Rattle.feed_world.specs.Log.{Log, IsNamed, changes_of_commit}
use Rattle.feed_world.specs.Telling.{Tells}
use Rattle.feed_live.specs.Telling.{AreMeant, MeaningTells, ToldIsHonest, tokened_text, tokened_log, AreEntries, TokenedIsHonest}

abbrev Entry : Type 0
Entry = Change × List ℕ

-- ---- its lines

abbrev lines_of : List Entry → List (List ℕ)
lines_of entries = map (λ e. written_line e.0 (Some e.1)) entries

abbrev notes_of : List Entry → List Line
notes_of entries = map (λ e. Note (e.0 ∷ []) (Some e.1)) entries

text_is : (entries : List Entry) → tokened_text entries ≡ ended (lines_of entries)
text_is [] = refl
text_is (e ∷ entries) = ap (λ t. written e.0 (Some e.1) ++ t) (text_is entries)

unbroken : WrittenLineMeans → (entries : List Entry) → AllByRecursion (λ e. IsChange e.0) entries → AllByRecursion (λ e. IsName e.1) entries → AllByRecursion HasNoLineFeed (lines_of entries)
unbroken law [] c n = tt
unbroken law (e ∷ entries) c n = ((law e.0 (Some e.1) c.0 n.0).unbroken, unbroken law entries c.1 n.1)

are_meant : WrittenLineMeans → (entries : List Entry) → AllByRecursion (λ e. IsChange e.0) entries → AllByRecursion (λ e. IsName e.1) entries → AreMeant (lines_of entries) (notes_of entries)
are_meant law [] c n = tt
are_meant law (e ∷ entries) c n = ((law e.0 (Some e.1) c.0 n.0).means, are_meant law entries c.1 n.1)

none_left : HasNoLineFeed []
none_left = search

-- ---- its tokens

named_at : (entries : List Entry) → AllByRecursion (λ e. IsName e.1) entries → (k : ℕ) → k < length entries → IsName (get_or (map (λ e. e.1) entries) k [])
named_at [] n k less = absurd (omega arith)
named_at (e ∷ entries) n zero less = n.0
named_at (e ∷ entries) n (suc k) less = named_at entries n.1 k (omega arith)

as_many : {X : Type 0} (f : Entry → X) (entries : List Entry) → length (map f entries) ≡ length entries
as_many f [] = refl
as_many f (e ∷ entries) = ap suc (as_many f entries)

apart : (xs : List (List ℕ)) → AllPairs (λ x y. x ≢ y) xs → (m n : ℕ) → m < length xs → n < length xs → get_or xs m [] ≡ get_or xs n [] → m ≡ n
apart xs distinct m n a b e = by (nat_lt m n) refl (nat_lt n m) refl
  where
    by : (x : Bool) → nat_lt m n ≡ x → (y : Bool) → nat_lt n m ≡ y → m ≡ n
    by true f y g = absurd (distinct m n [] (ltb-true m n f) b e)
    by false f true g = absurd (distinct n m [] (ltb-true n m g) a (sym e))
    by false f false g = let p = ltb-false m n f in let q = ltb-false n m g in omega (arith, p, q)

is_named : (entry : Entry) (entries : List Entry) → AreEntries (entry ∷ entries) → IsNamed (tokened_log entry entries)
is_named entry entries are =
    let many = as_many (λ e. e.0 ∷ []) entries in
    let tokens = as_many (λ e. e.1) entries in
    record {
      names = λ k h. named_at (entry ∷ entries) are.names k (omega (arith, h, many));
      distinct = λ m n a b e. apart (map (λ e. e.1) (entry ∷ entries)) are.distinct m n (omega (arith, a, many, tokens)) (omega (arith, b, many, tokens)) e;
    }

-- ---- what it tells

-- the commit after this number is that of this entry
abbrev Comes : Log → ℕ → Entry → Type 0
Comes log k e = (changes_of_commit log (suc k) ≡ e.0 ∷ []) × (log.token (suc k) ≡ e.1)

tells_on : (log : Log) (entries : List Entry) (k : ℕ) → ((i : ℕ) (d : Entry) → i < length entries → Comes log (k + i) (get_or entries i d)) → k + length entries ≤ length log.commits
    → Tells log false k [] (notes_of entries)
tells_on log [] k comes fits = tt
tells_on log (e ∷ entries) k comes fits =
    let here : k + 0 ≡ k = omega arith in
    let first = subst (λ n. Comes log n e) here (comes 0 e (omega arith)) in (
      (omega arith, sym first.1, sym first.0),
      tells_on log entries (suc k) (λ i d less.
          let next : k + suc i ≡ suc k + i = omega arith in
          subst (λ n. Comes log n (get_or entries i d)) next (comes (suc i) d (omega (arith, less)))) (omega arith),
    )

at_its_place : (entry : Entry) (entries : List Entry) (i : ℕ) (d : Entry) → i < length entries → Comes (tokened_log entry entries) i (get_or entries i d)
at_its_place entry [] i d less = absurd (omega arith)
at_its_place entry (e ∷ entries) zero d less = (refl, refl)
at_its_place entry (e ∷ entries) (suc i) d less = at_its_place entry entries i d (omega arith)

tells_all : (entry : Entry) (entries : List Entry) → Tells (tokened_log entry entries) true 0 [] (notes_of (entry ∷ entries))
tells_all entry entries =
    let many = as_many (λ e. e.0 ∷ []) entries in (
      (omega arith, refl, refl),
      tells_on (tokened_log entry entries) entries 0 (λ i d less.
          let same : i ≡ 0 + i = omega arith in
          subst (λ n. Comes (tokened_log entry entries) n (get_or entries i d)) same (at_its_place entry entries i d less)) (omega (arith, many)),
    )

pub tokened_is_honest : LinesAreTheOnlyCut → WrittenLineMeans → MeaningTells → ToldIsHonest → TokenedIsHonest
tokened_is_honest cut law meaning told limits entry entries begun are opens =
    let all = entry ∷ entries in
    let log = tokened_log entry entries in
    let text = tokened_text all in
    let is_cut : IsCutInto text (lines_of all) [] =
    record { whole = unbroken law all are.changes are.names; part = none_left; text = text_is all ∙ sym (append-nil (ended (lines_of all))) } in
    let its_lines : lines_of all ≡ lines text = (cut text (lines_of all) [] is_cut).0 in
    told limits log None true 0 begun text (is_named entry entries are) tt (λ e. let no : true ≡ false = e in absurd (cc)) opens
    (meaning log true 0 text (notes_of all) (subst (λ ls. AreMeant ls (notes_of all)) its_lines (are_meant law all are.changes are.names)) (tells_all entry entries))
