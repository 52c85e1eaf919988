-- The two lines of a server whose tokens are no numbers, as a replay: the log begins where it ends.
use Rattle.std.proofs.Common.{◌≡◌, refl, sym, ap, ◌∙◌, subst, ℕ, ◌+◌, ◌-◌, ◌≤◌, Bool, false, arith, List, [], ◌∷◌, ◌++◌, append-nil, length, length-append, drop}
use Rattle.std.specs.Prelude.{codes, is_some, position, if◌then◌else◌}
use Rattle.std.specs.Str.{bytes_eq}
use Rattle.std.proofs.lemmas.List.{length-drop}
use Rattle.feed_settings.specs.Limits.{Limits, History}
use Rattle.feed_text.specs.Limits.{line_bytes}
use Rattle.feed_note.specs.declared.line.Line.{Line}
use Rattle.feed_note.specs.Lines.{lines, rest, ended}
use Rattle.feed_node.specs.declared.commit.Commit.{Commit}
use Rattle.feed_node.specs.Kept.{most_kept}
use Rattle.feed_node.specs.Mirroring.{first_opening}
use Rattle.feed_node.specs.Reading.{Opening, AllGood, AllGoodAfter, reads, shows}
use Rattle.feed_node.specs.Steps.{ReadingIsOne}
use Rattle.feed_live.proofs.TellingLemmas.{lines_begin}
use Rattle.feed_live.specs.Examples.{one, other, text, notes, replayed, TheirReplayEnds}
use Rattle.feed_live.specs.Upstream.{IsOfLog}

-- ---- what is published

abbrev first : Commit
first = record { changes = one.0 ∷ []; token = codes "cds7" }

abbrev second : Commit
second = record { changes = other.0 ∷ []; token = codes "cds1495" }

-- the second token is not held when it comes
abbrev holds : ℕ → Bool
holds d = is_some (position (λ held. bytes_eq held (codes "cds1495")) (drop d (codes "cds7" ∷ [])))

not_held : (h : ℕ) → holds (1 - (h + 1)) ≡ false
not_held h =
    let none : 0 ≡ 1 - (h + 1) = omega arith in
    subst (λ d. holds d ≡ false) none refl

published : (h : History) → IsOfLog replayed (reads h first_opening notes).published
published h =
    let is : (reads h first_opening notes).published ≡ (shows first_opening (first ∷ second ∷ [])).published =
    ap (λ c. (shows first_opening (if c then first ∷ [] else first ∷ second ∷ [])).published) (not_held (most_kept h [])) in
    subst (IsOfLog replayed) (sym is) (0, omega arith, refl)

-- ---- nothing is wrong with any prefix

good_first : (limits : Limits) (opening : Opening) (earlier : List Line) (xs ys : List (List ℕ)) (notes : List Line)
    → AllGoodAfter limits opening earlier (xs ++ ys) notes → (ns : List Line) × AllGoodAfter limits opening earlier xs ns
good_first limits opening earlier [] ys notes h = ([], tt)
good_first limits opening earlier (x ∷ xs) ys [] h = absurd h
good_first limits opening earlier (x ∷ xs) ys (n ∷ notes) h = let later = good_first limits opening (earlier ++ n ∷ []) xs ys notes h.1 in (n ∷ later.0, (h.0, later.1))

short_rest : (prefix behind : List ℕ) → prefix ++ behind ≡ text → length (rest prefix) ≤ line_bytes
unfolding rest
short_rest prefix behind whole =
    let drops = length-drop (length (ended (lines prefix))) prefix in
    let both = length-append prefix behind in
    let all : length (prefix ++ behind) ≡ length text = ap length whole in
    let few : length text ≤ line_bytes = omega arith in
    omega (arith, drops, both, all, few)

pub their_replay_ends : ReadingIsOne → TheirReplayEnds
their_replay_ends one_reading limits good =
    record {
      read = λ prefix behind whole.
          let b = lines_begin prefix behind in
          let split : lines text ≡ lines prefix ++ b.0 = sym (b.1 ∙ ap lines whole) in
          let g = good_first limits first_opening [] (lines prefix) b.0 notes (subst (λ ls. AllGood limits first_opening ls notes) split good) in
          (g.0, record { good = g.1; short = short_rest prefix behind whole });
      ends = λ others read.
          subst (λ ns. IsOfLog replayed (reads limits.history first_opening ns).published)
          (one_reading.notes limits first_opening text notes others (record { good = good; short = short_rest text [] (append-nil text) }) read) (published limits.history);
    }
