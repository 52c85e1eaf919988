-- Lemmas on the line of a number.
use Rattle.std.proofs.Common.{◌≡◌, ◌≢◌, refl, sym, ap, ap₂, ◌∙◌, subst, inl, inr, ℕ, ◌+◌, ◌-◌, ◌<◌, ◌≤◌, List, [], ◌∷◌, ◌++◌, length, append_assoc, arith, Option, None, Some}
use Rattle.std.proofs.lemmas.List.{nil_from_length}
use Rattle.feed_note.specs.Counts.{StopsAt}
use Rattle.feed_note.specs.Lines.{HasNoLineFeed, lines, rest}
use Rattle.feed_note.specs.declared.counts.SurveyFault.{SurveyFault}
use Rattle.feed_note.specs.declared.stop.LineStop.{LineStop}
use Rattle.feed_note.specs.declared.stop.LineStop.TheVariants as stop
use Rattle.feed_note.proofs.LinesCut.{one_line, no_lines, no_rest, rest_behind}
use Rattle.feed_commands.specs.Check.{IsLineAt, IsPlaced, SurveyFails}
use Rattle.feed_commands.specs.Fault.{StandsInLine, SaysMore, fault_at, fault_of_survey}
use Rattle.feed_commands.specs.declared.fault.Fault.{Fault}
use Rattle.feed_commands.specs.declared.fault.Fault.TheVariants as fault
use Rattle.feed_commands.specs.declared.fault.SurveyStop.{SurveyStop}
use Rattle.feed_commands.specs.declared.placing.Spot.{Spot}

-- what stands between line feeds, and behind the last
all_of : (line behind text : List ℕ) → HasNoLineFeed line → text ≡ line ++ 10 ∷ behind
    → lines text ++ rest text ∷ [] ≡ line ∷ (lines behind ++ rest behind ∷ [])
all_of line behind text h is =
    ap (λ t. lines t ++ rest t ∷ []) is
    ∙ ap₂ (λ ls r. ls ++ r ∷ []) (one_line line behind h) (rest_behind line behind h)

all_of_one : (text : List ℕ) → HasNoLineFeed text → lines text ++ rest text ∷ [] ≡ text ∷ []
all_of_one text h = ap₂ (λ ls r. ls ++ r ∷ []) (no_lines text h) (no_rest text h)

-- the first line is the one with the number 1
pub first_is : (text line behind x : List ℕ) (number : ℕ) → HasNoLineFeed line → text ≡ line ++ 10 ∷ behind → number ≤ 1 → IsLineAt text number x → line ≡ x
first_is text line behind x number h is few at =
    let none = nil_from_length at.before (let n = at.is in omega arith) in
    let both : line ∷ (lines behind ++ rest behind ∷ []) ≡ x ∷ at.later = sym (all_of line behind text h is) ∙ at.whole ∙ ap (λ b. b ++ x ∷ at.later) none in
    cc

one_is : (text x : List ℕ) (before later : List (List ℕ)) → text ∷ [] ≡ before ++ x ∷ later → text ≡ x
one_is text x [] later e = cc
one_is text x (b ∷ []) later e = absurd (let n = ap length e in omega arith)
one_is text x (b ∷ c ∷ bs) later e = absurd (let n = ap length e in omega arith)

-- a text that is one line has no other
pub only_is : (text x : List ℕ) (number : ℕ) → HasNoLineFeed text → IsLineAt text number x → text ≡ x
only_is text x number h at = one_is text x at.before at.later (sym (all_of_one text h) ∙ at.whole)

-- the others are lines of what stands behind the first
pub next_is : (text line behind x : List ℕ) (number before : ℕ) → HasNoLineFeed line → text ≡ line ++ 10 ∷ behind
    → before < number → IsLineAt text (number + 1 - before) x → IsLineAt behind (number - before) x
next_is text line behind x number before h is fewer at = by at.before at.whole at.is
  where
    by : (ls : List (List ℕ)) → lines text ++ rest text ∷ [] ≡ ls ++ x ∷ at.later → number + 1 - before ≡ length ls + 1 → IsLineAt behind (number - before) x
    by [] whole n = absurd (omega (arith, fewer, n))
    by (l ∷ ls) whole n =
        let both : line ∷ (lines behind ++ rest behind ∷ []) ≡ l ∷ (ls ++ x ∷ at.later) = sym (all_of line behind text h is) ∙ whole in
        record { before = ls; later = at.later; whole = cc; is = omega (arith, fewer, n) }

-- where the reading of a text stops is a line of it
line_there : (text : List ℕ) (number : ℕ) (why : LineStop) → StopsAt text number why → (line : List ℕ) × IsLineAt text number line
line_there text number why (inl s) = (
  s.bad,
  record {
    before = s.good;
    later = s.more ++ rest text ∷ [];
    whole = ap (λ ls. ls ++ rest text ∷ []) s.whole ∙ append_assoc s.good (s.bad ∷ s.more) (rest text ∷ []);
    is = s.is;
  },
)
line_there text number why (inr s) = (rest text, record { before = lines text; later = []; whole = refl; is = s.is })

placed_in : (text line : List ℕ) (number : ℕ) (spot : Option Spot) → IsLineAt text number line → StandsInLine line spot → IsPlaced text number spot
placed_in text line number None at within = tt
placed_in text line number (Some spot) at within = (line, at, within)

-- a fault without a place
pub survey_stops : (bytes : List ℕ) (why : SurveyFault) (told : Fault) → told ≡ fault_of_survey why
    → (why.stop ≢ stop.Memory → StopsAt bytes why.line why.stop) → SurveyFails told bytes
survey_stops bytes why told is stops = subst (λ w. SurveyFails w bytes) (sym is) (by why.stop refl)
  where
    by : (s : LineStop) → why.stop ≡ s → SurveyFails (fault_at s why) bytes
    by stop.Memory e = tt
    by stop.LongLine e = (stops (λ m. absurd (cc)), tt)
    by (stop.Line f) e = (stops (λ m. absurd (cc)), tt)

fault_said : (found : SurveyFault) (said : SurveyStop) (s : LineStop) → fault_at s found ≡ fault.Survey said → said.fault ≡ found
fault_said found said stop.Memory e = absurd (cc)
fault_said found said stop.LongLine e = cc
fault_said found said (stop.Line f) e = cc

-- and with one in the line of its number
pub survey_places : (bytes line : List ℕ) (found : SurveyFault) (why told : Fault) → ((x : List ℕ) → IsLineAt bytes found.line x → line ≡ x)
    → why ≡ fault_of_survey found → SaysMore line why told → SurveyFails why bytes → SurveyFails told bytes
survey_places bytes line found why told at is (inl e) h = subst (λ w. SurveyFails w bytes) (sym e) h
survey_places bytes line found why told at is (inr (said, spot, e, said_is, within)) h =
    let stops = (subst (λ w. SurveyFails w bytes) e h).0 in
    let there = line_there bytes said.fault.line said.fault.stop stops in
    let same = fault_said found said found.stop (sym is ∙ e) in
    let here = at there.0 (subst (λ (f : SurveyFault). IsLineAt bytes f.line there.0) same there.1) in
    subst (λ w. SurveyFails w bytes) (sym said_is)
    (stops, placed_in bytes there.0 said.fault.line spot there.1 (subst (λ x. StandsInLine x spot) here within))
