-- Lemmas on what is reported.
use Rattle.std.proofs.Common.{◌≡◌, inl, inr, sym, ap, ◌∙◌, ◌+◌, ◌-◌, ◌^◌, ℕ, Bool, true, false, true≢false, arith, List, [], ◌∷◌, ◌++◌, append_assoc, Option}
use Rattle.std.proofs.KnownBytes.{Appends-trans}
use Rattle.std.specs.Prelude.{OnOk, Result, Ok, Err}
use Rattle.std.specs.Io.KnownBytes.{Appends}
use Rattle.std.proofs.lemmas.Bool.{cases_lt}
use Rattle.feed_http.specs.Device.{counted, HasFailed}
use Rattle.feed_text.specs.Ascii.{line_feed}
use Rattle.feed_commands.specs.Reporting.{HasReported, ReportsLines}

counted_twice : (old n m : ℕ) → counted (counted old n) m ≡ counted old (n + m)
counted_twice old n m = omega arith

-- what was reported before, and what is reported now
pub reported_then : (old middle new : ℕ) (before between after : Bool) → HasReported old middle before between
    → HasReported middle new between after → HasReported old new before after
reported_then old middle new before between after (inl (quiet, same)) (inl (more, kept)) =
    inl (more ∙ quiet, kept ∙ same)
reported_then old middle new before between after (inl (quiet, same)) (inr (n, some, fails, is)) =
    inr (n, some, fails ∙ ap (λ k. counted k n) quiet, is)
reported_then old middle new before between after (inr (n, some, fails, is)) (inl (more, kept)) =
    inr (n, some, more ∙ fails, kept ∙ is)
reported_then old middle new before between after (inr (n, some, fails, is)) (inr (m, least, more, kept)) =
    inr (n + m, omega (arith, some), more ∙ ap (λ k. counted k m) fails ∙ counted_twice old n m, kept)

-- all was reported
pub all_reported : (old new : ℕ) (after : Bool) → HasReported old new false after → after ≡ false → new ≡ old
all_reported old new after (inl (quiet, same)) none = quiet
all_reported old new after (inr (n, some, fails, is)) none = absurd (true≢false (sym is ∙ none))

-- something was not
pub not_reported : (old new : ℕ) (after : Bool) → HasReported old new false after → after ≡ true
    → HasFailed old new
not_reported old new after (inl (quiet, same)) some = absurd (true≢false (sym some ∙ same))
not_reported old new after (inr (n, least, fails, is)) some =
    elim (cases_lt (old + n) (2 ^ 64 - 1)) [
      | inl less ↦ inl (omega (arith, least, fails, less))
      | inr more ↦ inr (omega (arith, fails, more))
    ]

-- ---- what is written of a line

pub on_ok : {A E : Type 0} (result : Result A E) {P Q : Type 0} → (P → Q) → OnOk result P → OnOk result Q
on_ok (Ok value) f h = f h
on_ok (Err fault) f h = h

-- its parts, one after the other
pub line_reported : (a b c d e f : Option (List ℕ)) (name mark kind text last : List ℕ) → Appends a b name → Appends b c mark → Appends c d kind → Appends d e text
    → Appends e f last → last ≡ line_feed ∷ [] → ReportsLines a f
line_reported a b c d e f name mark kind text last one two three four five is =
    let front = ((name ++ mark) ++ kind) ++ text in (
      front ++ last,
      (front, ap (λ t. front ++ t) is),
      Appends-trans a e f front last
          (Appends-trans a d e ((name ++ mark) ++ kind) text (Appends-trans a c d (name ++ mark) kind (Appends-trans a b c name mark one two) three) four) five,
    )

-- lines, and then more
pub lines_more : (a b c : Option (List ℕ)) → ReportsLines a b → ReportsLines b c → ReportsLines a c
lines_more a b c (x, ends, h) (y, (front, is), k) =
    (x ++ y, (x ++ front, ap (λ t. x ++ t) is ∙ sym (append_assoc x front (line_feed ∷ []))), Appends-trans a b c x y h k)
