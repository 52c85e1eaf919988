-- Lemmas on the lines of a script.
use Rattle.std.proofs.Common.{◌≡◌, refl, ap, ◌∙◌, ℕ, ◌<◌, Bool, true, false, List, ◌∷◌, ◌++◌, arith, nat_le, leb-true}
use Rattle.feed_note.specs.Lines.{lines, HasNoLineFeed}
use Rattle.feed_note.proofs.LinesCut.{one_line}
use Rattle.feed_play.specs.Lines.{LinesLeft}

-- a line and its line feed, and what is behind
pub first_line : (t l behind : List ℕ) → HasNoLineFeed l → t ≡ l ++ 10 ∷ behind → lines t ≡ l ∷ lines behind
first_line t l behind h e = ap lines e ∙ one_line l behind h

pub left_is : (s : LinesLeft) (ls : List (List ℕ)) (n : ℕ) → s ≡ record { left = ls; read = n } → s.left ≡ ls
left_is s ls n e = ap (λ t. t.left) e

pub read_is : (s : LinesLeft) (ls : List (List ℕ)) (n : ℕ) → s ≡ record { left = ls; read = n } → s.read ≡ n
read_is s ls n e = ap (λ t. t.read) e

pub is_more : (a b : ℕ) → b < a → false ≡ nat_le a b
is_more a b h = by (nat_le a b) refl
  where
    by : (t : Bool) → nat_le a b ≡ t → false ≡ t
    by true e = absurd (omega (arith, leb-true a b e))
    by false e = refl
