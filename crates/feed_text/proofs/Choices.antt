-- What an `and` that is true says of its two parts, and what an `or` that is false says of them, for
-- the proofs of this crate and of those above it.
use Rattle.std.proofs.Common.{◌≡◌, Bool, true, false, ◌&&◌, ◌||◌}
use Rattle.std.proofs.lemmas.Bool.{and_parts, or_parts}

pub first_true : (a b : Bool) → (a && b) ≡ true → a ≡ true
first_true a b e = (and_parts a b e).0

pub second_true : (a b : Bool) → (a && b) ≡ true → b ≡ true
second_true a b e = (and_parts a b e).1

pub neither_left : (a b : Bool) → (a || b) ≡ false → a ≡ false
neither_left a b e = (or_parts a b e).0

pub neither_right : (a b : Bool) → (a || b) ≡ false → b ≡ false
neither_right a b e = (or_parts a b e).1
