-- How texts begin.
use Rattle.std.specs.Prelude.{◌≡◌, ℕ, List, length, take}

-- x begins with p
abbrev pub Begins : List ℕ → List ℕ → Type 0
Begins p x = take (length p) x ≡ p
