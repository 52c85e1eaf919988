-- The lines of a script, and how far it was read.
use Rattle.std.specs.Prelude.{ℕ, ◌+◌, ◌≤◌, List, length}

-- the lines of a script that are still to be read, and how many were read
pub record LinesLeft : Type 0 where
  pub left : List (List ℕ)
  pub read : ℕ

-- how many lines there are, those that were read among them
abbrev pub all_lines : LinesLeft → ℕ
all_lines l = l.read + length l.left

-- the line is one of the script's, this one or a later one
pub record IsLineFrom (first last line : ℕ) : Type 0 where
  pub from : first ≤ line
  pub to : line ≤ last
