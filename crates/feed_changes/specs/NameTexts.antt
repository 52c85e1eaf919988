-- The text of a name, where it lies, and what is kept beside it.
use Rattle.std.specs.Prelude.{ℕ, List}
use Rattle.std.specs.Int.{w64, from_be_bytes}
use Rattle.std.specs.Rc.{rc_str_bytes}
use Rattle.feed_changes.specs.declared.name.Text.{Text}
use Rattle.feed_changes.specs.declared.name.Text.TheVariants.{Short, Long}

abbrev pub bytes_of : Text → List ℕ
bytes_of (Short text) = text
bytes_of (Long text) = rc_str_bytes text

-- the first eight bytes as a number, the first of them the highest; one that is missing counts as 0
abbrev pub head_of : List ℕ → ℕ
head_of w = from_be_bytes w64 w
