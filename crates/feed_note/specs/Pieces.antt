-- A text that comes in pieces, and what of it was cut into lines.
use Rattle.std.specs.Prelude.{◌≡◌, ◌≤◌, ℕ, List, [], ◌++◌, flat_map, length, map}
use Rattle.std.specs.List.{AllByRecursion}
use Rattle.std.specs.Prelude.{Vec}
use Rattle.std.specs.declared.alloc.Global.{Global}
use Rattle.feed_text.specs.Limits.{line_bytes}
use Rattle.feed_note.specs.Lines.{HasNoLineFeed, lines, rest, ended}
use Rattle.feed_note.specs.Splitting.{IsLongNext}

-- the pieces one after the other
abbrev pub joined : List (Vec ℕ Global) → List ℕ
joined pieces = flat_map (λ piece. piece.items) pieces

-- the bytes of each line
abbrev pub texts_of : List (Vec ℕ Global) → List (List ℕ)
texts_of given = map (λ line. line.items) given

abbrev pub IsShort : List ℕ → Type 0
IsShort line = length line ≤ line_bytes

-- each line of the text is within the limit, and so is the rest
pub record HasShortLines (text : List ℕ) : Type 0 where
  pub each : AllByRecursion IsShort (lines text)
  pub unfinished : IsShort (rest text)

-- behind some lines of the text the next one, ended or not, is too long
pub record HasLongLine (text : List ℕ) : Type 0 where
  pub prefix : List (List ℕ)
  pub behind : List ℕ
  pub whole : AllByRecursion HasNoLineFeed prefix
  pub is : text ≡ ended prefix ++ behind
  pub long : IsLongNext behind

-- these lines, each within the limit, were cut off before what is left of the text
pub record IsCutOff (text : List ℕ) (given : List (List ℕ)) (left : List ℕ) : Type 0 where
  pub whole : AllByRecursion HasNoLineFeed given
  pub short : AllByRecursion IsShort given
  pub is : text ≡ ended given ++ left

-- of what is left these lines are taken, up to an unfinished one within the limit
pub record TakesLines (old : List ℕ) (lines_before lines_after : List (List ℕ)) (left : List ℕ)
    : Type 0 where
  pub taken : List (List ℕ)
  pub cut : IsCutOff old taken left
  pub gained : lines_after ≡ lines_before ++ taken
  pub none : lines left ≡ []
  pub short : IsShort (rest left)
