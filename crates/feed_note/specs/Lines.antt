-- The lines of a text (NDJSON: each line ends in a line feed).
use Rattle.std.specs.Prelude.{◌≡◌, ℕ, Bool, List, [], ◌∷◌, ◌++◌, flat_map, length, drop, if◌then◌else◌, ◌==◌}
use Rattle.std.specs.List.{AllByRecursion}
use Rattle.feed_text.specs.Ascii.{line_feed}
use Rattle.feed_text.specs.Objects.{IsUnbroken}

-- no byte is a line feed
abbrev pub HasNoLineFeed : List ℕ → Type 0
HasNoLineFeed x = IsUnbroken x

abbrev pub is_line_feed : ℕ → Bool
is_line_feed b = b == line_feed

-- the byte stands at the start of the first text; where there is none, no line feed follows
abbrev pub onto_first : ℕ → List (List ℕ) → List (List ℕ)
onto_first b [] = []
onto_first b (l ∷ ls) = (b ∷ l) ∷ ls

-- the texts before each line feed, in order
unfoldable pub lines : List ℕ → List (List ℕ)
lines [] = []
lines (b ∷ bs) = if is_line_feed b then [] ∷ lines bs else onto_first b (lines bs)

-- the lines with their line feeds
abbrev pub ended : List (List ℕ) → List ℕ
ended ls = flat_map (λ l. l ++ line_feed ∷ []) ls

-- what follows the last line feed, behind all lines
unfoldable pub rest : List ℕ → List ℕ
rest x = drop (length (ended (lines x))) x

-- x is these texts, each ended by a line feed, and then an unfinished one
pub record IsCutInto (x : List ℕ) (ls : List (List ℕ)) (unfinished : List ℕ) : Type 0 where
  pub whole : AllByRecursion HasNoLineFeed ls
  pub part : HasNoLineFeed unfinished
  pub text : x ≡ ended ls ++ unfinished

-- a text is cut into its lines and its rest, and in no other way
abbrev pub LinesCut : Type 0
LinesCut = (x : List ℕ) → IsCutInto x (lines x) (rest x)

abbrev pub LinesAreTheOnlyCut : Type 0
LinesAreTheOnlyCut = (x : List ℕ) (ls : List (List ℕ)) (unfinished : List ℕ)
    → IsCutInto x ls unfinished → (ls ≡ lines x) × (unfinished ≡ rest x)
