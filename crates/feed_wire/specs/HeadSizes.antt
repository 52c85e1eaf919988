-- How large a head may be (RFC 9112, section 2), within this profile's limits.
use Rattle.std.specs.Prelude.{ℕ, ◌<◌, ◌≤◌, ◌⊎◌, ◌==◌, List, length, count_by}
use Rattle.httparse.specs.Ascii.{line_feed}

-- the most bytes of a head, with the empty lines before, the most lines, and the most fields
-- (this profile's limits)
abbrev pub head_bytes : ℕ
head_bytes = 8192

abbrev pub head_lines : ℕ
head_lines = 66

abbrev pub head_fields : ℕ
head_fields = 64

-- how many lines end in the bytes
abbrev pub line_count : List ℕ → ℕ
line_count bytes = count_by (λ b. b == line_feed) bytes

-- the text of a head is short enough: as long as 64 fields, a start line and the empty line may be
pub record IsHeadSize (text : List ℕ) (fields : ℕ) : Type 0 where
  pub bytes : length text ≤ head_bytes
  pub lines : line_count text ≤ head_lines
  pub fields_fit : fields ≤ head_fields

-- no head that is not whole yet can end within the limits
abbrev pub IsPastLimits : List ℕ → Type 0
IsPastLimits bytes = (head_bytes < length bytes) ⊎ (head_lines ≤ line_count bytes)
