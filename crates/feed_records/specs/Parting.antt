-- Where a record is cut, step by step.
use Rattle.std.specs.Prelude.{◌≡◌, ℕ, ◌+◌, min, ◌||◌, Bool, true, false, List, [], ◌∷◌, ◌++◌, length, Option, None, Some, option_map, is_some, Vec, if◌then◌else◌}
use Rattle.std.specs.List.{AllByRecursion}
use Rattle.std.specs.declared.alloc.Global.{Global}
use Rattle.feed_text.specs.Ascii.{line_feed}
use Rattle.feed_note.specs.Lines.{HasNoLineFeed, lines, rest, ended}
use Rattle.feed_records.specs.Connections.{OpensFeed, IsFilled, announced_by, is_blank_line, is_marked, is_success, token_on, status_on}
use Rattle.feed_records.specs.Fronts.{IsLeft, IsLineAtFront}
use Rattle.feed_records.specs.declared.connections.Opened.{Opened}
use Rattle.feed_records.specs.declared.connections.Opening.{Opening}
use Rattle.feed_records.specs.declared.connections.Opening.TheVariants.{Marked, Named, Head}

abbrev pub most : ℕ
most = 18446744073709551615

-- a connection begins on the line like this
abbrev pub IsOpening : List ℕ → Opening → Type 0
IsOpening line Marked = is_marked line ≡ true
IsOpening line (Named token) = (is_marked line ≡ false) × (token_on line ≡ Some token.now)
IsOpening line (Head is_feed) =
    (is_marked line ≡ false) × (token_on line ≡ None)
    × ((status : List ℕ) × (status_on line ≡ Some status) × (is_feed ≡ is_success status))

-- whether one does
abbrev pub opens_connection : List ℕ → Bool
opens_connection line = is_marked line || (is_some (token_on line) || is_some (status_on line))

-- ---- what a connection carries

-- of lines, and of what follows the last: the first, up to the one on which a connection begins
unfoldable pub body_by : List (List ℕ) → List ℕ → List ℕ
body_by [] end = end
body_by (line ∷ later) end =
    if opens_connection line then [] else line ++ line_feed ∷ body_by later end

-- how many lines these are
unfoldable pub count_by : List (List ℕ) → ℕ
count_by [] = 0
count_by (line ∷ later) = if opens_connection line then 0 else count_by later + 1

-- that one, and what follows it
unfoldable pub next_by : List (List ℕ) → List ℕ → List ℕ
next_by [] end = []
next_by (line ∷ later) end =
    if opens_connection line then ended (line ∷ later) ++ end else next_by later end

-- what the connection carries that begins at the beginning of a text, how many lines that has, and
-- what stands behind it
abbrev pub body_of : List ℕ → List ℕ
body_of text = body_by (lines text) (rest text)

abbrev pub body_lines : List ℕ → ℕ
body_lines text = count_by (lines text)

abbrev pub behind_body : List ℕ → List ℕ
behind_body text = next_by (lines text) (rest text)

-- whether a connection begins on the first line of a text, and whether that is empty
abbrev pub first_opens : List (List ℕ) → Bool
first_opens [] = false
first_opens (line ∷ later) = opens_connection line

abbrev pub is_at_next : List ℕ → Bool
is_at_next text = first_opens (lines text)

abbrev pub first_is_blank : List (List ℕ) → Bool
first_is_blank [] = false
first_is_blank (line ∷ later) = is_blank_line line

abbrev pub is_at_blank : List ℕ → Bool
is_at_blank text = first_is_blank (lines text)

-- ---- what is passed

-- a line was passed; or there was none
abbrev pub PassesLine : Bool → List ℕ → Option (List ℕ) → Type 0
PassesLine true text left =
    IsLeft left (λ behind.
    (line : List ℕ) × HasNoLineFeed line × (text ≡ line ++ line_feed ∷ behind))
PassesLine false text left = HasNoLineFeed text

-- What is left of a connection was passed, and another one begins on the line at the front; or none
-- does. So many lines it has, and this stands behind it.
abbrev pub PassesBody : Bool → ℕ × List ℕ → Option (List ℕ) → List ℕ → ℕ → Type 0
PassesBody true end left front count =
    (left ≡ Some end.1) × IsLineAtFront front end.1 × (is_at_next end.1 ≡ true)
    × (min count most ≡ end.0)
PassesBody false end left front count = end.1 ≡ []

-- lines of a head behind its first were passed, and counted with those before
pub record PassedFields (text behind : List ℕ) (old new : ℕ) : Type 0 where
  pub fields : List (List ℕ)
  pub whole : AllByRecursion HasNoLineFeed fields
  pub text_is : text ≡ ended fields ++ behind
  pub filled : AllByRecursion IsFilled fields
  pub counted : min new most ≡ min (old + length fields) most

-- and its last
pub record IsHeadRest (text behind : List ℕ) (old new : ℕ) : Type 0 where
  pub fields : List (List ℕ)
  pub blank : List ℕ
  pub whole : AllByRecursion HasNoLineFeed (fields ++ blank ∷ [])
  pub text_is : text ≡ ended (fields ++ blank ∷ []) ++ behind
  pub filled : AllByRecursion IsFilled fields
  pub ends : is_blank_line blank ≡ true
  pub counted : min new most ≡ min (old + length (fields ++ blank ∷ [])) most

-- it has no last
pub record IsHeadCutOff (text : List ℕ) : Type 0 where
  pub fields : List (List ℕ)
  pub end : List ℕ
  pub whole : AllByRecursion HasNoLineFeed fields
  pub part : HasNoLineFeed end
  pub text_is : text ≡ ended fields ++ end
  pub filled : AllByRecursion IsFilled fields

abbrev pub PassesHead : Bool → List ℕ → Option (List ℕ) → ℕ → ℕ → Type 0
PassesHead true text left old new = IsLeft left (λ behind. IsHeadRest text behind old new)
PassesHead false text left old new = IsHeadCutOff text

-- ---- how a connection was opened

abbrev pub token_bytes : Option (Vec ℕ Global) → Option (List ℕ)
token_bytes since = option_map (λ token. token.items) since

abbrev pub since_of : Opened → Option (List ℕ)
since_of opened = token_bytes opened.since

-- the token that a head was asked for with
abbrev pub token_announced : Bool → Opened → Option (List ℕ)
token_announced true old = since_of old
token_announced false old = None

-- a line says so alone, or is the first of a head
abbrev pub SaysOpening : Bool → List ℕ → Bool → Opened → Opened → Type 0
SaysOpening true line is_direct old new =
    (is_marked line ≡ false) × (token_on line ≡ None)
    × ((status : List ℕ) × (status_on line ≡ Some status)
    × (new.is_feed ≡ is_success status)) × (since_of new ≡ token_announced is_direct old)
SaysOpening false line is_direct old new =
    (before : Option (List ℕ)) → OpensFeed before (line ∷ []) new.is_feed (since_of new)

-- Behind a connection of so many lines this is left of a record, and another one begins behind
-- these lines, and was opened like this. The lines are counted with those before.
pub record OpensNext (end : ℕ × List ℕ) (old new : Opened) (count : ℕ) (behind : List ℕ)
    : Type 0 where
  pub head : List (List ℕ)
  pub whole : AllByRecursion HasNoLineFeed head
  pub text_is : end.1 ≡ ended head ++ behind
  pub opens : (body : List (List ℕ)) → end.0 ≡ min (length body) most
      → OpensFeed (announced_by (since_of old) body) head new.is_feed (since_of new)
  pub counted : min count most ≡ min (end.0 + length head) most

-- none does, or one was cut off within its head
pub data EndsIn : List ℕ → Type 0 where
  nothing : EndsIn []
  in_head : (line status behind : List ℕ) → HasNoLineFeed line → is_marked line ≡ false
      → token_on line ≡ None → status_on line ≡ Some status → IsHeadCutOff behind
      → EndsIn (line ++ line_feed ∷ behind)
