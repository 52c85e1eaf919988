-- A record of several connections, one after the other, as `curl -i` writes them to one file: the
-- head of each (RFC 9112, section 2.1), and then what it carried.
use Rattle.std.specs.Prelude.{◌≡◌, ℕ, ◌+◌, ◌&&◌, ◌||◌, ◌==◌, Bool, true, false, not, List, [], ◌∷◌, ◌++◌, length, drop, nat_le, slice_index_or, codes, Option, None, Some, if◌then◌else◌}
use Rattle.std.specs.Char.{is_ascii_hexdigit}
use Rattle.std.specs.List.{AllByRecursion, list_any, starts_with, ends_with}
use Rattle.feed_text.specs.Ascii.{carriage_return}
use Rattle.feed_text.specs.Limits.{line_bytes}
use Rattle.feed_note.specs.Lines.{HasNoLineFeed, lines, ended}

-- ---- where a connection begins

-- whether these bytes end like a status line: `HTTP/` begins them, and behind it stands neither a
-- quotation mark nor a slash
abbrev pub is_status_line : List ℕ → Bool
is_status_line bytes =
    starts_with (λ x y. x == y) bytes (codes "HTTP/")
    && not (list_any (λ b. b == 34) (drop 5 bytes) || list_any (λ b. b == 47) (drop 5 bytes))

-- The version and the status of a line that ends like a status line. Before it may stand what came
-- of a line that was cut off. No line of a feed ends so, since its names and strings do in a
-- quotation mark.
unfoldable pub status_in : List ℕ → Option (List ℕ)
status_in [] = None
status_in (b ∷ bs) = if is_status_line (b ∷ bs) then Some (drop 5 (b ∷ bs)) else status_in bs

-- whether 200 stands behind the first space, that is, behind the version
unfoldable pub is_success : List ℕ → Bool
is_success [] = false
is_success (b ∷ bs) =
    if b == 32 then starts_with (λ x y. x == y) bs (codes "200") else is_success bs

-- whether the line is no longer than one of a feed may be; a connection begins on no other line
abbrev pub is_short : List ℕ → Bool
is_short line = nat_le (length line) line_bytes

-- whether the line ends in `# connection`
abbrev pub is_marked : List ℕ → Bool
is_marked line = is_short line && ends_with (λ x y. x == y) line (codes "# connection")

-- whether `# connection since ` begins these bytes, and behind it stands no quotation mark
abbrev pub is_since : List ℕ → Bool
is_since bytes =
    starts_with (λ x y. x == y) bytes (codes "# connection since ")
    && not (list_any (λ b. b == 34) (drop 19 bytes))

-- the token of a line that ends in `# connection since TOKEN`, before which may stand what came of
-- a line that was cut off
unfoldable pub since_in : List ℕ → Option (List ℕ)
since_in [] = None
since_in (b ∷ bs) = if is_since (b ∷ bs) then Some (drop 19 (b ∷ bs)) else since_in bs

-- the token of the line, and its version and status, where a connection may begin on it
abbrev pub token_on : List ℕ → Option (List ℕ)
token_on line = if is_short line then since_in line else None

abbrev pub status_on : List ℕ → Option (List ℕ)
status_on line = if is_short line then status_in line else None

-- no connection begins on the line
pub record OpensNone (line : List ℕ) : Type 0 where
  pub unmarked : is_marked line ≡ false
  pub unnamed : token_on line ≡ None
  pub headless : status_on line ≡ None

-- whether the line is empty, as the last of a head is, but for a carriage return
abbrev pub is_blank_line : List ℕ → Bool
is_blank_line line =
    length line == 0 || (length line == 1 && slice_index_or line 0 0 == carriage_return)

abbrev pub IsFilled : List ℕ → Type 0
IsFilled line = is_blank_line line ≡ false

-- These lines stand between two connections. A feed follows behind a line `# connection`, behind
-- one with the token that it was asked for with, and behind a head with the status 200, which may
-- have been announced with a token.
pub data OpensFeed (announced : Option (List ℕ)) : List (List ℕ) → Bool → Option (List ℕ)
    → Type 0 where
  marked : (line : List ℕ) → is_marked line ≡ true → OpensFeed announced (line ∷ []) true None
  named : (line token : List ℕ) → is_marked line ≡ false → token_on line ≡ Some token
      → OpensFeed announced (line ∷ []) true (Some token)
  answered : (line : List ℕ) (fields : List (List ℕ)) (blank status : List ℕ)
      → is_marked line ≡ false
      → token_on line ≡ None → status_on line ≡ Some status → AllByRecursion IsFilled fields
      → is_blank_line blank ≡ true
      → OpensFeed announced (line ∷ (fields ++ blank ∷ [])) (is_success status) announced

-- ---- the connections

-- a connection: how many lines stand before it, whether it is a feed, the token that it was asked
-- for with, if one is said, and what it carried
pub record Recorded : Type 0 where
  pub before : ℕ
  pub is_feed : Bool
  pub since : Option (List ℕ)
  pub body : List ℕ

abbrev pub part : ℕ → Bool → Option (List ℕ) → List ℕ → Recorded
part before is_feed since body =
    record { before = before; is_feed = is_feed; since = since; body = body }

-- a head directly behind the line that says a token is that of this connection
abbrev pub announced_by : Option (List ℕ) → List (List ℕ) → Option (List ℕ)
announced_by since [] = since
announced_by since (line ∷ body) = None

-- a text is these connections, the first of which has begun
pub data Cut : ℕ → Bool → Option (List ℕ) → List ℕ → List Recorded → Type 0 where
  -- no other one begins
  last : {before : ℕ} {is_feed : Bool} {since : Option (List ℕ)} {text : List ℕ}
      → AllByRecursion OpensNone (lines text)
      → Cut before is_feed since text (part before is_feed since text ∷ [])
  -- another one begins behind these lines
  opened : {before : ℕ} {is_feed : Bool} {since : Option (List ℕ)} {text : List ℕ}
      (body head : List (List ℕ)) (next : Bool) (token : Option (List ℕ))
      (behind : List ℕ) (parts : List Recorded)
      → text ≡ ended body ++ (ended head ++ behind) → AllByRecursion HasNoLineFeed (body ++ head)
      → AllByRecursion OpensNone body → OpensFeed (announced_by since body) head next token
      → Cut (before + length (body ++ head)) next token behind parts
      → Cut before is_feed since text (part before is_feed since (ended body) ∷ parts)
  -- another one was cut off within its head
  headless : {before : ℕ} {is_feed : Bool} {since : Option (List ℕ)} {text : List ℕ}
      (body fields : List (List ℕ)) (line status rest : List ℕ)
      → text ≡ ended body ++ (ended (line ∷ fields) ++ rest)
      → AllByRecursion HasNoLineFeed (body ++ line ∷ fields)
      → HasNoLineFeed rest → AllByRecursion OpensNone body → is_marked line ≡ false
      → token_on line ≡ None → status_on line ≡ Some status → AllByRecursion IsFilled fields
      → Cut before is_feed since text (part before is_feed since (ended body) ∷ [])

-- the connections of a record
abbrev pub AreConnectionsOf : List ℕ → List Recorded → Type 0
AreConnectionsOf record_ parts = Cut 0 true None record_ parts

-- Whether a connection carried chunks (RFC 9112, section 7.1): it begins with the digits of a size,
-- with which no line of a feed begins.
abbrev pub is_chunked : List ℕ → Bool
is_chunked [] = false
is_chunked (b ∷ bs) = is_ascii_hexdigit b
