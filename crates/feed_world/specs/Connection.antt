-- A connection between a node and a mirror behind it: what was sent on it, and how much of that
-- came (CLICS Contest API 2023-06, event feed and reconnection; RFC 9112).
use Rattle.std.specs.Prelude.{◌≡◌, ℕ, ◌+◌, ◌-◌, Bool, true, false, List, [], ◌∷◌, ◌++◌, length, map, drop, flat_map, fold, Option, Some, None, if◌then◌else◌, nat_le, nat_lt}
use Rattle.feed_settings.specs.Limits.{History}
use Rattle.feed_settings.specs.declared.framing.Framing.{Framing}
use Rattle.feed_text.specs.Ascii.{line_feed}
use Rattle.feed_wire.specs.CarriedBytes.{response_text, carried_by}
use Rattle.feed_world.specs.Log.{Log, state_text, commit_text}
use Rattle.feed_world.specs.Position.{Position, renewed}

-- what is sent at once: a snapshot of the state after this many commits, the commit of this number,
-- or a line feed
pub data Part : Type 0 where
  Snapshot : ℕ → Part
  Commit : ℕ → Part
  Line_feed : Part

abbrev pub part_text : Log → Part → List ℕ
part_text log (Snapshot k) = state_text log k
part_text log (Commit k) = commit_text log k
part_text log Line_feed = line_feed ∷ []

abbrev pub parts_text : Log → List Part → List ℕ
parts_text log parts = flat_map (part_text log) parts

-- A connection: how the body of its response is framed; whether it is fresh; the number that it
-- started at; what was sent, in order; how many bytes of the response were delivered; the number of
-- the last commit that was sent, or at which it started; and whether the server sends no more.
pub record Connection : Type 0 where
  pub framing : Framing
  pub fresh : Bool
  pub start : ℕ
  pub parts : List Part
  pub delivered : ℕ
  pub last : ℕ
  pub over : Bool

-- the text that was sent
abbrev pub sent_text : Log → Connection → List ℕ
sent_text log connection = parts_text log connection.parts

-- the texts of the parts, each of which is framed by itself
abbrev pub part_texts : Log → List Part → List (List ℕ)
part_texts log parts = map (part_text log) parts

-- the bytes that were sent: the response that carries the text, its body not ended
abbrev pub sent_bytes : Log → Connection → List ℕ
sent_bytes log connection = response_text connection.framing (part_texts log connection.parts)

-- how many they are
abbrev pub bytes_sent : Log → Connection → ℕ
bytes_sent log connection = length (sent_bytes log connection)

-- how many bytes of the text have come once this many bytes of the response were delivered
abbrev pub come_by : Log → Connection → ℕ → ℕ
come_by log connection n = carried_by connection.framing (part_texts log connection.parts) n

-- a block and those after it; a line feed is no block
abbrev pub block_onto : Part → List Part → List Part
block_onto (Snapshot k) blocks = Snapshot k ∷ blocks
block_onto (Commit k) blocks = Commit k ∷ blocks
block_onto Line_feed blocks = blocks

-- the blocks that end within the first n bytes of the text of these parts
abbrev pub blocks_within : Log → List Part → ℕ → List Part
blocks_within log [] n = []
blocks_within log (part ∷ parts) n =
    if nat_le (length (part_text log part)) n
    then block_onto part (blocks_within log parts (n - length (part_text log part)))
    else []

-- the blocks that have come whole once n bytes were delivered
abbrev pub blocks_come : Log → Connection → ℕ → List Part
blocks_come log connection n = blocks_within log connection.parts (come_by log connection n)

-- the blocks that the bytes after the first d bring to their end, up to the first e
abbrev pub blocks_between : Log → Connection → ℕ → ℕ → List Part
blocks_between log connection d e =
    drop (length (blocks_come log connection d)) (blocks_come log connection e)

-- whether a block is new to a mirror that is here: a snapshot is, and a commit with a number above
-- the mirror's
abbrev pub is_new : Option Position → Part → Bool
is_new place (Snapshot k) = true
is_new (Some own) (Commit k) = nat_lt own.at k
is_new None (Commit k) = false
is_new place Line_feed = false

-- where a mirror is after a block came whole: where it was, if the block is not new
abbrev pub moved : History → Log → Option Position → Part → Option Position
moved history log place (Snapshot k) = Some (record { at = k; low = k })
moved history log (Some own) (Commit k) =
    Some (if nat_lt own.at k then renewed history log k own.low else own)
moved history log None (Commit k) = None
moved history log place Line_feed = place

-- where it is after these blocks
abbrev pub moved_by : History → Log → Option Position → List Part → Option Position
moved_by history log place blocks = fold (moved history log) place blocks

-- how many of these blocks are new, each when it came
abbrev pub count_new : History → Log → Option Position → List Part → ℕ
count_new history log place [] = 0
count_new history log place (block ∷ blocks) =
    (if is_new place block then 1 else 0) + count_new history log
    (moved history log place block) blocks

-- these parts go on from a number: each commit is the next one, up to the last, with any number of
-- line feeds before, between and after them
abbrev pub GoOn : ℕ → List Part → ℕ → Type 0
GoOn k [] last = k ≡ last
GoOn k (Line_feed ∷ parts) last = GoOn k parts last
GoOn k (Commit n ∷ parts) last = (n ≡ k + 1) × GoOn (k + 1) parts last
GoOn k (Snapshot n ∷ parts) last = ⊥

-- what stands first: on a fresh connection the snapshot
abbrev pub first_parts : Bool → ℕ → List Part
first_parts fresh start = if fresh then Snapshot start ∷ [] else []

-- what was sent is a snapshot where the connection is fresh, and then each commit after the start
-- up to the last
pub record IsSentInOrder (connection : Connection) : Type 0 where
  pub more : List Part
  pub parts : connection.parts ≡ first_parts connection.fresh connection.start ++ more
  pub go_on : GoOn connection.start more connection.last
