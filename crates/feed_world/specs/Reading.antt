-- What a mirror makes of what was sent to it, whatever prefix of it came.
use Rattle.std.specs.Prelude.{◌≡◌, ℕ, ◌≤◌, Bool, false, ◌&&◌, List, ◌++◌, length, Option, Some, ◌==◌}
use Rattle.feed_settings.specs.Limits.{Limits}
use Rattle.feed_note.specs.declared.line.Line.{Line}
use Rattle.feed_node.specs.Mirroring.{publications}
use Rattle.feed_node.specs.Reading.{Opening, Reads, reads, keep_latest, awaits_reset}
use Rattle.feed_world.specs.Log.{Log, IsLog, IsNamed, state_after}
use Rattle.feed_world.specs.Position.{Position, IsPlaceOfLog, node_where}
use Rattle.feed_world.specs.Connection.{Connection, IsSentInOrder, sent_text, blocks_within, moved_by, count_new}

-- a connection's opening: where its mirror was, and whether it is fresh
abbrev pub opening_at : Log → Option Position → Bool → Opening
opening_at log place fresh = record { before = node_where log place; fresh = fresh }

-- a connection that is fresh, or starts at a number of which the mirror holds the token; it sent,
-- in order, what stands in the log
pub record IsOpened (limits : Limits) (log : Log) (place : Option Position)
    (c : Connection) : Type 0 where
  pub mirror : IsPlaceOfLog limits log place
  pub start : c.fresh ≡ false → (own : Position) × (place ≡ Some own) × (own.low ≤ c.start)
      × (c.start ≤ own.at)
  pub order : IsSentInOrder c
  pub sent : c.last ≤ length log.commits

-- A prefix of what was sent has nothing bad, and the mirror that reads it is where its whole blocks
-- bring it: it publishes at each of them that is new, and nothing else.
pub record PrefixIsRead (limits : Limits) (log : Log) (place : Option Position) (c : Connection)
    (prefix : List ℕ) : Type 0 where
  pub notes : List Line
  pub nothing_bad : Reads limits (opening_at log place c.fresh) prefix notes
  pub shows : keep_latest limits.history (reads limits.history (opening_at log place c.fresh) notes)
      ≡ node_where log
      (moved_by limits.history log place (blocks_within log c.parts (length prefix)))
  pub awaits : awaits_reset (opening_at log place c.fresh) notes ≡ (c.fresh
      && (length (blocks_within log c.parts (length prefix)) == 0))
  pub published : publications limits.history (opening_at log place c.fresh) notes
      ≡ count_new limits.history log place (blocks_within log c.parts (length prefix))

-- whatever prefix of what was sent came
abbrev pub SentIsRead : Type 0
SentIsRead =
    (limits : Limits) (log : Log) (place : Option Position) (c : Connection)
    (prefix behind : List ℕ)
    → IsLog limits log → IsOpened limits log place c → prefix ++ behind ≡ sent_text log c
    → PrefixIsRead limits log place c prefix

-- numbers of a log have one token each, so nodes at one token have equal tables
abbrev pub TokensTellStates : Type 0
TokensTellStates =
    (log : Log) (m n : ℕ) → IsNamed log → m ≤ length log.commits → n ≤ length log.commits
    → log.token m ≡ log.token n → (m ≡ n) × (state_after log m ≡ state_after log n)
