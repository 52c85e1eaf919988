-- What stays when a log grows; what deliveries have in common however the text is cut; and what
-- a node at a place of a log sends (CLICS Contest API 2023-06, reconnection).
use Rattle.std.specs.Prelude.{◌≡◌, ℕ, ◌+◌, ◌-◌, ◌<◌, ◌≤◌, max, Bool, List, [], ◌∷◌, ◌++◌, length, drop, Option, Some, if◌then◌else◌}
use Rattle.feed_settings.specs.Limits.{Limits, History}
use Rattle.feed_settings.specs.declared.framing.Framing.{Framing}
use Rattle.feed_changes.specs.declared.change.Change.{Change}
use Rattle.feed_node.specs.declared.commit.Commit.{Commit as Batch}
use Rattle.feed_node.specs.Serving.{commit_after, token_before}
use Rattle.feed_node.specs.States.{NodeState}
use Rattle.feed_answer.specs.Answered.{AnswerParts, AnswersTo}
use Rattle.feed_answer.specs.Served.{opening_text}
use Rattle.feed_world.specs.Connection.{Part, Commit, Line_feed, Connection, GoOn, IsSentInOrder, sent_text, sent_bytes, blocks_within, moved_by}
use Rattle.feed_world.specs.Log.{Log, IsNamed, further, state_text, changes_of_commit}
use Rattle.feed_world.specs.Position.{Position, IsPosition, IsPlaceOfLog, node_at, node_where}
use Rattle.feed_world.specs.Step.{with_more, with_line_feed}

-- a further commit changes nothing of what a node shows, nor of what was sent
pub record GrowthKeeps : Type 0 where
  pub nodes : (log : Log) (changes : List Change) (p : Position) → p.low ≤ p.at
      → p.at ≤ length log.commits → node_at (further log changes) p ≡ node_at log p
  pub texts : (log : Log) (changes : List Change) (c : Connection) → IsSentInOrder c
      → c.last ≤ length log.commits → sent_text (further log changes) c ≡ sent_text log c
  pub bytes : (log : Log) (changes : List Change) (c : Connection) → IsSentInOrder c
      → c.last ≤ length log.commits → sent_bytes (further log changes) c ≡ sent_bytes log c

-- what is sent next stands in order behind what was sent
pub record SendingKeepsOrder : Type 0 where
  pub commit : (c : Connection) → IsSentInOrder c → IsSentInOrder (with_more c)
  pub line_feed : (c : Connection) → IsSentInOrder c → IsSentInOrder (with_line_feed c)

-- a delivery of d bytes and then of those up to e is one of e bytes
abbrev pub DeliveriesCompose : Type 0
DeliveriesCompose =
    (log : Log) (history : History) (place : Option Position) (parts : List Part) (d e : ℕ) → d ≤ e
    → moved_by history log (moved_by history log place (blocks_within log parts d)) (drop (length
    (blocks_within log parts d)) (blocks_within log parts e))
    ≡ moved_by history log place (blocks_within log parts e)

-- ---- what a node at a place of a log sends

-- what is sent at once: the snapshot of the state with this number where the connection is fresh
abbrev pub opened_text : Log → Bool → ℕ → List ℕ
opened_text log fresh k = if fresh then state_text log k else []

-- the answer opens a connection at a number of the log, and its session has the token of that
pub record OpensInLog (log : Log) (answer : AnswerParts) (opened : List ℕ) : Type 0 where
  pub k : ℕ
  pub fresh : Bool
  pub in_log : k ≤ length log.commits
  pub token_is : opened ≡ log.token k
  pub text_is : answer.text ≡ opening_text answer.framing (opened_text log fresh k)

-- whatever request a node at a place of the log answers with a session
abbrev pub NodesOpenInLog : Type 0
NodesOpenInLog =
    (limits : Limits) (log : Log) (node : NodeState) (place : Option Position)
    (head contest : List ℕ) (framing : Framing) (back : ℕ) (answer : AnswerParts)
    (opened : List ℕ) → IsPlaceOfLog limits log place → node ≡ node_where log place
    → AnswersTo head contest node framing back answer → answer.session ≡ Some opened
    → OpensInLog log answer opened

-- a session that is asked for after a token that the node holds starts so many commits before it,
-- and at the oldest token that is held where there are fewer
abbrev pub SessionsStartBefore : Type 0
SessionsStartBefore =
    (limits : Limits) (log : Log) (p : Position) (k back : ℕ) → IsNamed log
    → IsPosition limits log p → p.low ≤ k → k ≤ p.at
    → token_before (node_at log p) back (log.token k) ≡ Some (log.token (max p.low (k - back)))

-- the commit is the one after number k of the log
pub record IsNextInLog (log : Log) (k : ℕ) (commit : Batch) : Type 0 where
  pub in_log : k < length log.commits
  pub changes_are : commit.changes ≡ changes_of_commit log (k + 1)
  pub token_is : commit.token ≡ log.token (k + 1)

-- whatever commit a node at a place of the log has after a token
abbrev pub NodesSendTheNext : Type 0
NodesSendTheNext =
    (limits : Limits) (log : Log) (place : Option Position) (k : ℕ) (commit : Batch)
    → IsNamed log → IsPlaceOfLog limits log place → k ≤ length log.commits
    → commit_after (node_where log place) (log.token k) ≡ Some commit → IsNextInLog log k commit

-- parts that go on to a number still do with the next commit after them, or a line feed
pub record PartsGoOn : Type 0 where
  pub commit : (k : ℕ) (parts : List Part) (last : ℕ) → GoOn k parts last
      → GoOn k (parts ++ Commit (last + 1) ∷ []) (last + 1)
  pub line_feed : (k : ℕ) (parts : List Part) (last : ℕ) → GoOn k parts last
      → GoOn k (parts ++ Line_feed ∷ []) last
