-- What an audit of a state file finds: its states are those of the log that the relay followed.
use Rattle.std.specs.Prelude.{◌≡◌, ℕ, ◌≤◌, List, ◌++◌, length}
use Rattle.feed_settings.specs.Limits.{Limits}
use Rattle.feed_node.specs.Publishing.{Published}
use Rattle.feed_node.specs.States.{NodeState}
use Rattle.feed_world.specs.Log.{Log, IsLog, state_after}
use Rattle.feed_laws.specs.Laws.{AreInLog}
use Rattle.feed_hub.specs.Record.{IsRecorded}
use Rattle.feed_hub.specs.declared.record.Record.{Record}
use Rattle.feed_audit.specs.States.{IsStateOf, AgreesWith}

-- the state after this commit of the log, under its token
abbrev pub state_at : Log → ℕ → Published
state_at log k = record { tables = state_after log k; token = log.token k }

-- the text has each state of the log
abbrev pub HasStatesOf : Limits → Log → List ℕ → Type 0
HasStatesOf limits log text =
    (k : ℕ) → k ≤ length log.commits → IsStateOf limits text (state_at log k)

-- each state of the text is one of the log
abbrev pub HasOnlyStatesOf : Limits → Log → List ℕ → Type 0
HasOnlyStatesOf limits log text =
    (state : Published) → IsStateOf limits text state
    → (k : ℕ) × (k ≤ length log.commits) × (state ≡ state_at log k)

-- So it is with any prefix of a state file, of nodes at places of the log.
abbrev pub FilesAreOfLog : Type 0
FilesAreOfLog =
    (limits : Limits) (log : Log) (nodes : List NodeState) (written text behind : List ℕ)
    (r : Record) → IsLog limits log → AreInLog log nodes → IsRecorded nodes written r
    → text ++ behind ≡ written → HasOnlyStatesOf limits log text

-- It agrees with each record of the server that has the states of the log.
abbrev pub FilesAgree : Type 0
FilesAgree =
    (limits : Limits) (log : Log) (nodes : List NodeState) (written text behind : List ℕ)
    (r : Record) (primary : List ℕ) → IsLog limits log → AreInLog log nodes
    → IsRecorded nodes written r → text ++ behind ≡ written → HasStatesOf limits log primary
    → AgreesWith limits primary text
