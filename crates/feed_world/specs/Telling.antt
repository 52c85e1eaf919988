-- What a mirror makes of lines that tell a log, whoever wrote them, and however.
use Rattle.std.specs.Prelude.{◌≡◌, ℕ, suc, ◌≤◌, Bool, true, false, List, [], ◌∷◌, ◌++◌, length, Option, Some, None}
use Rattle.feed_settings.specs.Limits.{Limits}
use Rattle.feed_changes.specs.declared.change.Change.{Change}
use Rattle.feed_tables.specs.Tables.{no_tables, after_all}
use Rattle.feed_note.specs.declared.line.Line.{Line}
use Rattle.feed_note.specs.declared.line.Line.TheVariants.{KeepAlive, Note}
use Rattle.feed_node.specs.Reading.{reads, keep_latest}
use Rattle.feed_world.specs.Log.{Log, IsNamed, state_after, changes_of_commit}
use Rattle.feed_world.specs.Position.{Position, IsPlaceOfLog, node_where}
use Rattle.feed_world.specs.Reading.{opening_at}

-- The token ends these changes. The first one of a fresh connection has those that make the state
-- of this number; each other one has those of the commit after it.
abbrev pub TokenTells : Log → Bool → ℕ → List Change → List ℕ → Type 0
TokenTells log true k changes token =
    (k ≤ length log.commits) × (token ≡ log.token k)
    × (after_all no_tables changes ≡ state_after log k)
TokenTells log false k changes token =
    (suc k ≤ length log.commits) × (token ≡ log.token (suc k))
    × (changes ≡ changes_of_commit log (suc k))

-- the number that is told then
abbrev pub told_to : Bool → ℕ → ℕ
told_to true k = k
told_to false k = suc k

-- The lines tell the log from this number on, where these changes wait for a token, and the first
-- token of a fresh connection is still to come or not.
abbrev pub Tells : Log → Bool → ℕ → List Change → List Line → Type 0
Tells log fresh k waiting [] = Unit {0}
Tells log fresh k waiting (KeepAlive ∷ notes) = Tells log fresh k waiting notes
Tells log fresh k waiting (Note changes None ∷ notes) =
    Tells log fresh k (waiting ++ changes) notes
Tells log fresh k waiting (Note changes (Some token) ∷ notes) =
    TokenTells log fresh k (waiting ++ changes) token
    × Tells log false (told_to fresh k) [] notes

-- whatever lines tell a log leave a mirror at a place of it, where the connection is fresh or
-- starts at a number of which the mirror holds the token
abbrev pub TellsShow : Type 0
TellsShow =
    (limits : Limits) (log : Log) (place : Option Position) (fresh : Bool) (k : ℕ)
    (notes : List Line) → IsNamed log → IsPlaceOfLog limits log place
    → (fresh ≡ false → (own : Position) × (place ≡ Some own) × (own.low ≤ k) × (k ≤ own.at))
    → Tells log fresh k [] notes
    → (at : Option Position) × IsPlaceOfLog limits log at
    × (keep_latest limits.history (reads limits.history (opening_at log place fresh) notes)
    ≡ node_where log at)
