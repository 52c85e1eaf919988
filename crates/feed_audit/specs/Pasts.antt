-- States that a text published, and the steps between them.
use Rattle.std.specs.Prelude.{◌≡◌, ℕ, ◌+◌, ◌≤◌, List, length, Some, None, Option, slice_get}
use Rattle.std.specs.FinMap.{get}
use Rattle.feed_settings.specs.Limits.{Limits}
use Rattle.feed_changes.specs.declared.change.Change.{Change}
use Rattle.feed_changes.specs.declared.change.Change.TheVariants.{Set, Remove, Single, Clear}
use Rattle.feed_tables.specs.Tables.{Contents, after}
use Rattle.feed_tables.specs.declared.table.Table.{Table}
use Rattle.feed_tables.specs.declared.table.Table.TheVariants.{One, Many}
use Rattle.feed_audit.specs.States.{IsStateOf}
use Rattle.feed_audit.specs.Walks.{IsSinceIn}
use Rattle.feed_audit.specs.declared.past.Step.{Step}
use Rattle.feed_audit.specs.declared.past.Mark.{Mark}
use Rattle.feed_audit.specs.declared.past.Past.{Past}

-- the change that makes what stands under a type, where that isn't a collection
abbrev pub type_again : List ℕ → Option (List ℕ) → Change
type_again kind None = Clear kind
type_again kind (Some object) = Single kind object

-- what stands under an id of its collection
abbrev pub id_again : List ℕ → List ℕ → Option (List ℕ) → Change
id_again kind id None = Remove kind id
id_again kind id (Some object) = Set kind id object

-- and what a change that is about this id takes away
abbrev pub undo_in : List ℕ → List ℕ → Option Table → Change
undo_in kind id None = Clear kind
undo_in kind id (Some (One object)) = Single kind object
undo_in kind id (Some (Many objects)) = id_again kind id (get objects id)

-- a step leads from tables to others, and back
pub record Leads (before : Contents) (step : Step) (behind : Contents) : Type 0 where
  pub forth : after before step.redo ≡ behind
  pub back : after behind step.undo ≡ before

-- These are the tables after each number of the steps. Those at hand are among them, and the last
-- ones are these. Each state that is marked is one of the text.
pub record IsPast (limits : Limits) (text : List ℕ) (past : Past) (end theirs : Contents)
    : Type 0 where
  pub tables : ℕ → Contents
  pub here : past.tables.contents ≡ tables past.at
  pub within : past.at ≤ length past.steps.items
  pub leads : (i : ℕ) (step : Step) → slice_get past.steps.items i ≡ Some step
      → Leads (tables i) step (tables (i + 1))
  pub last : tables (length past.steps.items) ≡ end
  pub marked : (i : ℕ) (mark : Mark) → slice_get past.marks.items i ≡ Some mark
      → (mark.at ≤ length past.steps.items)
      × IsStateOf limits text (record { tables = tables mark.at; token = mark.token })
  pub since : IsSinceIn past.since (tables past.at) theirs
