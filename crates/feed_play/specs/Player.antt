-- A script played: what its lines do in a world, one after another, what is printed of that, and
-- why it stops.
use Rattle.std.specs.Prelude.{◌≡◌, ◌≢◌, ℕ, ◌+◌, ◌≤◌, ◌<◌, ◌⊎◌, List, [], ◌∷◌, ◌++◌, length, slice_get, Option, Some, None}
use Rattle.feed_settings.specs.Limits.{IsInRange, by_count}
use Rattle.feed_changes.specs.declared.change.Change.{Change}
use Rattle.feed_note.specs.Lines.{lines as lines_of}
use Rattle.feed_node.specs.States.{NodeState, published_token}
use Rattle.feed_world.specs.States.{IsWorld, WorldState, shown_at}
use Rattle.feed_world.specs.Step.{Step, EventIsRefused}
use Rattle.feed_world.specs.World.{World, HasShape, new_world, node_of}
use Rattle.feed_world.specs.declared.event.Event.{Event}
use Rattle.feed_world.specs.declared.event.Event.TheVariants as event
use Rattle.feed_world.specs.declared.event.Reply.{Reply}
use Rattle.feed_world.specs.declared.event.WorldFault.TheVariants.{NoNode}
use Rattle.feed_play.specs.Fault.{cause_of_world}
use Rattle.feed_play.specs.FeedLines.{TakesFeed, StopsCommit}
use Rattle.feed_play.specs.Lines.{LinesLeft, IsLineFrom}
use Rattle.feed_play.specs.Script.{AskedWorld, action_in, shape_in}
use Rattle.feed_play.specs.Printed.{PrintsReply, Prints, shown_text}
use Rattle.feed_play.specs.declared.fault.PlayCause.{PlayCause}
use Rattle.feed_play.specs.declared.fault.PlayCause.TheVariants as cause
use Rattle.feed_play.specs.declared.fault.PlayFault.{PlayFault}
use Rattle.feed_play.specs.declared.script.Action.{Action}
use Rattle.feed_play.specs.declared.script.Action.TheVariants as action

-- ---- the first line

-- Each mirror for which a node is listed connects to an earlier one: place i of the list is that of
-- mirror i + 1.
abbrev pub IsOrdered : Option (List ℕ) → Type 0
IsOrdered (Some upstreams) =
    (i upstream : ℕ) → slice_get upstreams i ≡ Some upstream → upstream ≤ i
IsOrdered None = Unit {0}

-- a world may have so many nodes, and mirrors that connect so
pub record IsShaped (asked : AskedWorld) : Type 0 where
  pub nodes : HasShape asked.nodes
  pub ordered : IsOrdered asked.upstreams

-- the line says this of a world that there is: its limits are in range, bytes are not limited, and
-- it has a shape
pub record Makes (line : List ℕ) (asked : AskedWorld) (w : World) : Type 0 where
  pub says : shape_in line ≡ Some asked
  pub limits : IsInRange asked.history asked.staged
  pub shape : IsShaped asked
  pub is : w ≡ new_world
      (record { history = by_count asked.history; staged = asked.staged; memory = None })
      asked.framing asked.nodes

-- the line says limits that are out of range
pub record HasBadLimits (line : List ℕ) : Type 0 where
  pub asked : AskedWorld
  pub says : shape_in line ≡ Some asked
  pub limits : ¬ (IsInRange asked.history asked.staged)

-- the limits are in range, but no world has this shape
pub record HasBadShape (line : List ℕ) : Type 0 where
  pub asked : AskedWorld
  pub says : shape_in line ≡ Some asked
  pub limits : IsInRange asked.history asked.staged
  pub shape : ¬ (IsShaped asked)

-- why the line makes no world; for want of memory nothing is said
abbrev pub MakesNone : List ℕ → PlayCause → Type 0
MakesNone line cause.Script = shape_in line ≡ None
MakesNone line cause.Limits = HasBadLimits line
MakesNone line cause.Shape = HasBadShape line
MakesNone line (cause.Line why) = ⊥
MakesNone line (cause.World why) = ⊥
MakesNone line cause.Memory = Unit {0}

-- ---- a further line; `behind` are the lines after it, and `left` those that are left then

-- the mirror that an event restarts
abbrev pub restarted_by : Event → Option ℕ
restarted_by (event.Restart i n) = Some i
restarted_by what = None

-- the token that the node of this number has published, where one is named
abbrev pub node_token : World → Option ℕ → Option (List ℕ)
node_token w None = None
node_token w (Some i) = published_token (node_of w i)

-- the world replies to the event, and that is told
abbrev pub IsReplied : World → Event → List ℕ → World → Type 0
IsReplied old what text new =
    (reply : Reply) × Step old what reply new
    × PrintsReply (node_token new (restarted_by what)) reply text

-- what the node of this number shows is printed
pub record IsShown (w : World) (number : ℕ) (text : List ℕ) : Type 0 where
  pub is_there : number ≤ length w.mirrors
  pub shown : text ≡ shown_text (node_of w number).published

-- the event happens, and the reply is printed
abbrev pub Happens : Event → World → LinesLeft → List ℕ → World → LinesLeft → Type 0
Happens what old behind text new left = (left ≡ behind) × IsReplied old what text new

-- the changes of the next lines, so many, are committed
pub record Commits (count : ℕ) (old : World) (behind : LinesLeft) (text : List ℕ) (new : World)
    (left : LinesLeft) : Type 0 where
  pub changes : List Change
  pub fed : TakesFeed behind left count changes
  pub replied : IsReplied old (event.Commit changes) text new

-- what is asked for is done, and this is printed
abbrev pub Does : Action → World → LinesLeft → List ℕ → World → LinesLeft → Type 0
Does (action.Commit count) old behind text new left = Commits count old behind text new left
Does (action.Event what) old behind text new left = Happens what old behind text new left
Does (action.Show i) old behind text new left = (left ≡ behind) × (new ≡ old) × IsShown old i text

-- what the line asks for is done
abbrev pub DoesAsked : Option Action → World → LinesLeft → List ℕ → World → LinesLeft → Type 0
DoesAsked (Some asked) old behind text new left = Does asked old behind text new left
DoesAsked None old behind text new left = ⊥

-- ---- why a further line stops the script

-- the world refuses the event, and not for want of memory
abbrev pub Refuses : World → Event → PlayCause → Type 0
Refuses w what (cause.World why) =
    (cause_of_world why ≡ cause.World why) × EventIsRefused w what why
Refuses w what cause.Script = ⊥
Refuses w what cause.Limits = ⊥
Refuses w what cause.Shape = ⊥
Refuses w what (cause.Line why) = ⊥
Refuses w what cause.Memory = ⊥

-- the same, told at the line that asks for it
abbrev pub StopsHappening : Event → World → LinesLeft → PlayFault → Type 0
StopsHappening what w behind why = (why.line ≡ behind.read) × Refuses w what why.cause

-- the feed lines are read, and the primary refuses the commit
pub record StopsCommitted (count : ℕ) (w : World) (behind : LinesLeft) (why : PlayFault)
    : Type 0 where
  pub changes : List Change
  pub left : LinesLeft
  pub fed : TakesFeed behind left count changes
  pub stops : StopsHappening (event.Commit changes) w behind why

-- there is no node of this number
abbrev pub StopsShowing : ℕ → World → LinesLeft → PlayFault → Type 0
StopsShowing number w behind why =
    (why ≡ record { line = behind.read; cause = cause.World NoNode }) × (length w.mirrors < number)

abbrev pub StopsDoing : Action → World → LinesLeft → PlayFault → Type 0
StopsDoing (action.Commit count) w behind why =
    StopsCommit behind count why ⊎ StopsCommitted count w behind why
StopsDoing (action.Event what) w behind why = StopsHappening what w behind why
StopsDoing (action.Show i) w behind why = StopsShowing i w behind why

-- what the line asks for can't be done, or it asks for nothing
abbrev pub StopsAsked : Option Action → World → LinesLeft → PlayFault → Type 0
StopsAsked (Some asked) w behind why = StopsDoing asked w behind why
StopsAsked None w behind why = why ≡ record { line = behind.read; cause = cause.Script }

-- ---- the same in memory, of whichever world the state is

-- the world replied to the event, and that was printed
abbrev pub Replies : Event → WorldState → WorldState → List ℕ → List ℕ → Type 0
Replies event old new printed_old printed_new =
    (w : World) → IsWorld w old → (after : World) × IsWorld after new
    × Prints printed_old printed_new (λ text. IsReplied w event text after)

-- the node of this number shows this, and that was printed
abbrev pub Shows : WorldState → ℕ → List ℕ → List ℕ → Type 0
Shows state number printed_old printed_new =
    (node : NodeState) × (shown_at state number ≡ Some node)
    × (printed_new ≡ printed_old ++ shown_text node.published)

-- what the line asks for was done
abbrev pub LineDone : Option Action → WorldState → WorldState → LinesLeft → LinesLeft → List ℕ
    → List ℕ → Type 0
LineDone asks old new behind left printed_old printed_new =
    (w : World) → IsWorld w old → (after : World) × IsWorld after new
    × Prints printed_old printed_new (λ text. DoesAsked asks w behind text after left)

-- why the event stops a script; for want of memory nothing is said
abbrev pub StopsEvent : WorldState → Event → PlayCause → Type 0
StopsEvent state event (cause.World why) =
    (cause_of_world why ≡ cause.World why)
    × ((w : World) → IsWorld w state → EventIsRefused w event why)
StopsEvent state event cause.Memory = Unit {0}
StopsEvent state event cause.Script = ⊥
StopsEvent state event cause.Limits = ⊥
StopsEvent state event cause.Shape = ⊥
StopsEvent state event (cause.Line why) = ⊥

-- why what a node shows can't be printed
abbrev pub StopsShow : WorldState → ℕ → PlayCause → Type 0
StopsShow state number (cause.World why) = (why ≡ NoNode) × (shown_at state number ≡ None)
StopsShow state number cause.Memory = Unit {0}
StopsShow state number cause.Script = ⊥
StopsShow state number cause.Limits = ⊥
StopsShow state number cause.Shape = ⊥
StopsShow state number (cause.Line why) = ⊥

-- why the line stops a script; for want of memory nothing is said
abbrev pub LineStops : Option Action → WorldState → LinesLeft → PlayFault → Type 0
LineStops asks old behind why =
    (w : World) → IsWorld w old → why.cause ≢ cause.Memory → StopsAsked asks w behind why

-- ---- several lines, and a whole script

-- the next line, and the lines behind it
pub record IsNext (lines : LinesLeft) (line : List ℕ) (behind : LinesLeft) : Type 0 where
  pub left : lines.left ≡ line ∷ behind.left
  pub read : behind.read ≡ lines.read + 1

-- what the next line asks for is done
pub record PlaysNext (asked : AskedWorld) (old : World) (lines : LinesLeft) (text : List ℕ)
    (new : World) (left : LinesLeft) : Type 0 where
  pub line : List ℕ
  pub behind : LinesLeft
  pub next : IsNext lines line behind
  pub does : DoesAsked (action_in asked line) old behind text new left

-- what the next lines ask for is done, one after another, and this is printed in all
pub data PlaysOn (asked : AskedWorld) (start : World) (lines : LinesLeft)
    : List ℕ → World → LinesLeft → Type 0 where
  none : PlaysOn asked start lines [] start lines
  one_more : (told text : List ℕ) (old new : World) (at left : LinesLeft)
      → PlaysOn asked start lines told old at → PlaysNext asked old at text new left
      → PlaysOn asked start lines (told ++ text) new left

-- the lines of a script behind the first one
abbrev pub behind_first_line : List (List ℕ) → LinesLeft
behind_first_line more = record { left = more; read = 1 }

-- The first line of the script says this of a world, and makes it. What the next ones ask for is
-- done in it, and this is printed: then the world is this one, and these lines are left.
pub record PlaysUpTo (script : List ℕ) (asked : AskedWorld) (told : List ℕ) (world : World)
    (left : LinesLeft) : Type 0 where
  pub first : List ℕ
  pub more : List (List ℕ)
  pub lines : lines_of script ≡ first ∷ more
  pub start : World
  pub makes : Makes first asked start
  pub plays : PlaysOn asked start (behind_first_line more) told world left

-- what all lines of the script ask for is done, and this is printed
pub record Plays (script told : List ℕ) : Type 0 where
  pub asked : AskedWorld
  pub world : World
  pub end : LinesLeft
  pub up_to : PlaysUpTo script asked told world end
  pub none_left : end.left ≡ []

-- the first of these lines; an empty one, where there is none
abbrev pub first_line : List (List ℕ) → List ℕ
first_line [] = []
first_line (line ∷ more) = line

-- the first line makes no world, and nothing is printed
pub record StopsAtFirstLine (script told : List ℕ) (why : PlayFault) : Type 0 where
  pub nothing : told ≡ []
  pub line : why.line ≡ 1
  pub makes_none : MakesNone (first_line (lines_of script)) why.cause

-- how many feed lines a line announces
abbrev pub lines_announced : Option Action → ℕ
lines_announced (Some (action.Commit count)) = count
lines_announced other = 0

-- A further line stops the script: it, or one of the feed lines that it announces. What the lines
-- before it ask for is done, and this is printed. For want of memory nothing else is said of it.
pub record StopsLater (script told : List ℕ) (why : PlayFault) : Type 0 where
  pub asked : AskedWorld
  pub world : World
  pub at : LinesLeft
  pub before : PlaysUpTo script asked told world at
  pub line : List ℕ
  pub behind : LinesLeft
  pub next : IsNext at line behind
  pub stops : why.cause ≢ cause.Memory → StopsAsked (action_in asked line) world behind why
  pub line_is : IsLineFrom behind.read (behind.read + lines_announced (action_in asked line))
      why.line

-- the script stops there, and this is printed before
abbrev pub StopsScript : List ℕ → List ℕ → PlayFault → Type 0
StopsScript script told why = StopsAtFirstLine script told why ⊎ StopsLater script told why
