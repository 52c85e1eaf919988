-- The cause that stops a script, for the fault of what it calls.
use Rattle.std.specs.Prelude.{Bool, true, false}
use Rattle.feed_node.specs.declared.primary.CommitFault.TheVariants as commit
use Rattle.feed_note.specs.declared.line.LineFault.{LineFault}
use Rattle.feed_note.specs.declared.line.LineFault.TheVariants as fault
use Rattle.feed_world.specs.declared.event.ShapeFault.{ShapeFault}
use Rattle.feed_world.specs.declared.event.ShapeFault.TheVariants as shape
use Rattle.feed_world.specs.declared.event.WorldFault.{WorldFault}
use Rattle.feed_world.specs.declared.event.WorldFault.TheVariants as world
use Rattle.feed_play.specs.declared.fault.PlayCause.{PlayCause}
use Rattle.feed_play.specs.declared.fault.PlayCause.TheVariants.{Shape, Line, World, Memory}

-- a feed line has no meaning
abbrev pub cause_of_line : LineFault → PlayCause
cause_of_line fault.Memory = Memory
cause_of_line reason = Line reason

-- the world refused an event
abbrev pub cause_of_world : WorldFault → PlayCause
cause_of_world world.Memory = Memory
cause_of_world (world.Commit commit.Memory) = Memory
cause_of_world reason = World reason

-- no world has so many nodes
abbrev pub cause_of_shape : ShapeFault → PlayCause
cause_of_shape shape.BadShape = Shape
cause_of_shape shape.Memory = Memory

abbrev pub is_play_memory : PlayCause → Bool
is_play_memory Memory = true
is_play_memory cause = false
