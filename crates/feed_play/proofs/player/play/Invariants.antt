-- What was printed is what the lines so far ask for, of a run that leads to the world in memory;
-- and no line is lost.
use Rattle.std.proofs.Common.{◌≡◌, length}
use Rattle.feed_world.specs.States.{IsWorld}
use Rattle.feed_world.specs.World.{World}
use Rattle.feed_play.specs.Printed.{Prints}
use Rattle.feed_play.specs.Player.{PlaysUpTo}
use Rattle.feed_play.specs.Lines.{all_lines}
use Rattle.feed_play.proofs.player.play.Given as goal

abbrev pub invariant-lines : goal.invariant-lines
invariant-lines l = record {
  all : all_lines l.lines ≡ all_lines l.initial.lines;
  played : (w : World) × IsWorld w l.world × Prints l.initial.out.items l.out.items (λ told. PlaysUpTo l.fn.script l.asked told w l.lines);
}

abbrev pub decreases-lines : goal.decreases-lines
decreases-lines l = length l.lines.left
