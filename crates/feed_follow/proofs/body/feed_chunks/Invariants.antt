-- The bytes so far were read, and what they carry was fed.
use Rattle.std.proofs.Common.{◌≡◌, ◌≤◌, ◌-◌, length, take}
use Rattle.feed_wire.specs.ChunkReading.{IsChunkPlace}
use Rattle.feed_follow.specs.Feeding.{FeedsChunks}
use Rattle.feed_follow.proofs.body.feed_chunks.Given as goal

abbrev pub invariant-chunks : goal.invariant-chunks
invariant-chunks l =
    record {
      within : l.read ≤ length l.piece;
      place : IsChunkPlace l.at;
      feeds : FeedsChunks l.initial.at (take l.read l.piece) l.initial.mirror l.at l.mirror;
      limits : l.mirror.limits ≡ l.initial.mirror.limits;
    }

abbrev pub decreases-chunks : goal.decreases-chunks
decreases-chunks l = length l.piece - l.read
