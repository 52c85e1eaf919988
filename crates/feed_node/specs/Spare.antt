-- Memory that is kept for changes.
use Rattle.std.specs.Prelude.{◌≡◌, ◌≤◌, ℕ, Vec, []}
use Rattle.std.specs.Vec.{vec_capacity}
use Rattle.std.specs.declared.alloc.Global.{Global}
use Rattle.feed_changes.specs.declared.change.Change.{Change}

-- how many changes it has room for, at most
abbrev pub most_spare : ℕ
most_spare = 32

-- no change lies in the memory, and there is little of it
pub record IsSpare (memory : Vec Change Global) : Type 0 where
  pub empty : memory.items ≡ []
  pub little : vec_capacity memory ≤ most_spare
