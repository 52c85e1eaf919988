-- What devices were called for, and what they answered.
use Rattle.std.specs.Prelude.{ℕ, Bool, List, Result}
use Rattle.feed_device.specs.declared.device.Stop.{Stop}

pub data Entry : Type 0 where
  accepted : ℕ → Bool → Entry
  read : ℕ → Result ℕ Stop → List ℕ → Entry
  wrote : ℕ → Result ℕ Stop → List ℕ → Entry
  closed : ℕ → Entry
  begun : ℕ → Bool → Entry
  looked : Result Bool Stop → Entry
  shown_once : ℕ → Entry
  shown_all : ℕ → Entry
  came : List ℕ → Entry
  came_to_end : Entry
  waited : ℕ → Bool → Bool → Entry
  reported : Entry
  failed : Entry
