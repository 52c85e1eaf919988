-- What is done one after another.
use Rattle.std.specs.Prelude.{List, [], ◌∷◌, ◌++◌}

-- Each of these was done from what those before it left, the first one from the start.
pub data InTurn {S X : Type 0} (Does : S → X → S → Type 0) (start : S) : List X → S → Type 0 where
  none_done : InTurn Does start [] start
  one_done : (before : List X) (this : X) (middle end : S) → InTurn Does start before middle
      → Does middle this end → InTurn Does start (before ++ this ∷ []) end
