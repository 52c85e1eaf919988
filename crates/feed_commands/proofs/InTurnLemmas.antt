-- Lemmas on what is done one after another.
use Rattle.std.proofs.Common.{◌≡◌, refl, ap, ◌∙◌, ℕ, ◌+◌, List, [], ◌∷◌, ◌++◌, length, length-append}
use Rattle.feed_commands.specs.InTurn.{InTurn, none_done, one_done}

module _ {S X : Type 0} (Does : S → X → S → Type 0) where
  -- so many were done
  abbrev pub DoneTimes : ℕ → S → S → Type 0
  DoneTimes count start end = (all : List X) × (length all ≡ count) × InTurn Does start all end

  pub done_none : (start : S) → DoneTimes 0 start start
  done_none start = ([], refl, none_done)

  pub done_more : (count : ℕ) (start middle end : S) (this : X) → DoneTimes count start middle
      → Does middle this end → DoneTimes (count + 1) start end
  done_more count start middle end this (all, many, run) does = (
    all ++ this ∷ [],
    length-append all (this ∷ []) ∙ ap (λ n. n + 1) many,
    one_done all this middle end run does,
  )
