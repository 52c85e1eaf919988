-- What screens are owed: the long texts that connections have yet to take, and nothing else.
use Rattle.std.specs.Prelude.{◌≡◌, ◌≢◌, ℕ, ◌<◌, List, length, Option, Some, None, HoldsAt}
use Rattle.slab.specs.Slab.{get}
use Rattle.feed_screens.specs.declared.screens.Screens.{Screens}
use Rattle.feed_screens.specs.declared.screens.pending.Text.{Text}
use Rattle.feed_screens.specs.declared.screens.pending.TextId.{TextId}
use Rattle.feed_screens.specs.Pending.{total, owed_text_at, HasNone, AreDistinct}

-- the texts that count
abbrev pub pending_texts : Screens → List Text
pending_texts screens = screens.pending.texts.list.items

-- the one that the screen at a place has yet to take, where there is one
abbrev pub held_at : Screens → ℕ → Option TextId
held_at screens at = owed_text_at screens.pending.places.items at

-- the connection at this place has yet to take it
pub record HasYetToTake (screens : Screens) (id : TextId) : Type 0 where
  pub place : ℕ
  pub held : held_at screens place ≡ Some id
  pub connected : get screens.conns place ≢ None

-- Each text that counts is one that a connection has yet to take, and the text that a screen has
-- yet to take counts; none counts twice. So where nobody is connected nothing is owed.
pub record OwesWhatIsKept (screens : Screens) : Type 0 where
  pub taken : (at : ℕ) → at < length (pending_texts screens)
      → HoldsAt (λ text. HasYetToTake screens text.id) (pending_texts screens) at
  pub counted : (place : ℕ) (id : TextId) → held_at screens place ≡ Some id
      → ¬ (HasNone (pending_texts screens) id)
  pub once : AreDistinct (pending_texts screens)
  pub nobody : ((place : ℕ) → get screens.conns place ≡ None) → total (pending_texts screens) ≡ 0

-- so it is at any time
abbrev pub OwesAlwaysWhatIsKept : Type 0
OwesAlwaysWhatIsKept = (screens : Screens) → OwesWhatIsKept screens
