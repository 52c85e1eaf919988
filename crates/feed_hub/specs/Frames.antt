-- The numbers of long texts: two have the same only if they are the same text.
use Rattle.std.specs.Prelude.{◌≡◌, ◌+◌, ◌⊎◌, ◌++◌, ◌∷◌, ◌&&◌, ◌==◌, [], ℕ, Bool, List, Option, Some, None, Contains, length, nat_le}
use Rattle.feed_hub.specs.declared.frames.Frame.{Frame}
use Rattle.feed_hub.specs.declared.frames.Frames.{Frames}

-- the text is kept with this number
abbrev pub IsKeptAs : List Frame → List ℕ → ℕ → Type 0
IsKeptAs kept text number =
    (frame : Frame) × Contains kept frame × (frame.number ≡ number) × (frame.text ≡ text)

-- it is kept behind those that were kept before, with this number
abbrev pub KeepsOneMore : List Frame → List Frame → List ℕ → ℕ → Type 0
KeepsOneMore old new text number =
    (frame : Frame) × (new ≡ old ++ frame ∷ []) × (frame.number ≡ number) × (frame.text ≡ text)

-- whether a text that is kept has so many bytes, and was made after so many others
abbrev pub is_since : ℕ → ℕ → Frame → Bool
is_since made bytes frame = nat_le made frame.number && (length frame.text == bytes)

-- Which number a text gets: the next one, which no other gets then, and with which it is kept from
-- now on; or that with which it is kept.
abbrev pub GivesNumber : Frames → Frames → List ℕ → Option ℕ → Type 0
GivesNumber old new text None = new.next ≡ old.next
GivesNumber old new text (Some number) =
    ((number ≡ old.next) × (new.next ≡ old.next + 1) × IsKeptAs new.kept.items text number)
    ⊎ ((new.next ≡ old.next) × IsKeptAs old.kept.items text number)
