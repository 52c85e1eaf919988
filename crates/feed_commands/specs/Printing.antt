-- What is written to a device through bytes that wait for it.
use Rattle.std.specs.Prelude.{◌≡◌, ℕ, Bool, true, false, List, [], ◌++◌, Option, Some, codes}
use Rattle.std.specs.Io.KnownBytes.{Appends}
use Rattle.feed_http.specs.Device.{AppendsPrefix, HasFailed}
use Rattle.feed_changes.specs.declared.change.Change.{Change}
use Rattle.feed_note.specs.Written.{written_change, written_token}
use Rattle.feed_commands.specs.declared.printing.Printer.{Printer}
use Rattle.feed_commands.specs.declared.printing.Waiting.{Waiting}

-- a prefix of what waited and of the text was written between these two contents of a device, and
-- the rest waits
abbrev pub FlushesSome : Option (List ℕ) → Option (List ℕ) → List ℕ → List ℕ → List ℕ → Type 0
FlushesSome old new before after text =
    (sent : List ℕ) × (before ++ text ≡ sent ++ after) × Appends old new sent

-- a text was written to a device between these contents and counts of failures, by way of what
-- waited before and waits after
pub record WritesText (old new : Option (List ℕ)) (failures failures_after : ℕ)
    (before after : Waiting) (text : List ℕ) : Type 0 where
  -- where no write has failed up to here, none of the text is lost
  pub sends : after.has_failed ≡ false → (before.has_failed ≡ false) × (failures_after ≡ failures)
      × FlushesSome old new before.bytes after.bytes text
  -- where one fails here, a prefix was written
  pub fails : before.has_failed ≡ false → after.has_failed ≡ true
      → AppendsPrefix old new (before.bytes ++ text) × HasFailed failures failures_after
  -- and nothing is written after it
  pub rests : before.has_failed ≡ true → (after.has_failed ≡ true) × (new ≡ old)
      × (failures_after ≡ failures)

-- the end of the line before, where one is begun
abbrev pub end_before : Bool → List ℕ
end_before false = []
end_before true = codes "}\n"

-- the end of the last line, with the token on it
abbrev pub end_with : List ℕ → List ℕ
end_with token = written_token (Some token) ++ codes "}\n"

module _ {W : Type 0} (contents : W → Option (List ℕ)) (failures : W → ℕ) where
  -- a text was written to the device of a printer between these two
  pub record PrintsText (old new : Printer W) (text : List ℕ) : Type 0 where
    pub same_device : new.device.ghost_name ≡ old.device.ghost_name
    pub written : WritesText (contents old.device.now) (contents new.device.now)
        (failures old.device.now) (failures new.device.now) old.waiting new.waiting text

  -- the line of a change was written to it between these two but for its end, and a write has
  -- failed by now or not
  abbrev pub PrintsChange : Bool → Printer W → Change → Printer W → Type 0
  PrintsChange has_failed old change new =
      PrintsText old new (end_before old.is_begun ++ written_change change)
      × (new.is_begun ≡ true) × (new.waiting.has_failed ≡ has_failed)
