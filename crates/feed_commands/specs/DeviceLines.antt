-- A device whose bytes are read line by line: what is left of them, and why that ends.
use Rattle.std.specs.Prelude.{◌⊎◌, ℕ, ◌+◌, ◌-◌, ◌<◌, List, length, take, drop, Option}
use Rattle.std.specs.Io.KnownBytes.{prepend_known}
use Rattle.feed_records.specs.declared.reading.Unread.{Unread}
use Rattle.feed_records.specs.declared.reading.Unread.TheVariants.{Failed, TooLong, Memory}
use Rattle.feed_commands.specs.declared.device_lines.DeviceLines.{DeviceLines}

-- the greatest number of bytes of a record that is read line by line
abbrev pub streamed_bytes : ℕ
streamed_bytes = 1099511627776

module _ {R : Type 0} where
  abbrev pub input_of : DeviceLines R → R
  input_of lines = lines.input

  -- how many bytes the device gave
  abbrev pub given_of : DeviceLines R → ℕ
  given_of lines = lines.given

  -- the bytes that were read and not passed
  abbrev pub ahead_of : DeviceLines R → List ℕ
  ahead_of lines = drop lines.start lines.bytes.items

  -- those of them that were looked at
  abbrev pub front_of : DeviceLines R → List ℕ
  front_of lines = take lines.looked (ahead_of lines)

  -- the bytes that are left, where it is known which the device has
  abbrev pub left_of : (R → Option (List ℕ)) → DeviceLines R → Option (List ℕ)
  left_of remaining lines = prepend_known (ahead_of lines) (remaining lines.input)

  -- how many may be left: those ahead, and what the device may still give, a piece more than the
  -- limit
  abbrev pub room_of : DeviceLines R → ℕ
  room_of lines = (1099511631872 - lines.given) + length (ahead_of lines)

-- A read of the device failed, or it gave more bytes than a record may have. A want of memory says
-- nothing.
abbrev pub IsUnreadable : ℕ → ℕ → Unread → Type 0
IsUnreadable failures given Failed = 0 < failures
IsUnreadable failures given TooLong = streamed_bytes < given
IsUnreadable failures given Memory = Unit {0}

-- why a record can't be opened
abbrev pub FailsToOpen : Type 0 → Unread → Type 0
FailsToOpen shut Failed = shut
FailsToOpen shut TooLong = ⊥
FailsToOpen shut Memory = Unit {0}

-- why one can't be read that can be opened again
abbrev pub FailsToReplay : Type 0 → ℕ → ℕ → Unread → Type 0
FailsToReplay shut failures given why = FailsToOpen shut why ⊎ IsUnreadable failures given why
