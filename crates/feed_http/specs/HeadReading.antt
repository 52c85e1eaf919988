-- How the head of a request is read: no further than it takes.
use Rattle.std.specs.Prelude.{ℕ, ◌-◌, ◌≤◌, ◌⊎◌, min, nat_lt, if◌then◌else◌, List, [], ◌++◌, length, Result, Ok, Err}
use Rattle.std.specs.Io.KnownBytes.{Consumes, IsAtEnd}
use Rattle.httparse.specs.Grammar.{RequestHead, NeverHasRequest}
use Rattle.feed_wire.specs.HeadSizes.{head_bytes, IsPastLimits}
use Rattle.feed_wire.specs.Heads.{BeginsWithRequest, HasNoWholeRequest, IsTooLargeRequest}
use Rattle.feed_http.specs.declared.fault.EngineFault.{EngineFault}
use Rattle.feed_http.specs.declared.fault.EngineFault.TheVariants as fault
use Rattle.feed_http.specs.Device.{RoseBy}
use Rattle.feed_http.specs.Exchange.{Gave}

-- how many bytes one read asks for at most
abbrev pub read_bytes : ℕ
read_bytes = 4096

-- how many bytes the next read asks for, after so many: not past the most that a head may have, and
-- then one
abbrev pub most_after : ℕ → ℕ
most_after len = if nat_lt len head_bytes then min read_bytes (head_bytes - len) else 1

-- the bytes are no whole head, and one may still end within the limits
abbrev pub IsStillNeeded : List ℕ → Type 0
IsStillNeeded bytes = HasNoWholeRequest bytes × ¬ (IsPastLimits bytes)

-- the bytes begin with a whole head, are too large, or never become a head
abbrev pub IsEnough : List ℕ → Type 0
IsEnough bytes =
    ((head : RequestHead) × (rest : List ℕ) × BeginsWithRequest bytes head rest)
    ⊎ (IsTooLargeRequest bytes ⊎ NeverHasRequest bytes)

-- the bytes are what reads gave, each of which was still needed and asked for no more than it may
pub data IsReadAsNeeded : List ℕ → Type 0 where
  none_read : IsReadAsNeeded []
  more_read : (prefix last : List ℕ) → IsReadAsNeeded prefix → IsStillNeeded prefix
      → length last ≤ most_after (length prefix) → IsReadAsNeeded (prefix ++ last)

-- why a head was not read: a read failed, or was one too many (of `most_reads`), where it was still
-- needed; or memory ran out
abbrev pub HeadFails : ℕ → Gave → List ℕ → EngineFault → Type 0
HeadFails most_reads gave head fault.Read =
    Consumes gave.source gave.left head × IsStillNeeded head
HeadFails most_reads gave head fault.TooManyReads =
    Consumes gave.source gave.left head × IsStillNeeded head
    × RoseBy gave.reads_old gave.reads_new most_reads
HeadFails most_reads gave head fault.Memory = Unit {0}
HeadFails most_reads gave head fault.Write = ⊥
HeadFails most_reads gave head (fault.Commit why) = ⊥
HeadFails most_reads gave head (fault.Follow why) = ⊥

-- these bytes of a head were read: enough, or all that there were
abbrev pub HeadEnds : {A : Type 0} → ℕ → Gave → List ℕ → Result A EngineFault → Type 0
HeadEnds most_reads gave head (Ok _) =
    Consumes gave.source gave.left head × (IsEnough head ⊎ IsAtEnd gave.left)
HeadEnds most_reads gave head (Err why) = HeadFails most_reads gave head why
