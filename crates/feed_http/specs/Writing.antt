-- What comes of writing on a connection, by cases.
use Rattle.std.specs.Prelude.{◌≡◌, ℕ, List, Result, Ok, Err}
use Rattle.std.specs.Io.KnownBytes.{Appends}
use Rattle.feed_node.specs.declared.primary.CommitFault.{CommitFault}
use Rattle.feed_http.specs.declared.fault.EngineFault.{EngineFault}
use Rattle.feed_http.specs.declared.fault.EngineFault.TheVariants as fault
use Rattle.feed_http.specs.Device.{AppendsPrefix}
use Rattle.feed_http.specs.Exchange.{Wrote, failed_writes_after}

-- where not all was written
abbrev pub FailsBy : Type 0 → (CommitFault → Type 0) → EngineFault → Type 0
FailsBy Part Refused fault.Write = Part
FailsBy Part Refused fault.Memory = Part
FailsBy Part Refused (fault.Commit why) = Refused why
FailsBy Part Refused fault.Read = ⊥
FailsBy Part Refused fault.TooManyReads = ⊥
FailsBy Part Refused (fault.Follow why) = ⊥

abbrev pub EndsBy : {A : Type 0} → (A → Type 0) → Type 0 → (CommitFault → Type 0)
    → Result A EngineFault → Type 0
EndsBy All Part Refused (Ok value) = All value
EndsBy All Part Refused (Err why) = FailsBy Part Refused why

-- All was written; or a part of it, because a write failed or memory ran out; or as much as comes
-- before a batch that was refused. No write failed but the one that is the fault.
abbrev pub WritesBy : {A : Type 0} → Wrote → (A → Type 0) → Type 0 → (CommitFault → Type 0)
    → Result A EngineFault → Type 0
WritesBy wrote All Part Refused result =
    EndsBy All Part Refused result
    × (wrote.failed_new ≡ failed_writes_after wrote.failed_old result)

-- the same where no batch is taken
abbrev pub WritesAll : {A : Type 0} → Wrote → (A → Type 0) → Type 0 → Result A EngineFault → Type 0
WritesAll wrote All Part result = WritesBy wrote All Part (λ _. ⊥) result

-- a text was written, or a prefix of it
abbrev pub Writes : {A : Type 0} → Wrote → List ℕ → Result A EngineFault → Type 0
Writes wrote text result =
    WritesAll wrote (λ _. Appends wrote.old wrote.new text)
    (AppendsPrefix wrote.old wrote.new text) result
