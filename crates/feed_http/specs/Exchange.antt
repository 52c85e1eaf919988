-- What the reader and the writer of one connection tell, before and after.
use Rattle.std.specs.Prelude.{◌≡◌, ℕ, List, Option, Result, Ok, Err}
use Rattle.feed_http.specs.declared.fault.EngineFault.{EngineFault}
use Rattle.feed_http.specs.declared.fault.EngineFault.TheVariants.{Read, Write}
use Rattle.feed_http.specs.Device.{counted}

-- the bytes that are left to read and those that were written, where they are known, how many reads
-- were made, and how many reads and writes failed
pub record Exchange : Type 0 where
  pub source : Option (List ℕ)
  pub left : Option (List ℕ)
  pub reads_old : ℕ
  pub reads_new : ℕ
  pub failed_reads_old : ℕ
  pub failed_reads_new : ℕ
  pub written_old : Option (List ℕ)
  pub written_new : Option (List ℕ)
  pub failed_writes_old : ℕ
  pub failed_writes_new : ℕ

-- what readers and writers of these types tell: the bytes that are left, the reads made and failed,
-- the bytes written and the writes failed
pub record Devices (R W : Type 0) : Type 0 where
  pub remaining : R → Option (List ℕ)
  pub reads : R → ℕ
  pub failed_reads : R → ℕ
  pub contents : W → Option (List ℕ)
  pub failed_writes : W → ℕ

module _ {R W : Type 0} where
  -- what they tell of this reader and this writer, before and after
  abbrev pub exchange : Devices R W → R → R → W → W → Exchange
  exchange devices reader_old reader_new writer_old writer_new = record {
    source = devices.remaining reader_old;
    left = devices.remaining reader_new;
    reads_old = devices.reads reader_old;
    reads_new = devices.reads reader_new;
    failed_reads_old = devices.failed_reads reader_old;
    failed_reads_new = devices.failed_reads reader_new;
    written_old = devices.contents writer_old;
    written_new = devices.contents writer_new;
    failed_writes_old = devices.failed_writes writer_old;
    failed_writes_new = devices.failed_writes writer_new;
  }

  abbrev pub devices_of : (R → Option (List ℕ)) → (R → ℕ) → (R → ℕ) → (W → Option (List ℕ))
      → (W → ℕ) → Devices R W
  devices_of remaining reads failed_reads contents failed_writes = record {
    remaining = remaining;
    reads = reads;
    failed_reads = failed_reads;
    contents = contents;
    failed_writes = failed_writes;
  }

-- a count of failed reads behind a fault: one more where that is a failed read
abbrev pub reads_failed : ℕ → EngineFault → ℕ
reads_failed count Read = counted count 1
reads_failed count _ = count

-- a count of failed writes behind a fault: one more where that is a failed write
abbrev pub writes_failed : ℕ → EngineFault → ℕ
writes_failed count Write = counted count 1
writes_failed count _ = count

-- the same behind a call, which may have no fault
abbrev pub failed_reads_after : {A : Type 0} → ℕ → Result A EngineFault → ℕ
failed_reads_after count (Ok _) = count
failed_reads_after count (Err fault) = reads_failed count fault

abbrev pub failed_writes_after : {A : Type 0} → ℕ → Result A EngineFault → ℕ
failed_writes_after count (Ok _) = count
failed_writes_after count (Err fault) = writes_failed count fault

-- no read and no write of a connection failed but the one that is the fault
abbrev pub FailuresAreTold : {A : Type 0} → Exchange → Result A EngineFault → Type 0
FailuresAreTold spoken result =
    (spoken.failed_reads_new ≡ failed_reads_after spoken.failed_reads_old result)
    × (spoken.failed_writes_new ≡ failed_writes_after spoken.failed_writes_old result)

-- What one reader gave: the bytes that are left of it before and after, where they are known, how
-- many reads were made, and how many failed.
pub record Gave : Type 0 where
  pub source : Option (List ℕ)
  pub left : Option (List ℕ)
  pub reads_old : ℕ
  pub reads_new : ℕ
  pub failed_old : ℕ
  pub failed_new : ℕ

-- what a reader gave, by what its device says of it
abbrev pub gave_by : {R : Type 0} → (R → Option (List ℕ)) → (R → ℕ) → (R → ℕ) → R → R → Gave
gave_by remaining reads failures old new = record {
  source = remaining old;
  left = remaining new;
  reads_old = reads old;
  reads_new = reads new;
  failed_old = failures old;
  failed_new = failures new;
}

-- what the reader of a connection gave
abbrev pub gave_on : Exchange → Gave
gave_on spoken = record {
  source = spoken.source;
  left = spoken.left;
  reads_old = spoken.reads_old;
  reads_new = spoken.reads_new;
  failed_old = spoken.failed_reads_old;
  failed_new = spoken.failed_reads_new;
}

-- What one device was written: the bytes of it before and after, where they are known, and how many
-- writes failed.
pub record Wrote : Type 0 where
  pub old : Option (List ℕ)
  pub new : Option (List ℕ)
  pub failed_old : ℕ
  pub failed_new : ℕ

-- what a writer was written, by what its device says of it
abbrev pub wrote_by : {W : Type 0} → (W → Option (List ℕ)) → (W → ℕ) → W → W → Wrote
wrote_by contents failures old new = record {
  old = contents old;
  new = contents new;
  failed_old = failures old;
  failed_new = failures new;
}
