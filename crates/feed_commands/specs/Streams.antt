-- What a command read and wrote.
use Rattle.std.specs.Prelude.{ℕ, List, Option}

-- The streams of a command before it and after it: the bytes that are left to read and those that
-- were written, where they are known, and how many reads and writes failed.
pub record Streams : Type 0 where
  pub input_old : Option (List ℕ)
  pub input_new : Option (List ℕ)
  pub out_old : Option (List ℕ)
  pub out_new : Option (List ℕ)
  pub failed_reads_old : ℕ
  pub failed_reads_new : ℕ
  pub failed_writes_old : ℕ
  pub failed_writes_new : ℕ

module _ {R W : Type 0} where
  -- the streams over a reader and a writer, by what their devices say of them
  abbrev pub streams_of : (R → Option (List ℕ)) → (R → ℕ) → (W → Option (List ℕ)) → (W → ℕ)
      → R → R → W → W → Streams
  streams_of remaining failed_reads contents failed_writes input_old input_new out_old out_new =
      record {
        input_old = remaining input_old;
        input_new = remaining input_new;
        out_old = contents out_old;
        out_new = contents out_new;
        failed_reads_old = failed_reads input_old;
        failed_reads_new = failed_reads input_new;
        failed_writes_old = failed_writes out_old;
        failed_writes_new = failed_writes out_new;
      }
