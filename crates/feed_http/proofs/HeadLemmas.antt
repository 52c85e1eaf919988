-- Why the head of a request was not read.
use Rattle.std.proofs.Common.{◌≡◌, ◌⊎◌, inl, inr, sym, ap, ◌∙◌, subst, ℕ, List, Option, []}
use Rattle.std.specs.Prelude.{Result, Err}
use Rattle.std.specs.Io.KnownBytes.{Consumes}
use Rattle.feed_http.specs.declared.fault.EngineFault.{EngineFault}
use Rattle.feed_http.specs.declared.fault.EngineFault.TheVariants as fault
use Rattle.feed_http.specs.Device.{counted}
use Rattle.feed_http.specs.Exchange.{Gave, reads_failed, failed_reads_after}
use Rattle.feed_http.specs.HeadReading.{IsStillNeeded, HeadFails}
use Rattle.feed_http.proofs.DeviceLemmas.{taken_before}

-- the read that fails, or for which there is no memory, leaves the bytes
pub fails_at : (most_reads : ℕ) (gave : Gave) (middle : Option (List ℕ)) (before now : List ℕ)
    (why : EngineFault) → now ≡ before → Consumes gave.source middle before → IsStillNeeded before
    → (why ≡ fault.Read) ⊎ (why ≡ fault.Memory)
    → (why ≡ fault.Read → Consumes middle gave.left []) → HeadFails most_reads gave now why
fails_at most_reads gave middle before now why kept given still (inl is) unread =
    subst (HeadFails most_reads gave now) (sym is) (
      subst (Consumes gave.source gave.left) (sym kept)
          (taken_before gave.source middle gave.left before given (unread is)),
      subst IsStillNeeded (sym kept) still,
    )
fails_at most_reads gave middle before now why kept given still (inr is) unread =
    subst (HeadFails most_reads gave now) (sym is) tt

counts : (old middle new : ℕ) (why : EngineFault) → middle ≡ old
    → new ≡ reads_failed middle why → new ≡ reads_failed old why
counts old middle new fault.Read same is = is ∙ ap (λ n. counted n 1) same
counts old middle new fault.TooManyReads same is = is ∙ same
counts old middle new fault.Memory same is = is ∙ same
counts old middle new fault.Write same is = is ∙ same
counts old middle new (fault.Commit why) same is = is ∙ same
counts old middle new (fault.Follow why) same is = is ∙ same

-- the last read's fault is that of all reads
pub reads_passed : {A : Type 0} {old middle new : ℕ} {result : Result A EngineFault}
    {told : EngineFault} (why : EngineFault) → result ≡ Err told → told ≡ why → middle ≡ old
    → new ≡ reads_failed middle why → new ≡ failed_reads_after old result
reads_passed {A} {old} {middle} {new} {result} why is kept same count =
    subst (λ r. new ≡ failed_reads_after old r) (sym (is ∙ ap Err kept))
    (counts old middle new why same count)
