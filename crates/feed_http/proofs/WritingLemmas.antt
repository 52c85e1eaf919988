-- What is passed up where writing ends.
use Rattle.std.proofs.Common.{◌≡◌, sym, ap, ◌∙◌, subst, ℕ}
use Rattle.std.specs.Prelude.{Result, Err}
use Rattle.feed_node.specs.declared.primary.CommitFault.{CommitFault}
use Rattle.feed_http.specs.declared.fault.EngineFault.{EngineFault}
use Rattle.feed_http.specs.declared.fault.EngineFault.TheVariants as fault
use Rattle.feed_http.specs.Device.{counted}
use Rattle.feed_http.specs.Exchange.{writes_failed, failed_writes_after}
use Rattle.feed_http.specs.Writing.{FailsBy, EndsBy}

module _ {Part Some : Type 0} {Refused Denied : CommitFault → Type 0} {old new between later : ℕ} where
  passed_by : (given : EngineFault) → between ≡ old → later ≡ new → (Some → Part)
      → ((why : CommitFault) → Denied why → Refused why)
      → FailsBy Some Denied given × (later ≡ writes_failed between given)
      → FailsBy Part Refused given × (new ≡ writes_failed old given)
  passed_by fault.Write same now part refused (some, failed) =
      (part some, sym now ∙ failed ∙ ap (λ n. counted n 1) same)
  passed_by fault.Memory same now part refused (some, quiet) = (part some, sym now ∙ quiet ∙ same)
  passed_by (fault.Commit why) same now part refused (denied, quiet) =
      (refused why denied, sym now ∙ quiet ∙ same)
  passed_by fault.Read same now part refused (none, quiet) = absurd none
  passed_by fault.TooManyReads same now part refused (none, quiet) = absurd none
  passed_by (fault.Follow why) same now part refused (none, quiet) = absurd none

  -- the fault of what was written last is that of all that was written
  pub passed : {A : Type 0} (All : A → Type 0) {result : Result A EngineFault}
      {told given : EngineFault} → result ≡ Err told → told ≡ given → between ≡ old → later ≡ new
      → (Some → Part) → ((why : CommitFault) → Denied why → Refused why)
      → FailsBy Some Denied given × (later ≡ writes_failed between given)
      → EndsBy All Part Refused result × (new ≡ failed_writes_after old result)
  passed {A} All {result} {told} {given} is kept same now part refused f =
      subst (λ r. EndsBy All Part Refused r × (new ≡ failed_writes_after old r))
      (sym (is ∙ ap Err kept)) (passed_by given same now part refused f)

-- memory ran out
pub ran_out : {A : Type 0} (All : A → Type 0) {Part : Type 0} (Refused : CommitFault → Type 0)
    (old new : ℕ) {result : Result A EngineFault} {told : EngineFault} → result ≡ Err told
    → told ≡ fault.Memory → Part → new ≡ old
    → EndsBy All Part Refused result × (new ≡ failed_writes_after old result)
ran_out {A} All {Part} Refused old new is kept part quiet =
    subst (λ r. EndsBy All Part Refused r × (new ≡ failed_writes_after old r))
    (sym (is ∙ ap Err kept)) (part, quiet)
