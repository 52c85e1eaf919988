-- Lemmas on what the command `audit` prints.
use Rattle.std.proofs.Common.{◌≡◌, refl, sym, ap, subst, inl, inr, List, ℕ, Option, Some, None, Result, Ok, Err, IfErr, OnOk, OnErr}
use Rattle.std.specs.Io.KnownBytes.{Appends, Keeps}
use Rattle.feed_audit.specs.Records.{RecordStrays}
use Rattle.feed_audit.specs.declared.difference.Difference.{Difference}
use Rattle.feed_audit.specs.declared.difference.Difference.TheVariants as difference
use Rattle.feed_audit.specs.declared.verdict.AuditFault.{AuditFault}
use Rattle.feed_audit.specs.declared.verdict.AuditFault.TheVariants as audit
use Rattle.feed_audit.specs.declared.verdict.Stray.{Stray}
use Rattle.feed_http.specs.Device.{AppendsPrefix}
use Rattle.feed_arguments.specs.declared.request.AuditOptions.{AuditOptions}
use Rattle.feed_commands.specs.Audit.{stray_printed, stray_fault, AuditFails, FailsToCompare, PrintsAgreement, TellsAgreement, TellsStray}
use Rattle.feed_commands.specs.Fault.{fault_of_audit}
use Rattle.feed_commands.specs.declared.fault.Fault.{Fault}
use Rattle.feed_commands.specs.declared.fault.Fault.TheVariants as fault

-- what was not written to stays as it was
pub keeps_itself : (bytes : Option (List ℕ)) → Keeps bytes bytes
keeps_itself None = tt
keeps_itself (Some bytes) = refl

-- a record can't be read, and nothing was printed
pub compare_fails : (options : AuditOptions) (primary screen : List ℕ) (out : Option (List ℕ)) (why : AuditFault)
    → FailsToCompare options primary screen why → AuditFails options primary screen (fault_of_audit why) out out
compare_fails options primary screen out audit.Memory fails = keeps_itself out
compare_fails options primary screen out (audit.Primary line fault) fails = (fails, keeps_itself out)
compare_fails options primary screen out (audit.Screen line fault) fails = (fails, keeps_itself out)
compare_fails options primary screen out (audit.Chunked line) fails = (fails, keeps_itself out)
compare_fails options primary screen out (audit.OtherToken line) fails = (fails, keeps_itself out)
compare_fails options primary screen out (audit.PrimaryUnread why) fails = (fails, keeps_itself out)
compare_fails options primary screen out (audit.ScreenUnread why) fails = (fails, keeps_itself out)

module _ (options : AuditOptions) (primary screen : List ℕ) (old new : Option (List ℕ)) where
  -- a prefix was printed of what is said of a stray state
  pub stray_prefix : (why : Fault) (stray : Stray) (text : List ℕ) → why ≡ fault.Write
      → RecordStrays options.limits primary screen stray
      → text ≡ stray_printed options.json options.verbose stray → AppendsPrefix old new text
      → AuditFails options primary screen why old new
  stray_prefix why stray text failed strays told printed =
      subst (λ w. AuditFails options primary screen w old new) (sym failed)
      (text, inr (stray_fault stray.difference, record { stray = stray; strays = strays; why_is = refl; text_is = told }), printed)

  -- it was printed
  pub stray_fails : (why : Fault) (stray : Stray) (text : List ℕ) → why ≡ stray_fault stray.difference
      → RecordStrays options.limits primary screen stray → text ≡ stray_printed options.json options.verbose stray → Appends old new text
      → AuditFails options primary screen why old new
  stray_fails why stray text why_is strays told printed =
      subst (λ w. AuditFails options primary screen w old new) (sym why_is) (by stray.difference refl)
    where
      tells : (w : Fault) → w ≡ stray_fault stray.difference → TellsStray options primary screen w text
      tells w is = record { stray = stray; strays = strays; why_is = is; text_is = told }

      by : (d : Difference) → stray.difference ≡ d → AuditFails options primary screen (stray_fault d) old new
      by difference.NoToken e = (text, tells fault.Differs (sym (ap stray_fault e)), printed)
      by (difference.Ended last) e = (text, tells fault.Ended (sym (ap stray_fault e)), printed)
      by (difference.At kind id side other) e = (text, tells fault.Differs (sym (ap stray_fault e)), printed)
      by difference.Same e = (text, tells fault.Differs (sym (ap stray_fault e)), printed)

  -- an agreement was printed
  pub agreement_printed : {A E : Type 0} (result : Result A E) (text : List ℕ) → TellsAgreement options primary screen text
      → OnOk result (Appends old new text) → OnOk result (PrintsAgreement options primary screen old new)
  agreement_printed (Ok done) text tells printed = (text, tells, printed)
  agreement_printed (Err why) text tells printed = tt

  -- a prefix of it was printed
  pub agreement_prefix : {A : Type 0} (result : Result A Fault) (text : List ℕ) → TellsAgreement options primary screen text
      → IfErr result (λ why. why ≡ fault.Write) → OnErr result (AppendsPrefix old new text)
      → IfErr result (λ why. AuditFails options primary screen why old new)
  agreement_prefix (Ok done) text tells failed printed = tt
  agreement_prefix (Err why) text tells failed printed =
      subst (λ w. AuditFails options primary screen w old new) (sym failed) (text, inl tells, printed)
