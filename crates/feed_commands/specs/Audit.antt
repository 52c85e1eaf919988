-- What the command `audit` reads and prints.
use Rattle.std.specs.Prelude.{◌≡◌, ◌⊎◌, ℕ, ◌≤◌, Bool, true, false, List, Option}
use Rattle.std.specs.Io.KnownBytes.{Appends, Keeps}
use Rattle.feed_audit.specs.Answers.{HasStates, FailsToCount}
use Rattle.feed_audit.specs.Records.{RecordAgrees, RecordStrays, FailsToAuditRecord}
use Rattle.feed_audit.specs.Stops.{IsUnread}
use Rattle.feed_verdicts.specs.Verdicts.{agreement_text, agreement_json, stray_text, stray_json}
use Rattle.feed_records.specs.declared.reading.Unread.{Unread}
use Rattle.feed_audit.specs.declared.verdict.AuditFault.{AuditFault}
use Rattle.feed_audit.specs.declared.difference.Difference.{Difference}
use Rattle.feed_audit.specs.declared.difference.Difference.TheVariants as difference
use Rattle.feed_audit.specs.declared.verdict.Stray.{Stray}
use Rattle.feed_http.specs.Device.{AppendsPrefix}
use Rattle.feed_arguments.specs.declared.request.AuditOptions.{AuditOptions}
use Rattle.feed_commands.specs.declared.fault.Fault.{Fault}
use Rattle.feed_commands.specs.declared.fault.Fault.TheVariants as fault

-- the greatest number of bytes of a record
abbrev pub record_bytes : ℕ
record_bytes = 536870912

-- how an agreement is printed: as JSON, or as a line
abbrev pub agreement_printed : Bool → ℕ → ℕ → List ℕ
agreement_printed true states primary = agreement_json states primary
agreement_printed false states primary = agreement_text states primary

-- and a stray state: as JSON, or as lines with objects whole or not
abbrev pub stray_printed : Bool → Bool → Stray → List ℕ
stray_printed true whole stray = stray_json stray
stray_printed false whole stray = stray_text whole stray

-- a record can't be read on, and this is so of it; of another fault nothing is said
abbrev pub IsUnreadRecord : (Unread → Type 0) → (Unread → Type 0) → Fault → Type 0
IsUnreadRecord primary screen (fault.Audit why) = IsUnread primary screen why
IsUnreadRecord primary screen why = Unit {0}

-- how the command fails after a state that is none of the primary's
abbrev pub stray_fault : Difference → Fault
stray_fault (difference.Ended last) = fault.Ended
stray_fault other = fault.Differs

module _ (options : AuditOptions) (primary screen : List ℕ) where
  -- nothing is wrong with the records, each state of the screen's is one of the primary's, and the
  -- text tells how many they are, one or more
  pub record TellsAgreement (text : List ℕ) : Type 0 where
    pub states : ℕ
    pub some : 1 ≤ states
    pub agrees : RecordAgrees options.limits primary screen states
    pub all : ℕ
    pub has : HasStates options.limits primary all
    pub text_is : text ≡ agreement_printed options.json states all

  -- this state of the screen's is the first that is none of the primary's, the text tells it, and
  -- the command fails so
  pub record TellsStray (why : Fault) (text : List ℕ) : Type 0 where
    pub stray : Stray
    pub strays : RecordStrays options.limits primary screen stray
    pub why_is : why ≡ stray_fault stray.difference
    pub text_is : text ≡ stray_printed options.json options.verbose stray

  -- the records agree, and that was printed
  abbrev pub PrintsAgreement : Option (List ℕ) → Option (List ℕ) → Type 0
  PrintsAgreement old new = (text : List ℕ) × TellsAgreement text × Appends old new text

  -- the records agree, and the primary's has a line further on that can't be read
  abbrev pub FailsBehind : AuditFault → Type 0
  FailsBehind why = (states : ℕ) × RecordAgrees options.limits primary screen states
      × FailsToCount options.limits primary why

  -- a line of a record can't be read
  abbrev pub FailsToCompare : AuditFault → Type 0
  FailsToCompare why = FailsToAuditRecord options.limits primary screen why ⊎ FailsBehind why

  -- what was printed where the command fails
  abbrev pub AuditFails : Fault → Option (List ℕ) → Option (List ℕ) → Type 0
  AuditFails fault.Differs old new =
      (text : List ℕ) × TellsStray fault.Differs text × Appends old new text
  AuditFails fault.Ended old new =
      (text : List ℕ) × TellsStray fault.Ended text × Appends old new text
  AuditFails fault.Unpublished old new =
      RecordAgrees options.limits primary screen 0 × Keeps old new
  AuditFails (fault.Audit why) old new = FailsToCompare why × Keeps old new
  AuditFails fault.Write old new =
      (text : List ℕ) × (TellsAgreement text ⊎ ((why : Fault) × TellsStray why text))
      × AppendsPrefix old new text
  AuditFails fault.Memory old new = Keeps old new
  AuditFails why old new = ⊥
