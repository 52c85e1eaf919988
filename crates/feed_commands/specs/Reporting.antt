-- What came of reporting faults.
use Rattle.std.specs.Prelude.{◌≡◌, ◌⊎◌, ◌≤◌, ℕ, Bool, true, max, List, [], ◌∷◌, ◌++◌, Option, Result, Ok, Err}
use Rattle.std.specs.Io.KnownBytes.{Appends}
use Rattle.feed_text.specs.Ascii.{line_feed}
use Rattle.feed_http.specs.Device.{counted, HasFailed}
use Rattle.feed_http.specs.Exchange.{Wrote}
use Rattle.feed_http.specs.declared.fault.Served.{Served}
use Rattle.feed_relay.specs.declared.fault.NetworkFault.{NetworkFault}
use Rattle.feed_commands.specs.Fault.{fault_of_network, status_of}
use Rattle.feed_commands.specs.declared.fault.Fault.{Fault}
use Rattle.feed_commands.specs.declared.fault.Fault.TheVariants as fault

-- the text ends in a line feed
abbrev pub EndsInLineFeed : List ℕ → Type 0
EndsInLineFeed text = (front : List ℕ) × (text ≡ front ++ line_feed ∷ [])

-- such a text was written, one line or more; what it says of a fault no clause can name
abbrev pub ReportsLines : Option (List ℕ) → Option (List ℕ) → Type 0
ReportsLines old new = (text : List ℕ) × EndsInLineFeed text × Appends old new text

-- what has this status was reported, in lines, and it is answered; or the device failed, which the
-- answer says, too
abbrev pub IsReported : ℕ → Wrote → ℕ → Type 0
IsReported status wrote answer =
    ((answer ≡ status) × ReportsLines wrote.old wrote.new × (wrote.failed_new ≡ wrote.failed_old))
    ⊎ (HasFailed wrote.failed_old wrote.failed_new × (answer ≡ max status (status_of fault.Write)))

-- the same of a fault
abbrev pub IsReportedStatus : Fault → Wrote → ℕ → Type 0
IsReportedStatus why wrote status = IsReported (status_of why) wrote status

-- between these counts of its failures a device took all that was reported; or it failed, and that
-- is kept in mind
abbrev pub HasReported : ℕ → ℕ → Bool → Bool → Type 0
HasReported old new before after =
    ((new ≡ old) × (after ≡ before))
    ⊎ ((times : ℕ) × (1 ≤ times) × (new ≡ counted old times) × (after ≡ true))

-- the fault of a connection is the command's
abbrev pub FailsAs : Result Served NetworkFault → Fault → Type 0
FailsAs (Ok served) why = ⊥
FailsAs (Err fault) why = why ≡ fault_of_network fault
