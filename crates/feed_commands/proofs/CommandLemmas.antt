-- Lemmas on the commands.
use Rattle.std.proofs.Common.{◌≡◌, refl, Result, Ok, Err, IfErr, IsErrOf}
use Rattle.feed_http.specs.Device.{HasFailed as HasDeviceFailed}
use Rattle.feed_commands.specs.Commands.{IsDeviceFault}
use Rattle.feed_commands.specs.Streams.{Streams}
use Rattle.feed_commands.specs.declared.fault.Fault.{Fault}
use Rattle.feed_commands.specs.declared.fault.Fault.TheVariants as fault

-- what is said of each device, said of the fault
pub device_by : (r : Result (Unit {0}) Fault) (s : Streams) → (IsErrOf r fault.Read → HasDeviceFailed s.failed_reads_old s.failed_reads_new)
    → (IsErrOf r fault.Write → HasDeviceFailed s.failed_writes_old s.failed_writes_new)
    → (IsErrOf r fault.Memory → (s.failed_reads_new ≡ s.failed_reads_old) × (s.failed_writes_new ≡ s.failed_writes_old))
    → IfErr r (λ why. IsDeviceFault why s)
device_by (Ok all) s reads writes none = tt
device_by (Err fault.Read) s reads writes none = reads refl
device_by (Err fault.Write) s reads writes none = writes refl
device_by (Err fault.Memory) s reads writes none = none refl
device_by (Err fault.TooManyReads) s reads writes none = tt
device_by (Err fault.TooLong) s reads writes none = tt
device_by (Err (fault.Feed why)) s reads writes none = tt
device_by (Err (fault.Survey why)) s reads writes none = tt
device_by (Err (fault.Batches why)) s reads writes none = tt
device_by (Err (fault.Play why)) s reads writes none = tt
device_by (Err (fault.Audit why)) s reads writes none = tt
device_by (Err fault.Differs) s reads writes none = tt
device_by (Err fault.Ended) s reads writes none = tt
device_by (Err fault.Unpublished) s reads writes none = tt
device_by (Err fault.NoToken) s reads writes none = tt
device_by (Err (fault.Place why)) s reads writes none = tt
device_by (Err (fault.Address why)) s reads writes none = tt
device_by (Err (fault.Commit why)) s reads writes none = tt
device_by (Err (fault.Network why)) s reads writes none = tt
