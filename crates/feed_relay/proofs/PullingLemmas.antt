-- What a pull came to where asking did not fail.
use Rattle.std.proofs.Common.{◌≡◌, ℕ, List}
use Rattle.std.specs.Prelude.{Result, Ok, Err}
use Rattle.std.specs.Io.KnownBytes.{Appends}
use Rattle.feed_node.specs.Mirroring.{MirrorState}
use Rattle.feed_http.specs.declared.fault.EngineFault.{EngineFault}
use Rattle.feed_http.specs.declared.fault.EngineFault.TheVariants as fault
use Rattle.feed_http.specs.declared.fault.Followed.{Followed}
use Rattle.feed_http.specs.Exchange.{Exchange, gave_on, FailuresAreTold, failed_reads_after}
use Rattle.feed_http.specs.Following.{Follows}
use Rattle.feed_relay.specs.Pulling.{WritesRequest, FollowsReply}

pub answered : (request : List ℕ) (most_reads : ℕ) (spoken : Exchange) (start mirror : MirrorState)
    (pulled : Result Followed EngineFault)
    → Appends spoken.written_old spoken.written_new request
    → Follows most_reads (gave_on spoken) start pulled mirror
    → WritesRequest request spoken pulled × FollowsReply most_reads spoken start pulled mirror
answered request most_reads spoken start mirror (Ok followed) wrote came = (wrote, came)
answered request most_reads spoken start mirror (Err fault.Read) wrote came = (wrote, came)
answered request most_reads spoken start mirror (Err fault.TooManyReads) wrote came = (wrote, came)
answered request most_reads spoken start mirror (Err (fault.Follow why)) wrote came = (wrote, came)
answered request most_reads spoken start mirror (Err fault.Write) wrote none = absurd none
answered request most_reads spoken start mirror (Err fault.Memory) wrote none = absurd none
answered request most_reads spoken start mirror (Err (fault.Commit why)) wrote none = absurd none

-- where the request was written, what failed is a read
pub told_reads : (most_reads : ℕ) (spoken : Exchange) (start mirror : MirrorState)
    (pulled : Result Followed EngineFault)
    → Follows most_reads (gave_on spoken) start pulled mirror
    → spoken.failed_reads_new ≡ failed_reads_after spoken.failed_reads_old pulled
    → spoken.failed_writes_new ≡ spoken.failed_writes_old → FailuresAreTold spoken pulled
told_reads most_reads spoken start mirror (Ok followed) came reads writes = (reads, writes)
told_reads most_reads spoken start mirror (Err fault.Read) came reads writes = (reads, writes)
told_reads most_reads spoken start mirror (Err fault.TooManyReads) came reads writes = (reads, writes)
told_reads most_reads spoken start mirror (Err (fault.Follow why)) came reads writes = (reads, writes)
told_reads most_reads spoken start mirror (Err fault.Write) none reads writes = absurd none
told_reads most_reads spoken start mirror (Err fault.Memory) none reads writes = absurd none
told_reads most_reads spoken start mirror (Err (fault.Commit why)) none reads writes = absurd none
