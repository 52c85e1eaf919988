-- How a mirror pulls what it lacks from a server (CLICS Contest API 2023-06, reconnection).
use Rattle.std.specs.Prelude.{◌≡◌, ℕ, List, Result, Err}
use Rattle.std.specs.Io.KnownBytes.{Appends}
use Rattle.feed_node.specs.Mirroring.{MirrorState}
use Rattle.feed_wire.specs.RequestText.{request_text_as}
use Rattle.feed_http.specs.declared.fault.EngineFault.{EngineFault}
use Rattle.feed_http.specs.declared.fault.EngineFault.TheVariants.{Write, Memory}
use Rattle.feed_http.specs.declared.fault.Followed.{Followed}
use Rattle.feed_http.specs.Device.{AppendsPrefix, RoseAtMost}
use Rattle.feed_http.specs.Following.{Follows}
use Rattle.feed_http.specs.Exchange.{Exchange, gave_on, FailuresAreTold}
use Rattle.feed_relay.specs.declared.server.Server.{Server}

-- the request was written; where asking failed, a prefix of it
abbrev pub WritesRequest : List ℕ → Exchange → Result Followed EngineFault → Type 0
WritesRequest request spoken (Err Write) =
    AppendsPrefix spoken.written_old spoken.written_new request
WritesRequest request spoken (Err Memory) =
    AppendsPrefix spoken.written_old spoken.written_new request
WritesRequest request spoken pulled = Appends spoken.written_old spoken.written_new request

-- nothing was read, and the mirror is what it was
abbrev pub IsUnanswered : Exchange → MirrorState → MirrorState → Type 0
IsUnanswered spoken start mirror = (spoken.left ≡ spoken.source) × (mirror ≡ start)

-- what was read, in at most so many reads (`most_reads`), leaves this of the mirror; nothing was
-- where asking failed
abbrev pub FollowsReply : ℕ → Exchange → MirrorState → Result Followed EngineFault → MirrorState
    → Type 0
FollowsReply most_reads spoken start (Err Write) mirror = IsUnanswered spoken start mirror
FollowsReply most_reads spoken start (Err Memory) mirror = IsUnanswered spoken start mirror
FollowsReply most_reads spoken start pulled mirror =
    Follows most_reads (gave_on spoken) start pulled mirror

-- the server was asked for what a mirror lacks, and what was read of the response, in at most so
-- many reads, leaves this of the mirror
pub record PullsOnce (server : Server) (most_reads : ℕ) (spoken : Exchange) (start : MirrorState)
    (pulled : Result Followed EngineFault) (mirror : MirrorState) : Type 0 where
  pub asked : WritesRequest (request_text_as server.place start.since server.identity.now) spoken
      pulled
  pub came : FollowsReply most_reads spoken start pulled mirror
  pub reads : RoseAtMost spoken.reads_old spoken.reads_new most_reads
  pub failures : FailuresAreTold spoken pulled
