-- How far the bytes of a response have come.
use Rattle.std.specs.Prelude.{◌≡◌, ℕ, ◌==◌, Bool, ◌&&◌, ◌⊎◌, List, [], ◌++◌, map, Result, Ok, Err, if◌then◌else◌}
use Rattle.httparse.specs.Grammar.{ResponseHead, status_code}
use Rattle.httparse.specs.Spans.{name_and_value}
use Rattle.feed_follow.specs.declared.fault.FollowFault.{FollowFault}
use Rattle.feed_follow.specs.declared.fault.FollowFault.TheVariants.{LongHead, BadHead, Status, BadChunk}
use Rattle.feed_follow.specs.declared.coding.BodyFraming.{BodyFraming}
use Rattle.feed_follow.specs.declared.coding.BodyFraming.TheVariants.{InChunks}
use Rattle.feed_follow.specs.declared.heads.Verdict.{Verdict}
use Rattle.feed_follow.specs.declared.heads.Verdict.TheVariants.{Body, Refusal}
use Rattle.feed_wire.specs.HeadSizes.{IsPastLimits}
use Rattle.feed_wire.specs.ResponseHeads.{BeginsWithResponse, HasNoWholeResponse, HasBadHead}
use Rattle.feed_follow.specs.Coding.{body_framing}
use Rattle.feed_follow.specs.Bodies.{IsBody, IsBodyPrefix}
use Rattle.feed_wire.specs.ChunkedBody.{HasBadChunk}

-- how the body is framed, as what a head says
abbrev pub with_body : Result BodyFraming FollowFault → Result Verdict FollowFault
with_body (Ok framing) = Ok (Body framing)
with_body (Err fault) = Err fault

-- what a head says of its response: how the body is framed, that the token is refused, or why it
-- can't be followed
abbrev pub verdict_of : Bool → ℕ → List (List ℕ × List ℕ) → Result Verdict FollowFault
verdict_of had_token status fields =
    if status == 200 then with_body (body_framing fields)
    else (if status == 400 && had_token then Ok Refusal else Err (Status status))

abbrev pub verdict : Bool → ResponseHead → Result Verdict FollowFault
verdict had_token head = verdict_of had_token (status_code head) (map name_and_value head.fields)

-- how far a response may have come: in its head, refused for its token, in its body or done with
-- this payload, or faulty with the payload before the fault
pub data Standing : Type 0 where
  in_head : Standing
  token_refused : Standing
  in_body : List ℕ → Standing
  done : List ℕ → Standing
  failed : FollowFault → List ℕ → Standing

-- bytes that begin with no whole head stand so
abbrev pub StandsInHead : List ℕ → Standing → Type 0
StandsInHead bytes in_head = ¬ (IsPastLimits bytes)
StandsInHead bytes (failed LongHead payload) = IsPastLimits bytes × (payload ≡ [])
StandsInHead bytes (failed BadHead payload) = HasBadHead bytes × (payload ≡ [])
StandsInHead bytes standing = ⊥

-- bytes of a body so framed stand so; what comes behind a whole body is ignored
abbrev pub StandsInBody : BodyFraming → List ℕ → Standing → Type 0
StandsInBody framing text (in_body payload) = IsBodyPrefix framing text payload
StandsInBody framing text (done payload) =
    (body : List ℕ) × (ignored : List ℕ) × (text ≡ body ++ ignored) × IsBody framing body payload
StandsInBody framing text (failed BadChunk payload) =
    (framing ≡ InChunks) × HasBadChunk text payload
StandsInBody framing text standing = ⊥

-- bytes behind a head that says this stand so
abbrev pub StandsBehind : Result Verdict FollowFault → List ℕ → Standing → Type 0
StandsBehind (Ok (Body framing)) rest standing = StandsInBody framing rest standing
StandsBehind (Ok Refusal) rest standing = standing ≡ token_refused
StandsBehind (Err fault) rest standing = standing ≡ failed fault []

-- the bytes begin with a whole head, and what comes behind it stands so
abbrev pub StandsWithHead : Bool → List ℕ → Standing → Type 0
StandsWithHead had_token bytes standing =
    (head : ResponseHead) × (rest : List ℕ) × BeginsWithResponse bytes head rest × StandsBehind
    (verdict had_token head) rest standing

-- the bytes of a response stand so, where the request had a token or had none
abbrev pub Stands : Bool → List ℕ → Standing → Type 0
Stands had_token bytes standing =
    (HasNoWholeResponse bytes × StandsInHead bytes standing)
    ⊎ StandsWithHead had_token bytes standing
