-- Where a mirror is that followed what a node sent to it: at a place of the log, whatever prefix of
-- the bytes came, and after a fault, too (CLICS Contest API 2023-06, reconnection; RFC 9112).
use Rattle.std.specs.Prelude.{◌≡◌, ◌⊎◌, ◌==◌, ◌&&◌, ℕ, ◌-◌, ◌≤◌, max, Bool, List, ◌++◌, length, take, Option, Some, None, is_none, if◌then◌else◌}
use Rattle.feed_settings.specs.Limits.{Limits}
use Rattle.feed_settings.specs.declared.framing.Framing.{Framing}
use Rattle.feed_node.specs.Mirroring.{MirrorState, cut_off}
use Rattle.feed_node.specs.States.{NodeState, published_token}
use Rattle.feed_follow.specs.declared.fault.FollowFault.{FollowFault}
use Rattle.feed_follow.specs.declared.fault.FollowFault.TheVariants.{Closed, Status}
use Rattle.feed_follow.specs.Follower.{FollowerState, FollowsAt}
use Rattle.feed_follow.specs.Following.{Fails}
use Rattle.feed_follow.specs.Standing.{Standing, in_head, token_refused, in_body, done, failed}
use Rattle.feed_wire.specs.declared.refusal.Refusal.{Refusal}
use Rattle.feed_wire.specs.Answer.{refusal_code, refusal_text}
use Rattle.feed_answer.specs.Answered.{AnswerParts, AnswersTo}
use Rattle.feed_wire.specs.Asked.{Asks, feed}
use Rattle.feed_wire.specs.CarriedBytes.{response_text, ended_text}
use Rattle.feed_wire.specs.FrameLaws.{AreTexts}
use Rattle.feed_answer.specs.FollowLaws.{StandsOnly}
use Rattle.feed_answer.specs.Served.{opening_text}
use Rattle.feed_world.specs.Connection.{Connection, part_texts, sent_text, blocks_within, moved_by}
use Rattle.feed_world.specs.Laws.{opened_text}
use Rattle.feed_world.specs.Log.{Log, IsLog, IsNamed}
use Rattle.feed_world.specs.Position.{Position, IsPlaceOfLog, node_where}
use Rattle.feed_world.specs.Reading.{IsOpened}
use Rattle.feed_world.specs.States.{HasAsked, IsAsFarAs}
use Rattle.feed_world.specs.Step.{IsForMemory}

-- ---- what is sent to who asks with a token of its own

-- a node at this position opened a session for who asked so
pub record OpensAsked (log : Log) (p : Position) (since : Option (List ℕ)) (back : ℕ)
    (answer : AnswerParts) (opened : List ℕ) : Type 0 where
  pub k : ℕ
  pub in_log : k ≤ length log.commits
  pub token_is : opened ≡ log.token k
  -- with a snapshot where none was asked with, and with nothing after a token
  pub text_is : answer.text ≡ opening_text answer.framing (opened_text log (is_none since) k)
  pub newest : since ≡ None → k ≡ p.at
  -- that token is held, and the session starts so many commits before it, or at the oldest one
  pub own : (m : ℕ) → m ≤ length log.commits → since ≡ Some (log.token m)
      → (p.low ≤ m) × (m ≤ p.at) × (k ≡ max p.low (m - back))

-- A session is opened only by a node that has published, and as it was asked for. With no tokens
-- `back` it starts at the token that was asked with.
abbrev pub SessionsOpenAsAsked : Type 0
SessionsOpenAsAsked =
    (limits : Limits) (log : Log) (node : NodeState) (place : Option Position)
    (head contest : List ℕ) (minor : ℕ) (since : Option (List ℕ)) (framing : Framing) (back : ℕ)
    (answer : AnswerParts) (opened : List ℕ) → IsNamed log → IsPlaceOfLog limits log place
    → node ≡ node_where log place → Asks head contest (feed minor since)
    → AnswersTo head contest node framing back answer → answer.session ≡ Some opened
    → (p : Position) × (place ≡ Some p) × OpensAsked log p since back answer opened

-- ---- where blocks bring a mirror

-- the number of a place, and 0 nowhere
abbrev pub number_at : Option Position → ℕ
number_at None = 0
number_at (Some p) = p.at

-- where whole blocks bring a mirror
abbrev pub brought_by : Limits → Log → Option Position → Connection → ℕ → Option Position
brought_by limits log place c n = moved_by limits.history log place (blocks_within log c.parts n)

-- that is a place of the log, and no further than where it was or the last commit that was sent
abbrev pub PlacesStay : Type 0
PlacesStay =
    (limits : Limits) (log : Log) (place : Option Position) (c : Connection) (n : ℕ)
    → IsOpened limits log place c
    → IsPlaceOfLog limits log (brought_by limits log place c n)
    × (number_at (brought_by limits log place c n) ≤ max (number_at place) c.last)

-- and with all of the text it is at the last commit that was sent, or further
abbrev pub AllIsReached : Type 0
AllIsReached =
    (limits : Limits) (log : Log) (place : Option Position) (c : Connection)
    → IsOpened limits log place c
    → IsAsFarAs (brought_by limits log place c (length (sent_text log c))) c.last

-- ---- a mirror that follows

-- the mirror shows, and asks with, what one does that was brought so many bytes of the text
pub record IsBroughtBy (limits : Limits) (log : Log) (place : Option Position) (c : Connection)
    (n : ℕ) (mirror : MirrorState) : Type 0 where
  pub bounds : mirror.limits ≡ limits
  pub node : mirror.node ≡ node_where log (brought_by limits log place c n)
  pub since : mirror.since ≡ (if c.fresh && (length (blocks_within log c.parts n) == 0) then None
      else published_token (node_where log (brought_by limits log place c n)))

-- a response stands in its head, or with a prefix of this text
abbrev pub CarriesPrefix : List ℕ → Standing → Type 0
CarriesPrefix text in_head = Unit {0}
CarriesPrefix text token_refused = ⊥
CarriesPrefix text (in_body payload) = (behind : List ℕ) × (payload ++ behind ≡ text)
CarriesPrefix text (done payload) = (behind : List ℕ) × (payload ++ behind ≡ text)
CarriesPrefix text (failed fault payload) = ⊥

-- so does each prefix of these bytes, and in no other way
abbrev pub CarryFeed : Bool → List ℕ → List ℕ → Type 0
CarryFeed had_token text bytes =
    (n : ℕ) → (s : Standing) × StandsOnly had_token (take n bytes) s × CarriesPrefix text s

-- the bytes that are sent on a connection are such, with the end of the body and without
abbrev pub ResponsesCarryFeed : Type 0
ResponsesCarryFeed =
    (log : Log) (c : Connection) (framing : Framing) (had_token : Bool)
    → AreTexts (part_texts log c.parts)
    → CarryFeed had_token (sent_text log c) (response_text framing (part_texts log c.parts))
    × CarryFeed had_token (sent_text log c) (ended_text framing (part_texts log c.parts))

-- where a response stands so, the mirror is as it began, or was brought what the bytes carried
abbrev pub FollowsTo : Limits → Log → Option Position → Connection → MirrorState → MirrorState
    → Standing → Type 0
FollowsTo limits log place c begun mirror in_head = mirror ≡ begun
FollowsTo limits log place c begun mirror token_refused = ⊥
FollowsTo limits log place c begun mirror (in_body payload) =
    IsBroughtBy limits log place c (length payload) mirror
FollowsTo limits log place c begun mirror (done payload) =
    IsBroughtBy limits log place c (length payload) mirror
FollowsTo limits log place c begun mirror (failed fault payload) = ⊥

-- a mirror that was at this place when it asked, and followed any prefix of such bytes
abbrev pub MirrorsFollow : Type 0
MirrorsFollow =
    (limits : Limits) (log : Log) (place : Option Position) (c : Connection)
    (begun mirror : MirrorState) (reader : FollowerState) (bytes : List ℕ) (n : ℕ) (s : Standing)
    → IsLog limits log → IsOpened limits log place c → HasAsked limits log place c.fresh begun
    → CarryFeed reader.had_token (sent_text log c) bytes
    → FollowsAt begun (take n bytes) s reader mirror
    → FollowsTo limits log place c begun mirror s

-- the mirror is cut, as it began or with what some of the text brought
abbrev pub IsCutInLog : Limits → Log → Option Position → Connection → MirrorState → MirrorState
    → Type 0
IsCutInLog limits log place c begun mirror =
    (mirror ≡ cut_off begun)
    ⊎ ((n : ℕ) × (n ≤ length (sent_text log c)) × (mirror.connection ≡ None)
    × IsBroughtBy limits log place c n mirror)

-- it meets no fault but a want of memory, and is then in the log
abbrev pub FailsKeepStates : Type 0
FailsKeepStates =
    (limits : Limits) (log : Log) (place : Option Position) (c : Connection)
    (begun mirror : MirrorState) (had_token : Bool) (bytes before piece later : List ℕ)
    (fault : FollowFault)
    → IsLog limits log → IsOpened limits log place c → HasAsked limits log place c.fresh begun
    → CarryFeed had_token (sent_text log c) bytes → (before ++ piece) ++ later ≡ bytes
    → Fails begun had_token before piece mirror fault
    → IsForMemory fault × IsCutInLog limits log place c begun mirror

-- Who follows a refusal goes on showing what it showed: the fault is the status, a want of memory,
-- or that the token was refused before.
abbrev pub RefusalsKeepNodes : Type 0
RefusalsKeepNodes =
    (refusal : Refusal) (begun mirror : MirrorState) (had_token : Bool)
    (before piece later : List ℕ) (fault : FollowFault)
    → (before ++ piece) ++ later ≡ refusal_text refusal
    → Fails begun had_token before piece mirror fault
    → (mirror.node ≡ begun.node) × (mirror.connection ≡ None)
    × ((fault ≡ Status (refusal_code refusal)) ⊎ (IsForMemory fault ⊎ (fault ≡ Closed)))
