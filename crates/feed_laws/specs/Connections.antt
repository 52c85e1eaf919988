-- THE PROMISE on one connection: what a mirror makes of what was written for its request, by a
-- node, or by a primary that took batches meanwhile (CLICS Contest API 2023-06, event feed and
-- reconnection; RFC 9112).
use Rattle.std.specs.Prelude.{◌≡◌, ◌⊎◌, ℕ, ◌<◌, ◌^◌, false, List, [], ◌∷◌, length, Option, Some, None}
use Rattle.std.specs.List.{AllByRecursion}
use Rattle.feed_settings.specs.Limits.{Limits, IsInRange}
use Rattle.feed_settings.specs.declared.framing.Framing.{Framing}
use Rattle.feed_changes.specs.declared.change.Change.{Change}
use Rattle.feed_changes.specs.Changes.{IsChange}
use Rattle.feed_node.specs.declared.commit.Commit.{Commit}
use Rattle.feed_node.specs.declared.primary.CommitFault.{CommitFault}
use Rattle.feed_node.specs.Log.{PrimaryState, new_primary, commits, commit_fault}
use Rattle.feed_node.specs.Mirroring.{MirrorState}
use Rattle.feed_node.specs.Serving.{commit_text}
use Rattle.feed_node.specs.States.{NodeState, published_token}
use Rattle.feed_follow.specs.Follower.{FollowerState, FollowsAt}
use Rattle.feed_follow.specs.Standing.{Standing}
use Rattle.feed_answer.specs.Answered.{AnswerParts, AnswersTo}
use Rattle.feed_http.specs.declared.fault.Served.{Served}
use Rattle.feed_http.specs.Live.{Intake, HasSent, SendsLive, WroteLive, WroteRefused}
use Rattle.feed_http.specs.Serving.{Serves}
use Rattle.feed_http.specs.Sessions.{Commit_after, next}
use Rattle.feed_world.specs.Log.{Log, IsLog, numbered}
use Rattle.feed_laws.specs.Follows.{HasAskedSo, FollowsInLog, ArrivesInLog}
use Rattle.feed_laws.specs.Laws.{StandsInLog}

-- Whatever prefix of the text came to the mirror, in any pieces, it shows nothing or a state of the
-- log at its token. With all of it, after a 200 whose session kept its token, it is as far as the
-- node then was.
pub record FollowsServed (limits : Limits) (log : Log) (begun : MirrorState) (text : List ℕ)
    (served : Served) (last : NodeState) : Type 0 where
  pub answer : AnswerParts
  pub status_is : served.status ≡ answer.status
  pub follows : FollowsInLog limits log answer begun text
  pub arrives : (token : List ℕ) (standing : Standing) (follower : FollowerState)
      (mirror : MirrorState) → served.status ≡ 200 → served.gone ≡ false
      → published_token last ≡ Some token → FollowsAt begun text standing follower mirror
      → ArrivesInLog limits log token mirror

-- A mirror asked with this head, and a node at a place of the log wrote this text, as `serve_node`
-- does with no tokens `back`.
abbrev pub NodesAreFollowed : Type 0
NodesAreFollowed =
    (limits : Limits) (log : Log) (node : NodeState) (head contest : List ℕ) (framing : Framing)
    (text : List ℕ) (served : Served) (begun : MirrorState)
    → IsLog limits log → StandsInLog log node → HasAskedSo limits log head contest begun
    → Serves head contest node framing 0 text served → length text < 2 ^ 64
    → FollowsServed limits log begun text served node

-- each state of the primary that a session met, which opened at this token, is in the log
abbrev pub MeetsLog : Log → ℕ → Intake → List ℕ → Type 0
MeetsLog log turn start opened =
    (sent : List Commit) (now : Intake) (token : List ℕ) → HasSent turn start opened sent now token
    → StandsInLog log now.primary.node

-- ---- the log of a primary

abbrev pub unless_refused : Option CommitFault → List Change → List (List Change)
    → List (List Change)
unless_refused None batch accepted = batch ∷ accepted
unless_refused (Some fault) batch accepted = []

-- those of these batches that a primary accepts, one after another, up to the first that it refuses
abbrev pub accepted_by : PrimaryState → List (List Change) → List (List Change)
accepted_by primary [] = []
accepted_by primary (batch ∷ batches) =
    unless_refused (commit_fault primary batch) batch
    (accepted_by (commits primary batch) batches)

-- the log of a primary that began with nothing, and is given these batches
abbrev pub log_of_batches : Limits → List (List Change) → Log
log_of_batches limits batches = numbered (accepted_by (new_primary limits) batches)

-- That is a log, and each state of the primary that a session meets is in it: so what is supposed
-- of a primary below holds of one that began with nothing.
abbrev pub PrimariesMeetTheirLog : Type 0
PrimariesMeetTheirLog =
    (limits : Limits) (turn : ℕ) (batches : List (List Change)) (opened : List ℕ)
    → IsInRange limits.history.commits limits.staged
    → AllByRecursion (AllByRecursion IsChange) batches
    → IsLog limits (log_of_batches limits batches)
    × MeetsLog (log_of_batches limits batches) turn
    (record { primary = new_primary limits; batches = batches }) opened

-- ---- a primary that serves

-- The same of a primary that took batches in turns, as `serve_live` does.
abbrev pub PrimariesAreFollowed : Type 0
PrimariesAreFollowed =
    (limits : Limits) (log : Log) (turn : ℕ) (start now : Intake) (head contest : List ℕ)
    (framing : Framing) (answer : AnswerParts) (text : List ℕ) (served : Served)
    (begun : MirrorState)
    → IsLog limits log → StandsInLog log start.primary.node
    → ((opened : List ℕ) → answer.session ≡ Some opened → MeetsLog log turn start opened)
    → HasAskedSo limits log head contest begun
    → AnswersTo head contest start.primary.node framing 0 answer
    → SendsLive turn start answer text served now → length text < 2 ^ 64
    → FollowsServed limits log begun text served now.primary.node

-- ---- where it broke off

-- This text was written where a write failed or memory ran out, or up to a batch that was refused:
-- a part of what `serve_live` writes with this answer.
abbrev pub IsBrokenOff : ℕ → Intake → AnswerParts → Intake → List ℕ → Type 0
IsBrokenOff turn start answer now text =
    WroteLive turn start answer now (Some []) (Some text)
    ⊎ ((why : CommitFault) × WroteRefused turn start answer why now (Some []) (Some text))

-- the commit that comes next in a session of this node fits into memory
abbrev pub NextFits : NodeState → Type 0
NextFits node =
    (token : List ℕ) (commit : Commit) → next node token ≡ Commit_after commit
    → length (commit_text commit) < 2 ^ 64

-- Whatever prefix of that came to the mirror, in any pieces, it shows nothing or a state of the log
-- at its token.
abbrev pub BrokenOffIsFollowed : Type 0
BrokenOffIsFollowed =
    (limits : Limits) (log : Log) (turn : ℕ) (start now : Intake) (head contest : List ℕ)
    (framing : Framing) (answer : AnswerParts) (text : List ℕ) (begun : MirrorState)
    → IsLog limits log → StandsInLog log start.primary.node
    → ((opened : List ℕ) → answer.session ≡ Some opened → MeetsLog log turn start opened)
    → HasAskedSo limits log head contest begun
    → AnswersTo head contest start.primary.node framing 0 answer
    → IsBrokenOff turn start answer now text
    → length answer.text < 2 ^ 64 → length text < 2 ^ 64 → NextFits now.primary.node
    → FollowsInLog limits log answer begun text
