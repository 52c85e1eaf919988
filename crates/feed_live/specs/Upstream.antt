-- What is supposed of the servers that a relay follows, of what they sent it alone; and of its
-- input, where that is the feed.
use Rattle.std.specs.Prelude.{◌≡◌, ℕ, ◌≤◌, Bool, true, false, if◌then◌else◌, List, [], ◌∷◌, ◌++◌, length, Option, Some, None, is_none, is_some, slice_get}
use Rattle.feed_settings.specs.Limits.{Limits}
use Rattle.feed_settings.specs.Place.{Place}
use Rattle.feed_node.specs.Publishing.{Published}
use Rattle.std.specs.Option.{option_and_then}
use Rattle.feed_node.specs.States.{former_token}
use Rattle.feed_node.specs.Mirroring.{MirrorState}
use Rattle.feed_node.specs.declared.fault.FeedFault.TheVariants.{Memory as FeedMemory}
use Rattle.feed_follow.specs.declared.fault.FollowFault.{FollowFault}
use Rattle.feed_follow.specs.declared.fault.FollowFault.TheVariants.{Feed, Memory}
use Rattle.feed_follow.specs.Follower.{FollowerState, FollowsAt}
use Rattle.feed_follow.specs.Following.{Fails}
use Rattle.feed_follow.specs.Standing.{Standing}
use Rattle.feed_wire.specs.Identity.{Identity}
use Rattle.feed_wire.specs.RequestText.{request_text_as}
use Rattle.feed_world.specs.Log.{Log, state_after}
use Rattle.feed_world.specs.Position.{Position, IsPlaceOfLog}
use Rattle.feed_world.specs.States.{HasAsked}
use Rattle.feed_laws.specs.Follows.{MayAskWith}
use Rattle.feed_laws.specs.Laws.{IsInLog}
use Rattle.feed_device.specs.Links.{Exchange, Exchanges, Shown, nothing_shown, once_at, all_from}

-- the mirror is at a place of the log, and has the token of that to ask with, or none
pub record AsksInLog (limits : Limits) (log : Log) (mirror : MirrorState) : Type 0 where
  pub place : Option Position
  pub is_place : IsPlaceOfLog limits log place
  pub asks : HasAsked limits log place (is_none mirror.since) mirror

-- the servers that are asked, by their places, and as whom
pub record Servers : Type 0 where
  pub places : List Place
  pub identity : Identity

-- the token that is asked with where the newest commit is to come again: the one before the newest,
-- where that is held
abbrev pub former_or : Option (List ℕ) → List ℕ → Option (List ℕ)
former_or None newest = Some newest
former_or (Some former) newest = Some former

-- the token that a mirror asks with: its newest one, or where that commit is to come again, the one
-- before it
abbrev pub asked_with : Bool → MirrorState → Option (List ℕ)
asked_with false mirror = mirror.since
asked_with true mirror =
    option_and_then (former_or (former_token mirror.node)) mirror.since

-- this is the text that asks the server of this number so, with a token or for everything
pub record IsRequestWith (servers : Servers) (server : ℕ) (since : Option (List ℕ))
    (text : List ℕ) : Type 0 where
  pub place : Place
  pub is_place : slice_get servers.places server ≡ Some place
  pub text_is : text ≡ request_text_as place since servers.identity

-- This is a text with which the mirror may ask the server of this number: for what comes after a
-- token that it holds, or for everything.
pub record IsRequestOf (servers : Servers) (server : ℕ) (mirror : MirrorState) (text : List ℕ)
    : Type 0 where
  pub place : Place
  pub is_place : slice_get servers.places server ≡ Some place
  pub since : Option (List ℕ)
  pub may_ask : MayAskWith mirror since
  pub text_is : text ≡ request_text_as place since servers.identity

-- nothing, or a state of the log with its token
abbrev pub IsOfLog : Log → Option Published → Type 0
IsOfLog log None = Unit {0}
IsOfLog log (Some published) =
    (k : ℕ) × (k ≤ length log.commits)
    × (published ≡ record { tables = state_after log k; token = log.token k })

-- memory ran out, and nothing is wrong with the bytes
abbrev pub wants_memory : FollowFault → Bool
wants_memory Memory = true
wants_memory (Feed FeedMemory) = true
wants_memory fault = false

-- What was read for certain where a piece failed behind these bytes: the piece, too, but where
-- memory ran out.
abbrev pub surely_read : List ℕ → List ℕ → FollowFault → List ℕ
surely_read before piece fault = if wants_memory fault then before else before ++ piece

-- Whatever prefix of these bytes comes to the mirror, of at least so many, in any pieces: it shows
-- nothing or a state of the log at its token, also once it stopped.
pub record StaysInLog (limits : Limits) (log : Log) (begun : MirrorState) (least : ℕ)
    (bytes : List ℕ) : Type 0 where
  pub shows : (before behind : List ℕ) (standing : Standing) (follower : FollowerState)
      (mirror : MirrorState) → before ++ behind ≡ bytes → least ≤ length before
      → FollowsAt begun before standing follower mirror → IsInLog limits log mirror.node
  pub fails : (before piece behind : List ℕ) (mirror : MirrorState) (fault : FollowFault)
      → (before ++ piece) ++ behind ≡ bytes → least ≤ length (surely_read before piece fault)
      → Fails begun (is_some begun.since) before piece mirror fault
      → IsInLog limits log mirror.node

-- What the first so many of these bytes published, in any pieces, is a state of the log, whatever
-- was published before: where they were read whole, and not where memory ran out.
pub record EndsInLog (log : Log) (begun : MirrorState) (count : ℕ) (bytes : List ℕ)
    : Type 0 where
  pub shows : (before behind : List ℕ) (standing : Standing) (follower : FollowerState)
      (mirror : MirrorState) → before ++ behind ≡ bytes → length before ≡ count
      → FollowsAt begun before standing follower mirror → IsOfLog log mirror.node.published
  pub fails : (before piece behind : List ℕ) (mirror : MirrorState) (fault : FollowFault)
      → (before ++ piece) ++ behind ≡ bytes → length (before ++ piece) ≡ count
      → wants_memory fault ≡ false → Fails begun (is_some begun.since) before piece mirror fault
      → IsOfLog log mirror.node.published

-- what is supposed of the bytes that came, by what of them is shown
abbrev pub IsHonestAs : Limits → Log → MirrorState → Shown → List ℕ → Type 0
IsHonestAs limits log begun nothing_shown received = Unit {0}
IsHonestAs limits log begun (once_at count) received = EndsInLog log begun count received
IsHonestAs limits log begun (all_from least) received = StaysInLog limits log begun least received

-- THE PREMISE: where the request of a mirror at a place of the log was written first, as it is
-- asked of that server, what was read keeps that mirror at places of the log, as far as it is
-- shown. Of a server that was asked for everything it is shown only once that has settled: what it
-- sends until then may be any replay. So is what `serve_node` and `serve_live` write for a node of
-- that log, what a relay hands on, and any error that carries no feed.
abbrev pub IsHonest : Limits → Log → Servers → Exchange → Type 0
IsHonest limits log servers exchange =
    (begun : MirrorState) (text more : List ℕ) → AsksInLog limits log begun
    → IsRequestOf servers exchange.server begun text → exchange.asked ≡ text ++ more
    → IsHonestAs limits log begun exchange.shown exchange.received

abbrev pub AreHonest : Limits → Log → Servers → List Exchange → Type 0
AreHonest limits log servers [] = Unit {0}
AreHonest limits log servers (latest ∷ before) =
    IsHonest limits log servers latest × AreHonest limits log servers before

-- the exchanges are known, and honest
abbrev pub AreKnownHonest : Limits → Log → Servers → Exchanges → Type 0
AreKnownHonest limits log servers None = ⊥
AreKnownHonest limits log servers (Some exchanges) = AreHonest limits log servers exchanges

-- ---- the input as the feed
