-- How the first of several servers that serves is found, and followed.
use Rattle.std.specs.Prelude.{◌≡◌, ◌≢◌, ◌⊎◌, ℕ, ◌-◌, Bool, true, false, List, [], ◌∷◌, ◌++◌, length, Result, Ok, Err}
use Rattle.std.specs.Prelude.{Option, option_map, slice_get, unwrap_or}
use Rattle.feed_node.specs.Mirroring.{MirrorState}
use Rattle.feed_http.specs.declared.fault.EngineFault.{EngineFault}
use Rattle.feed_http.specs.declared.fault.Followed.{Followed as End}
use Rattle.feed_http.specs.declared.fault.Followed.TheVariants as followed
use Rattle.feed_relay.specs.declared.first.Attempt.{Attempt}
use Rattle.feed_relay.specs.declared.server.Server.{Server}
use Rattle.feed_relay.specs.declared.first.AttemptEnd.{AttemptEnd}
use Rattle.feed_relay.specs.declared.first.AttemptEnd.TheVariants.{NoLink, Followed, Failed}
use Rattle.feed_relay.specs.Dialing.{Dialer, OnLink, HasMissed}
use Rattle.feed_relay.specs.Fault.{is_engine_memory}
use Rattle.feed_relay.specs.Pulling.{PullsOnce}

-- a mirror, and what it connects to servers with
pub record DialingMirror (D : Type 0) : Type 0 where
  pub mirror : MirrorState
  pub dial : D

abbrev pub dialing : {D : Type 0} → MirrorState → D → DialingMirror D
dialing mirror dial = record { mirror = mirror; dial = dial }

-- memory ran out
abbrev pub is_want_of_memory : AttemptEnd → Bool
is_want_of_memory (Failed fault) = is_engine_memory fault
is_want_of_memory _ = false

-- what the last of these attempts came to
abbrev pub last_outcome : List Attempt → Option AttemptEnd
last_outcome attempts =
    option_map (λ attempt. attempt.outcome) (slice_get attempts (length attempts - 1))

-- memory ran out at the last of these attempts
abbrev pub ran_out : List Attempt → Bool
ran_out attempts = unwrap_or (option_map is_want_of_memory (last_outcome attempts)) false

-- no further server is asked behind this: a feed was followed to its end, or memory ran out
abbrev pub is_last : AttemptEnd → Bool
is_last (Followed followed.Ended) = true
is_last (Followed followed.Done) = true
is_last other = is_want_of_memory other

abbrev pub attempt_at : ℕ → AttemptEnd → Attempt
attempt_at server outcome = record { server = server; outcome = outcome }

module _ {D R W : Type 0} where
  -- a connection to the server of this number was opened, it was asked on that and its response
  -- followed, in at most so many reads, and the connection was given back
  abbrev pub Pulls : Dialer D R W → ℕ → Server → ℕ → DialingMirror D → Result End EngineFault
      → DialingMirror D → Type 0
  Pulls dialer number server most_reads start pulled end =
      OnLink (dialer number) start.dial
      (λ spoken. PullsOnce server most_reads spoken start.mirror pulled end.mirror) end.dial

  -- one attempt at the server of this number; without a connection the mirror is what it was, and a
  -- miss is counted
  abbrev pub Attempts : Dialer D R W → ℕ → Server → ℕ → DialingMirror D → AttemptEnd
      → DialingMirror D → Type 0
  Attempts dialer number server most_reads start NoLink end =
      (end.mirror ≡ start.mirror) × HasMissed (dialer number) start.dial end.dial
  Attempts dialer number server most_reads start (Followed followed) end =
      Pulls dialer number server most_reads start (Ok followed) end
  Attempts dialer number server most_reads start (Failed fault) end =
      Pulls dialer number server most_reads start (Err fault) end

  -- all attempts at the server of this number, and what the last one came to: there is one, or,
  -- where the token was refused, another one
  abbrev pub AsksServer : Dialer D R W → ℕ → Server → ℕ → DialingMirror D → List Attempt
      → AttemptEnd → DialingMirror D → Type 0
  AsksServer dialer number server most_reads start attempts outcome end =
      (outcome ≢ Followed followed.TokenRefused)
      × (((attempts ≡ attempt_at number outcome ∷ [])
      × Attempts dialer number server most_reads start outcome end)
      ⊎ ((refused : DialingMirror D)
      × (attempts ≡ attempt_at number (Followed followed.TokenRefused)
      ∷ attempt_at number outcome ∷ [])
      × Attempts dialer number server most_reads start (Followed followed.TokenRefused) refused
      × Attempts dialer number server most_reads refused outcome end))

  -- these servers were asked, one after another, and behind each the next one is
  pub data AsksEach (dialer : Dialer D R W) (most_reads : ℕ) (start : DialingMirror D)
      : List Server → List Attempt → DialingMirror D → Type 0 where
    none_asked : AsksEach dialer most_reads start [] [] start
    one_asked : (before : List Server) (server : Server) (earlier attempts : List Attempt)
        (outcome : AttemptEnd) (middle end : DialingMirror D)
        → AsksEach dialer most_reads start before earlier middle
        → AsksServer dialer (length before) server most_reads middle attempts outcome end
        → is_last outcome ≡ false
        → AsksEach dialer most_reads start (before ++ server ∷ []) (earlier ++ attempts) end

  -- servers were asked up to the one that comes behind these, and there it ended
  pub record AsksUpTo (dialer : Dialer D R W) (most_reads : ℕ) (start : DialingMirror D)
      (servers : List Server)
      (attempts : List Attempt) (end : DialingMirror D) : Type 0 where
    pub before : List Server
    pub server : Server
    pub behind : List Server
    pub split : servers ≡ before ++ server ∷ behind
    pub earlier : List Attempt
    pub last : List Attempt
    pub outcome : AttemptEnd
    pub middle : DialingMirror D
    pub went : AsksEach dialer most_reads start before earlier middle
    pub asked : AsksServer dialer (length before) server most_reads middle last outcome end
    pub stops : is_last outcome ≡ true
    pub all : attempts ≡ earlier ++ last

  -- these servers were asked in their order, up to the first behind which no further one is, or all
  abbrev pub FollowsFirst : Dialer D R W → List Server → ℕ → DialingMirror D → List Attempt
      → DialingMirror D → Type 0
  FollowsFirst dialer servers most_reads start attempts end =
      AsksEach dialer most_reads start servers attempts end
      ⊎ AsksUpTo dialer most_reads start servers attempts end
