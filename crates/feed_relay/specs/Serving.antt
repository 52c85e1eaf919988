-- How the next follower is served.
use Rattle.std.specs.Prelude.{◌≡◌, ℕ, Result, Ok, Err, IsErrOf}
use Rattle.feed_http.specs.Exchange.{Exchange}
use Rattle.feed_http.specs.Live.{Intake, ServesLive}
use Rattle.feed_http.specs.declared.fault.EngineFault.{EngineFault}
use Rattle.feed_http.specs.declared.fault.Served.{Served}
use Rattle.feed_http.specs.declared.service.Service.{Service}
use Rattle.feed_relay.specs.Dialing.{Links, OnLink, HasMissed}
use Rattle.feed_relay.specs.declared.fault.NetworkFault.{NetworkFault}
use Rattle.feed_relay.specs.declared.fault.NetworkFault.TheVariants.{Connect, Bind, Accept, Engine}

-- the most reads of the head of a request, and of an input
abbrev pub most_reads : ℕ
most_reads = 1000000

-- what a connection came to, as a program sees it
abbrev pub over_network : Result Served EngineFault → Result Served NetworkFault
over_network (Ok served) = Ok served
over_network (Err fault) = Err (Engine fault)

module _ {A R W : Type 0} (links : Links A R W) where
  -- The next follower was accepted, and served so; or there was none, and nobody else was waited
  -- for.
  abbrev pub ServesNext : (Exchange → Result Served EngineFault → Type 0) → A
      → Result Served NetworkFault → A → Type 0
  ServesNext Serves start (Ok served) end =
      OnLink links start (λ spoken. Serves spoken (Ok served)) end
  ServesNext Serves start (Err (Engine fault)) end =
      OnLink links start (λ spoken. Serves spoken (Err fault)) end
  ServesNext Serves start (Err Accept) end = HasMissed links start end
  ServesNext Serves start (Err Connect) end = ⊥
  ServesNext Serves start (Err Bind) end = ⊥

  -- the next follower was served by a primary that took batches meanwhile; without one it took none
  abbrev pub ServesLiveNext : ℕ → Service → Intake → A → Result Served NetworkFault → Intake → A
      → Type 0
  ServesLiveNext turn service intake start served now end =
      ServesNext (λ spoken came. ServesLive turn service spoken intake came now) start served end
      × (IsErrOf served Accept → now ≡ intake)
