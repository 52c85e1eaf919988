-- What the command `relay` follows, serves and prints.
use Rattle.std.specs.Prelude.{◌≡◌, ◌⊎◌, ◌<◌, ℕ, true, false, List, length, Result}
use Rattle.std.specs.Io.KnownBytes.{Appends, Keeps}
use Rattle.feed_node.specs.Texts.{published_text}
use Rattle.feed_http.specs.Serving.{ServesOnce}
use Rattle.feed_http.specs.declared.fault.Served.{Served}
use Rattle.feed_http.specs.declared.service.Service.{Service}
use Rattle.feed_relay.specs.Dialing.{Dialer, Links}
use Rattle.feed_relay.specs.First.{DialingMirror, FollowsFirst, ran_out}
use Rattle.feed_relay.specs.Serving.{ServesNext, most_reads}
use Rattle.feed_relay.specs.declared.fault.NetworkFault.{NetworkFault}
use Rattle.feed_relay.specs.declared.first.Attempt.{Attempt}
use Rattle.feed_relay.specs.declared.server.Server.{Server}
use Rattle.feed_arguments.specs.declared.request.RelayOptions.{RelayOptions}
use Rattle.feed_commands.specs.Fault.{goes_on}
use Rattle.feed_commands.specs.InTurn.{InTurn}
use Rattle.feed_commands.specs.Pull.{FailsToPrint}
use Rattle.feed_http.specs.Exchange.{Wrote}
use Rattle.feed_commands.specs.Reporting.{FailsAs}
use Rattle.feed_commands.specs.declared.fault.Fault.{Fault}
use Rattle.feed_commands.specs.declared.fault.Fault.TheVariants as fault

-- how each round serves
abbrev pub relay_service : RelayOptions → Service
relay_service options =
    record {
      contest = options.pull.contest;
      framing = options.framing;
      back = 0;
      most_reads = most_reads;
    }

-- a mirror with what it connects to servers with, and what followers connect to
pub record Relaying (D A : Type 0) : Type 0 where
  pub follower : DialingMirror D
  pub listener : A

abbrev pub relaying : {D A : Type 0} → DialingMirror D → A → Relaying D A
relaying follower listener = record { follower = follower; listener = listener }

module _ {D R W A S T : Type 0} (dialer : Dialer D R W) (links : Links A S T)
    (servers : List Server) (most_reads : ℕ) (service : Service) where
  -- one round: the first of these servers that serves was followed, memory did not run out, and the
  -- next follower was served what the mirror shows then
  pub record MakesRound (start : Relaying D A) (served : Result Served NetworkFault)
      (end : Relaying D A) : Type 0 where
    pub attempts : List Attempt
    pub follows : FollowsFirst dialer servers most_reads start.follower attempts end.follower
    pub in_memory : ran_out attempts ≡ false
    pub serves : ServesNext links
        (λ spoken came. ServesOnce service end.follower.mirror.node spoken came)
        start.listener served end.listener

  -- such a round, after which another one can be made
  abbrev pub MakesRoundOn : Relaying D A → Result Served NetworkFault → Relaying D A → Type 0
  MakesRoundOn start served end = MakesRound start served end × (goes_on served ≡ true)

  -- why there is no further round: there is no room for the attempts; memory ran out at the last of
  -- them; or it is more than one connection's fault that the follower was not served
  pub data EndsRounds (start : Relaying D A) : Fault → Relaying D A → Type 0 where
    has_no_room : EndsRounds start fault.Memory start
    has_run_out : (attempts : List Attempt) (end : DialingMirror D)
        → FollowsFirst dialer servers most_reads start.follower attempts end
        → ran_out attempts ≡ true
        → EndsRounds start fault.Memory (relaying end start.listener)
    has_not_served : (served : Result Served NetworkFault) (why : Fault) (end : Relaying D A)
        → MakesRound start served end → goes_on served ≡ false → FailsAs served why
        → EndsRounds start why end

  -- so many rounds were made, one after another
  abbrev pub MakesRounds : ℕ → Relaying D A → Relaying D A → Type 0
  MakesRounds count start end =
      (rounds : List (Result Served NetworkFault)) × (length rounds ≡ count)
      × InTurn MakesRoundOn start rounds end

  -- fewer rounds were made, and then one that was the last for this fault
  pub record RelayBreaksOff (count : ℕ) (start : Relaying D A) (why : Fault) (end : Relaying D A)
      : Type 0 where
    pub made : ℕ
    pub fewer : made < count
    pub middle : Relaying D A
    pub rounds : MakesRounds made start middle
    pub ends : EndsRounds middle why end

  -- all rounds were made, and the snapshot of what the mirror shows was printed
  abbrev pub Relayed : ℕ → Relaying D A → Relaying D A → Wrote → Type 0
  Relayed count start end out =
      MakesRounds count start end
      × Appends out.old out.new (published_text end.follower.mirror.node.published)

  -- where the command fails: all rounds were made, but something was not printed or reported; or it
  -- broke off, and nothing was printed
  abbrev pub RelayFails : ℕ → Fault → Relaying D A → Relaying D A → Wrote → ℕ → ℕ → Type 0
  RelayFails count why start end out unreported_old unreported_new =
      ((why ≡ fault.Write) × MakesRounds count start end
      × FailsToPrint (published_text end.follower.mirror.node.published) out unreported_old
      unreported_new)
      ⊎ (RelayBreaksOff count start why end × Keeps out.old out.new)
