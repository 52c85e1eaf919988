-- Lemmas on rounds that are made one after another.
use Rattle.std.proofs.Common.{◌≡◌, inl, inr, sym, subst, ◌<◌, true, false, IfErr, OnOk, List, ℕ, Result, Ok, Err}
use Rattle.std.specs.Io.KnownBytes.{Keeps}
use Rattle.feed_node.specs.Texts.{published_text}
use Rattle.feed_node.specs.Mirroring.{MirrorState}
use Rattle.feed_node.specs.States.{NodeState}
use Rattle.feed_http.specs.Serving.{ServesOnce}
use Rattle.feed_http.specs.declared.fault.Served.{Served}
use Rattle.feed_http.specs.declared.service.Service.{Service}
use Rattle.feed_relay.specs.Dialing.{Dialer, Links}
use Rattle.feed_relay.specs.First.{DialingMirror, dialing, FollowsFirst, ran_out}
use Rattle.feed_relay.specs.Serving.{ServesNext}
use Rattle.feed_relay.specs.declared.first.Attempt.{Attempt}
use Rattle.feed_relay.specs.declared.fault.NetworkFault.{NetworkFault}
use Rattle.feed_relay.specs.declared.server.Server.{Server}
use Rattle.feed_commands.specs.Fault.{goes_on}
use Rattle.feed_commands.specs.Pull.{FailsToPrint}
use Rattle.feed_commands.specs.Relay.{Relaying, relaying, MakesRound, MakesRoundOn, MakesRounds, EndsRounds, has_no_room, has_not_served, RelayFails}
use Rattle.feed_http.specs.Exchange.{Wrote}
use Rattle.feed_commands.specs.Reporting.{FailsAs}
use Rattle.feed_commands.specs.declared.fault.Fault.{Fault}
use Rattle.feed_commands.specs.declared.fault.Fault.TheVariants as fault

module _ {D R W A S T : Type 0} (dialer : Dialer D R W) (links : Links A S T)
    (servers : List Server) (most_reads : ℕ) (service : Service) where
  -- where there is no room for the attempts, nothing has changed
  pub no_room : (mirror now : MirrorState) (dial later : D) (listener : A) → now ≡ mirror → later ≡ dial
      → EndsRounds dialer links servers most_reads service (relaying (dialing mirror dial) listener)
      fault.Memory (relaying (dialing now later) listener)
  no_room mirror now dial later listener e f =
      let same : relaying (dialing now later) listener ≡ relaying (dialing mirror dial) listener = cc in
      subst (EndsRounds dialer links servers most_reads service (relaying (dialing mirror dial) listener) fault.Memory)
      (sym same) has_no_room

  -- a follower was served so by what the mirror shows
  pub makes_round : (start end : DialingMirror D) (attempts : List Attempt) (called : Service)
      (node : NodeState) (old new : A) (served : Result Served NetworkFault)
      → FollowsFirst dialer servers most_reads start attempts end → ran_out attempts ≡ false
      → called ≡ service → node ≡ end.mirror.node
      → ServesNext links (λ spoken came. ServesOnce called node spoken came) old served new
      → MakesRound dialer links servers most_reads service (relaying start old) served (relaying end new)
  makes_round start end attempts called node old new served follows memory same shown serves =
      record {
        attempts = attempts;
        follows = follows;
        in_memory = memory;
        serves = subst (λ s. ServesNext links (λ spoken came. ServesOnce s end.mirror.node spoken came) old served new) same
            (subst (λ n. ServesNext links (λ spoken came. ServesOnce called n spoken came) old served new) shown serves);
      }

  -- a round after which another one can be made
  pub round_on : (r : Result (Unit {0}) Fault) (start : Relaying D A)
      (served : Result Served NetworkFault) (end : Relaying D A)
      → MakesRound dialer links servers most_reads service start served end
      → OnOk r (goes_on served ≡ true)
      → OnOk r ((came : Result Served NetworkFault) × MakesRoundOn dialer links servers most_reads service start came end)
  round_on (Ok all) start served end makes on = (served, (makes, on))
  round_on (Err why) start served end makes on = tt

  -- the last round
  pub round_ends : (r : Result (Unit {0}) Fault) (start : Relaying D A)
      (served : Result Served NetworkFault) (end : Relaying D A)
      → MakesRound dialer links servers most_reads service start served end
      → IfErr r (λ why. (goes_on served ≡ false) × FailsAs served why)
      → IfErr r (λ why. EndsRounds dialer links servers most_reads service start why end)
  round_ends (Ok all) start served end makes ends = tt
  round_ends (Err why) start served end makes (off, reported) = has_not_served served why end makes off reported

  module _ (count : ℕ) (start end : Relaying D A) (out : Wrote) (unreported_old unreported_new : ℕ) where
    -- the rounds broke off
    pub broke_off : (made : ℕ) (middle : Relaying D A) (why : Fault) → made < count
        → MakesRounds dialer links servers most_reads service made start middle
        → EndsRounds dialer links servers most_reads service middle why end → Keeps out.old out.new
        → RelayFails dialer links servers most_reads service count why start end out unreported_old unreported_new
    broke_off made middle why fewer rounds ends kept =
        inr (record { made = made; fewer = fewer; middle = middle; rounds = rounds; ends = ends }, kept)

    -- all rounds were made
    pub came_short : (r : Result (Unit {0}) Fault)
        → MakesRounds dialer links servers most_reads service count start end
        → IfErr r (λ why. why ≡ fault.Write)
        → IfErr r (λ why. FailsToPrint (published_text end.follower.mirror.node.published) out unreported_old unreported_new)
        → IfErr r (λ why. RelayFails dialer links servers most_reads service count why start end out unreported_old unreported_new)
    came_short (Ok all) rounds is cut = tt
    came_short (Err why) rounds is cut = inl (is, rounds, cut)
