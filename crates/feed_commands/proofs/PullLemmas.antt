-- Lemmas on what the command `pull` prints.
use Rattle.std.proofs.Common.{◌≡◌, ◌≢◌, ◌⊎◌, inl, inr, refl, sym, ap, ◌∙◌, subst, Bool, true, false, IfErr, List, ℕ, Option, None, Some, Result, Ok, Err, is_some}
use Rattle.std.specs.Prelude.{if◌then◌else◌, option_map, unwrap_or}
use Rattle.std.specs.Io.KnownBytes.{Appends, Keeps}
use Rattle.feed_http.specs.Device.{HasFailed}
use Rattle.feed_http.specs.Exchange.{Wrote}
use Rattle.feed_node.specs.Publishing.{Published}
use Rattle.feed_node.specs.Texts.{published_text}
use Rattle.feed_node.specs.States.{token_of}
use Rattle.feed_node.specs.Mirroring.{MirrorState}
use Rattle.feed_http.specs.declared.fault.Followed.TheVariants as followed
use Rattle.feed_relay.specs.Dialing.{Dialer}
use Rattle.feed_relay.specs.Fault.{is_network_memory, is_engine_memory}
use Rattle.feed_relay.specs.First.{DialingMirror, dialing, FollowsFirst, last_outcome, is_want_of_memory}
use Rattle.feed_relay.specs.declared.server.Server.{Server}
use Rattle.feed_relay.specs.declared.first.Attempt.{Attempt}
use Rattle.feed_relay.specs.declared.first.AttemptEnd.{AttemptEnd}
use Rattle.feed_relay.specs.declared.first.AttemptEnd.TheVariants.{NoLink, Followed, Failed}
use Rattle.feed_relay.specs.declared.fault.NetworkFault.{NetworkFault}
use Rattle.feed_relay.specs.declared.fault.NetworkFault.TheVariants as network
use Rattle.feed_http.specs.declared.fault.EngineFault.TheVariants as engine
use Rattle.feed_follow.specs.declared.fault.FollowFault.TheVariants.{BadHead}
use Rattle.feed_commands.specs.Fault.{fault_of_network}
use Rattle.feed_commands.specs.Pull.{PrintedPulled, PullFails, FailsToPrint, outcome_of_attempt, outcome_of_pull}
use Rattle.feed_commands.specs.Tables.{outcome_of}
use Rattle.feed_commands.specs.declared.fault.Fault.{Fault}
use Rattle.feed_commands.specs.declared.fault.Fault.TheVariants as fault

-- the fault of a connection is a want of memory, or is reported as it is
abbrev IsOfNetwork : Fault → Type 0
IsOfNetwork why = (why ≡ fault.Memory) ⊎ ((w : NetworkFault) × (why ≡ fault.Network w))

of_network : (w : NetworkFault) → IsOfNetwork (fault_of_network w)
of_network w = go (is_network_memory w)
  where
    go : (b : Bool) → IsOfNetwork (if b then fault.Memory else fault.Network w)
    go true = inl refl
    go false = inr (w, refl)

err_of : Result (Unit {0}) Fault → Fault
err_of (Err why) = why
err_of (Ok all) = fault.Memory

of_attempt : (end : AttemptEnd) (why : Fault) → outcome_of_attempt end ≡ Err why → IsOfNetwork why
unfolding err_of
of_attempt NoLink why e = subst IsOfNetwork (ap err_of e) (of_network network.Connect)
of_attempt (Followed followed.Early) why e = subst IsOfNetwork (ap err_of e) (of_network (network.Engine (engine.Follow BadHead)))
of_attempt (Followed followed.Ended) why e = absurd (cc)
of_attempt (Followed followed.Done) why e = absurd (cc)
of_attempt (Followed followed.TokenRefused) why e = absurd (cc)
of_attempt (Failed w) why e = subst IsOfNetwork (ap err_of e) (of_network (network.Engine w))

of_last : (last : Option AttemptEnd) (why : Fault) → unwrap_or (option_map outcome_of_attempt last) (Ok tt) ≡ Err why → IsOfNetwork why
of_last None why e = absurd (cc)
of_last (Some end) why e = of_attempt end why e

nothing_where : (shown : Option Published) → is_some (token_of shown) ≡ false → shown ≡ None
nothing_where None e = refl
nothing_where (Some pair) e = absurd (cc)

pub same_position : {D : Type 0} (mirror now : MirrorState) (dial later : D) → now ≡ mirror → later ≡ dial
    → dialing now later ≡ dialing mirror dial
same_position mirror now dial later e f = cc

-- where a pull came to a want of memory, that ran out at its last attempt
attempt_out : (end : AttemptEnd) → outcome_of_attempt end ≡ Err fault.Memory
    → is_want_of_memory end ≡ true
attempt_out NoLink e = absurd (cc)
attempt_out (Followed followed.Early) e = absurd (cc)
attempt_out (Followed followed.Ended) e = absurd (cc)
attempt_out (Followed followed.Done) e = absurd (cc)
attempt_out (Followed followed.TokenRefused) e = absurd (cc)
attempt_out (Failed why) e = go (is_engine_memory why) e
  where
    go : (b : Bool) → ◌≡◌ {A = Result (Unit {0}) Fault} (Err (if b then fault.Memory else fault.Network (network.Engine why))) (Err fault.Memory) → b ≡ true
    go true f = refl
    go false f = absurd (cc)

last_out : (last : Option AttemptEnd) → unwrap_or (option_map outcome_of_attempt last) (Ok tt) ≡ Err fault.Memory
    → unwrap_or (option_map is_want_of_memory last) false ≡ true
last_out None e = absurd (cc)
last_out (Some end) e = attempt_out end e

module _ {D R W : Type 0} (dialer : Dialer D R W) (servers : List Server) (most_reads : ℕ)
    (start end : DialingMirror D) (out : Wrote) (unreported_old unreported_new : ℕ) where
  abbrev FailsBy : Fault → Type 0
  FailsBy why = PullFails dialer servers most_reads why start end out unreported_old unreported_new

  fails : (why : Fault) → IsOfNetwork why → why ≢ fault.Memory
      → PrintedPulled dialer servers most_reads start (Err why) end out → FailsBy why
  fails why (inl e) other printed = absurd (other e)
  fails why (inr (r, e)) other printed = subst FailsBy (sym e)
      (subst (λ w. PrintedPulled dialer servers most_reads start (Err w) end out) e printed)

  -- a pull of these attempts came to this, and the snapshot of what the mirror shows was printed
  pub printed_pulled : (attempts : List Attempt) (ended : Result (Unit {0}) Fault)
      → FollowsFirst dialer servers most_reads start attempts end → ended ≡ outcome_of_pull attempts
      → Appends out.old out.new (published_text end.mirror.node.published)
      → PrintedPulled dialer servers most_reads start ended end out
  printed_pulled attempts ended follows e printed =
      record { has = record { attempts = attempts; follows = follows; came = sym e }; printed = printed }

  pub pull_err : (attempts : List Attempt) (ended result : Result (Unit {0}) Fault) (is_published : Bool)
      → FollowsFirst dialer servers most_reads start attempts end → ended ≡ outcome_of_pull attempts
      → ended ≢ Err fault.Memory → Appends out.old out.new (published_text end.mirror.node.published)
      → is_published ≡ is_some (token_of end.mirror.node.published) → result ≡ outcome_of ended is_published
      → IfErr result FailsBy
  pull_err attempts (Ok all) result is_published follows e other printed reported is =
      subst (λ r. IfErr r FailsBy) (sym is) (by is_published refl)
    where
      by : (t : Bool) → is_published ≡ t → IfErr (outcome_of (Ok all) t) FailsBy
      by true e2 = tt
      by false e2 = (printed_pulled attempts (Ok tt) follows e printed, nothing_where end.mirror.node.published (sym reported ∙ e2))
  pull_err attempts (Err why) result is_published follows e other printed reported is =
      subst (λ r. IfErr r FailsBy) (sym is)
      (fails why (of_last (last_outcome attempts) why (sym e)) (λ m. other (cc))
      (printed_pulled attempts (Err why) follows e printed))

  -- memory ran out at the last attempt
  pub pull_out : (attempts : List Attempt) (ended : Result (Unit {0}) Fault)
      → FollowsFirst dialer servers most_reads start attempts end → ended ≡ outcome_of_pull attempts
      → ended ≡ Err fault.Memory → Keeps out.old out.new → IfErr ended FailsBy
  pull_out attempts ended follows e is kept =
      subst (λ r. IfErr r FailsBy) (sym is)
      (inr (attempts, follows, last_out (last_outcome attempts) (sym e ∙ is)), kept)

  -- only a prefix of the snapshot was printed, or a fault could not be reported
  pub cut_short : (attempts : List Attempt) → FollowsFirst dialer servers most_reads start attempts end
      → FailsToPrint (published_text end.mirror.node.published) out unreported_old unreported_new
      → (why : Fault) → why ≡ fault.Write → FailsBy why
  cut_short attempts follows cut why is = subst FailsBy (sym is) (
    (outcome_of_pull attempts, record { attempts = attempts; follows = follows; came = refl }),
    cut,
  )

  -- all was printed, but a fault could not be reported
  pub unreported : (attempts : List Attempt) → FollowsFirst dialer servers most_reads start attempts end
      → (has_failed : Bool) → (has_failed ≡ true → HasFailed unreported_old unreported_new)
      → Appends out.old out.new (published_text end.mirror.node.published)
      → (r : Result (Unit {0}) Fault) → IfErr r (λ why. (why ≡ fault.Write) × (has_failed ≡ true))
      → IfErr r FailsBy
  unreported attempts follows has_failed reported printed (Ok all) is = tt
  unreported attempts follows has_failed reported printed (Err why) (is, failed) =
      cut_short attempts follows (inr (reported failed, printed)) why is
