-- Lemmas on how the next follower is served.
use Rattle.std.proofs.Common.{◌≡◌, sym, subst}
use Rattle.std.specs.Prelude.{Result, Ok, Err, IsErrOf}
use Rattle.feed_http.specs.Exchange.{Exchange}
use Rattle.feed_http.specs.declared.fault.EngineFault.{EngineFault}
use Rattle.feed_http.specs.declared.fault.Served.{Served}
use Rattle.feed_relay.specs.Dialing.{Links, OnLink}
use Rattle.feed_relay.specs.Serving.{over_network, ServesNext}
use Rattle.feed_relay.specs.declared.fault.NetworkFault.{NetworkFault}
use Rattle.feed_relay.specs.declared.fault.NetworkFault.TheVariants.{Accept}

module _ {A R W : Type 0} (links : Links A R W)
    (Serves : Exchange → Result Served EngineFault → Type 0) (start end : A) where
  serves_on : (served : Result Served EngineFault)
      → OnLink links start (λ spoken. Serves spoken served) end
      → ServesNext links Serves start (over_network served) end
  serves_on (Ok served) on = on
  serves_on (Err fault) on = on

  -- what came of a connection, as a program sees it
  pub serves_next : (served : Result Served EngineFault) (told : Result Served NetworkFault)
      → told ≡ over_network served → OnLink links start (λ spoken. Serves spoken served) end
      → ServesNext links Serves start told end
  serves_next served told is on =
      subst (λ r. ServesNext links Serves start r end) (sym is) (serves_on served on)

accepted : (served : Result Served EngineFault) → ¬ (IsErrOf (over_network served) Accept)
accepted (Ok served) e = absurd (cc)
accepted (Err fault) e = absurd (cc)

-- and somebody was accepted
pub not_missed : (served : Result Served EngineFault) (told : Result Served NetworkFault)
    → told ≡ over_network served → ¬ (IsErrOf told Accept)
not_missed served told is e = accepted served (subst (λ r. IsErrOf r Accept) is e)
