use Rattle.std.proofs.Common.{rules, refl, sym, subst}
use Rattle.feed_arguments.proofs.UrlLemmas.{same_host}
use Rattle.feed_arguments.specs.Listening.{IsWritten}
use Rattle.feed_arguments.proofs.listening.port_with_address.Goals as goal

pub returns-in_err-address-clause-none : goal.returns-in_err-address-clause-none
returns-in_err-address-clause-none c =
    λ _ address port is.
    let same = same_host c.args.text.now _ _ is.is c.in_ok-written.ensures.some in
    c.in_err-address.ensures.none refl address (subst (λ w. IsWritten w address) same is.written_is)
