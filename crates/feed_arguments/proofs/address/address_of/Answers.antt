use Rattle.std.proofs.Common.{rules, ◌≡◌, refl, false, None, Some, lit<}
use Rattle.feed_settings.specs.Place.{is_host}
use Rattle.feed_arguments.proofs.AddressLemmas.{last_cut, bad_without_colon, bad_host, bad_port}
use Rattle.feed_arguments.proofs.address.address_of.Goals as goal

pub returns-in_err-host-clause-none : goal.returns-in_err-host-clause-none
returns-in_err-host-clause-none c =
    λ _. bad_without_colon c.args.text.now (last_cut 58 c.args.text.now None c.in_err-host.ensures.cases (lit< tt))

pub returns-then-not-is_host-clause-none : goal.returns-then-not-is_host-clause-none
returns-then-not-is_host-clause-none c =
    let cut = last_cut 58 c.args.text.now (Some (c.in_ok-host.host, c.in_ok-host.digits)) c.in_ok-host.ensures.cases
    (lit< tt) in
    let none : is_host c.in_ok-host.host.now ≡ false = search rules in
    λ _. bad_host c.args.text.now c.in_ok-host.host.now c.in_ok-host.digits.now cut.0 cut.1 none

pub returns-in_err-port-clause-none : goal.returns-in_err-port-clause-none
returns-in_err-port-clause-none c =
    let cut = last_cut 58 c.args.text.now (Some (c.in_ok-host.host, c.in_ok-host.digits)) c.in_ok-host.ensures.cases
    (lit< tt) in
    λ _. bad_port c.args.text.now c.in_ok-host.host.now c.in_ok-host.digits.now cut.0 cut.1
    (c.in_err-port.ensures.none refl)
