use Rattle.std.proofs.Common.{inl, inr, refl, None, Some, lit<}
use Rattle.feed_arguments.proofs.AddressLemmas.{last_cut}
use Rattle.feed_arguments.proofs.NetworkLemmas.{no_slash}
use Rattle.feed_arguments.proofs.network.slashed.Goals as goal

pub returns-in_err-written-clause-none : goal.returns-in_err-written-clause-none
returns-in_err-written-clause-none c =
    λ _. inl (no_slash c.args.text.now
    (last_cut 47 c.args.text.now None c.in_err-written.ensures.cases (lit< tt)))

pub returns-in_err-bits-clause-none : goal.returns-in_err-bits-clause-none
returns-in_err-bits-clause-none c =
    let cut = last_cut 47 c.args.text.now (Some (c.in_ok-written.written, c.in_ok-written.digits))
    c.in_ok-written.ensures.cases (lit< tt) in
    λ _. inr (record {
      written = c.in_ok-written.written.now;
      digits = c.in_ok-written.digits.now;
      is = cut.0;
      why = inl (c.in_err-bits.ensures.none refl);
    })

pub returns-in_err-address-clause-none : goal.returns-in_err-address-clause-none
returns-in_err-address-clause-none c =
    let cut = last_cut 47 c.args.text.now (Some (c.in_ok-written.written, c.in_ok-written.digits))
    c.in_ok-written.ensures.cases (lit< tt) in
    λ _. inr (record {
      written = c.in_ok-written.written.now;
      digits = c.in_ok-written.digits.now;
      is = cut.0;
      why = inr (inl (c.in_err-address.ensures.none refl));
    })

pub returns-clause-none : goal.returns-clause-none
returns-clause-none c =
    let cut = last_cut 47 c.args.text.now (Some (c.in_ok-written.written, c.in_ok-written.digits))
    c.in_ok-written.ensures.cases (lit< tt) in
    λ e. inr (record {
      written = c.in_ok-written.written.now;
      digits = c.in_ok-written.digits.now;
      is = cut.0;
      why = inr (inr (
        c.in_ok-address.address,
        c.in_ok-bits.bits,
        c.in_ok-address.ensures.some,
        c.in_ok-bits.ensures.some,
        c.of_first.ensures.none e,
      ));
    })
