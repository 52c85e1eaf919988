use Rattle.std.proofs.Common.{arith, ap, subst}
use Rattle.std.proofs.Common.{length}
use Rattle.feed_text.specs.FourNames.{IsNamed}
use Rattle.feed_text.specs.Reading.{is_unescaped}
use Rattle.feed_text.proofs.Bounds.{while_shorter}
use Rattle.feed_text.proofs.FourNames.{first_byte_is, key_found}
use Rattle.feed_text.proofs.named.any_key.Goals as goal

pub prefix-requires : goal.prefix-requires
prefix-requires c = omega (arith, ap length c.skip_unescaped-end.ensures, while_shorter is_unescaped c.args.text.now)

pub returns : goal.returns
returns c =
    let end = c.skip_unescaped-end.result.now in
    let closed = first_byte_is 34 end c.in_ok-rest.rest.now (omega arith) c.in_ok-rest.ensures in
    key_found c.key_of.result c.args.text.now end c.in_ok-rest.rest.now c.in_ok-value.value.now c.skip_unescaped-end.ensures closed (subst (IsNamed c.key_of.result) c.prefix.ensures c.key_of.ensures) c.in_ok-value.ensures
