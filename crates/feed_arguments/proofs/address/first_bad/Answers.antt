use Rattle.std.proofs.Common.{rules, lit<}
use Rattle.std.proofs.lemmas.Iterator.{IsFirst-from_position}
use Rattle.std.proofs.lemmas.Iterator.Splits.{YieldsList-from_str_split}
use Rattle.feed_arguments.specs.Addresses.{IsSomeAddress, IsNoAddress, parts}
use Rattle.feed_arguments.proofs.AddressLemmas.{first_of}
use Rattle.feed_arguments.proofs.address.first_bad.Goals as goal

pub returns : goal.returns
returns c =
    first_of (parts c.args.text.now) c.position.result
    (IsFirst-from_position _ _ c.position.result IsNoAddress IsSomeAddress c.position.ensures.ran
    (YieldsList-from_str_split 44 c.args.text.now (lit< tt) c.split.ensures.text c.split.ensures.has_more
    c.split.ensures.pattern)
    (λ x q k. search rules) (λ x q k. search rules))
