use Rattle.std.proofs.Common.{refl}
use Rattle.feed_arguments.proofs.AddressLemmas.{list_of}
use Rattle.feed_arguments.proofs.address.addresses.Goals as goal

pub returns-in_ok-listed-in-None-clause-ok : goal.returns-in_ok-listed-in-None-clause-ok
returns-in_ok-listed-in-None-clause-ok c =
    list_of c.args.text.now _ _ refl c.in_ok-listed-in-None.ensures c.in-None.ensures.1
