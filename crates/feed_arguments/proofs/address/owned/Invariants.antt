-- What is there so far are the addresses of the parts so far.
use Rattle.std.proofs.Common.{take, map, string_bytes}
use Rattle.feed_arguments.specs.Addresses.{AreAddresses}
use Rattle.feed_arguments.proofs.address.owned.Given as goal

abbrev pub invariant-parts : goal.invariant-parts
invariant-parts l =
    AreAddresses (take l.part-index (map (λ part. part.now) l.all))
    (map (λ a. (string_bytes a.0, a.1)) l.addresses.items)
