-- What is there so far are the networks of the parts so far.
use Rattle.std.proofs.Common.{take, map}
use Rattle.feed_arguments.specs.Networks.{AreNetworks}
use Rattle.feed_arguments.proofs.network.owned.Given as goal

abbrev pub invariant-parts : goal.invariant-parts
invariant-parts l =
    AreNetworks (take l.part-index (map (λ part. part.now) l.all)) l.networks.items
