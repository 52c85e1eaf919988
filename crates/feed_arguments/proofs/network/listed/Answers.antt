use Rattle.std.proofs.Common.{◌≡◌, ap, sym, subst, ◌∙◌, map, IfOk}
use Rattle.feed_arguments.specs.Addresses.{parts}
use Rattle.feed_arguments.specs.Networks.{AreGoodNetworks, AreNetworks}
use Rattle.feed_arguments.proofs.network.listed.Goals as goal

pub owned-requires : goal.owned-requires
owned-requires c =
    subst AreGoodNetworks
    (sym (ap (map (λ part. part.now)) c.deref.ensures.value ∙ c.in_ok-all.ensures)) c.requires

pub returns : goal.returns
returns c =
    subst (λ found. IfOk c.owned.result (λ networks. AreNetworks found networks.items))
    (ap (map (λ part. part.now)) c.deref.ensures.value ∙ c.in_ok-all.ensures) c.owned.ensures
