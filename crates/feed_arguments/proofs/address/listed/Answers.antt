use Rattle.std.proofs.Common.{◌≡◌, ap, sym, subst, ◌∙◌, map, string_bytes, IfOk}
use Rattle.feed_arguments.specs.Addresses.{AreGood, AreAddresses}
use Rattle.feed_arguments.proofs.address.listed.Goals as goal

pub owned-requires : goal.owned-requires
owned-requires c =
    subst AreGood
    (sym (ap (map (λ part. part.now)) c.deref.ensures.value ∙ c.in_ok-all.ensures)) c.requires

pub returns : goal.returns
returns c =
    subst (λ found. IfOk c.owned.result (λ all. AreAddresses found
    (map (λ a. (string_bytes a.0, a.1)) all.items)))
    (ap (map (λ part. part.now)) c.deref.ensures.value ∙ c.in_ok-all.ensures) c.owned.ensures
