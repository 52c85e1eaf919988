use Rattle.std.proofs.Common.{◌≡◌, rules, List, ℕ, true}
use Rattle.std.specs.Prelude.{Option, Ok, option_map}
use Rattle.std.specs.Option.{option_copied}
use Rattle.feed_settings.specs.Place.{is_host}
use Rattle.feed_wire.specs.Identity.{basic, identity_of, is_user_pass, passes}
use Rattle.feed_wire.proofs.identity.Identity.new.Goals as goal

made : (host user named credentials : Option (List ℕ)) → passes is_host host ≡ true
    → passes is_user_pass user ≡ true → named ≡ host → credentials ≡ option_map basic user
    → identity_of named user ≡ Ok (record { host = named; credentials = credentials })
made host user named credentials is_good is_user same coded = rw (same, coded, is_good, is_user)

pub invariant_of-result : goal.invariant_of-result
invariant_of-result c = (
  option_copied c.args.user,
  made (option_copied c.args.host) (option_copied c.args.user) _ _ (search rules) (search rules)
      c.in_ok-owned.ensures c.in_ok-credentials.ensures,
)
