-- Who may connect (RFC 4632, section 3.1).
use Rattle.std.specs.Prelude.{ℕ, Bool, true, List, Option, Some, None, Vec, ⊤}
use Rattle.std.specs.List.{list_any}
use Rattle.std.specs.declared.alloc.Global.{Global}
use Rattle.feed_arguments.specs.Addresses.{parts}
use Rattle.feed_arguments.specs.Networks.{AreNetworks, is_within}
use Rattle.feed_arguments.specs.declared.network.Network.{Network}
use Rattle.feed_arguments.specs.declared.network.Origin.{Origin}

-- whether somebody is in one of the networks; where none are listed everybody may connect
abbrev pub may_connect : Option (Vec Network Global) → Origin → Bool
may_connect None origin = true
may_connect (Some networks) origin = list_any (λ network. is_within network origin) networks.items

-- the networks are those of the list; there are none where there is no list
abbrev pub AreListed : Option (List ℕ) → Option (Vec Network Global) → Type 0
AreListed None None = ⊤
AreListed None (Some networks) = ⊥
AreListed (Some list) None = ⊥
AreListed (Some list) (Some networks) = AreNetworks (parts list) networks.items
