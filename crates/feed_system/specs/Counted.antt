-- As whom somebody counts who has several connections.
use Rattle.std.specs.Prelude.{◌/◌, ◌^◌}
use Rattle.feed_arguments.specs.declared.network.Origin.{Origin}
use Rattle.feed_arguments.specs.declared.network.Origin.TheVariants.{V4, V6}
use Rattle.feed_system.specs.declared.tally.Owner.{Owner}
use Rattle.feed_system.specs.declared.tally.Owner.TheVariants as owner

-- An address of IPv6 counts by its first 64 bits: the other 64 are its interface's, and one host
-- may take any of them (RFC 4291, section 2.5.4).
abbrev pub counted_as : Origin → Owner
counted_as (V4 number) = owner.V4 number
counted_as (V6 number) = owner.V6 (number / 2 ^ 64)
