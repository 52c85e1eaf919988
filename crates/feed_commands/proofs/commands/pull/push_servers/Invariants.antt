-- The servers so far are those that were there, and those at the addresses so far.
use Rattle.std.proofs.Common.{◌≡◌, ◌++◌, take, map, string_bytes}
use Rattle.feed_commands.specs.Pull.{asked_at, server_asked}
use Rattle.feed_commands.proofs.commands.pull.push_servers.Given as goal

abbrev pub invariant-addresses : goal.invariant-addresses
invariant-addresses l =
    map server_asked l.servers.items
    ≡ map server_asked l.initial.servers.items
    ++ map (asked_at l.upstream l.contest l.identity) (take l.host-index (map (λ a. (string_bytes a.0, a.1)) l.addresses))
