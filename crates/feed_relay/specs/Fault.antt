-- Which faults of connections are a want of memory.
use Rattle.std.specs.Prelude.{Bool, true, false}
use Rattle.feed_node.specs.declared.fault.FeedFault.TheVariants as feed_fault
use Rattle.feed_node.specs.declared.primary.CommitFault.TheVariants as commit_fault
use Rattle.feed_follow.specs.declared.fault.FollowFault.TheVariants as follow_fault
use Rattle.feed_http.specs.declared.fault.EngineFault.{EngineFault}
use Rattle.feed_http.specs.declared.fault.EngineFault.TheVariants as engine_fault
use Rattle.feed_relay.specs.declared.fault.NetworkFault.{NetworkFault}
use Rattle.feed_relay.specs.declared.fault.NetworkFault.TheVariants.{Engine}

abbrev pub is_engine_memory : EngineFault → Bool
is_engine_memory engine_fault.Memory = true
is_engine_memory (engine_fault.Commit commit_fault.Memory) = true
is_engine_memory (engine_fault.Follow follow_fault.Memory) = true
is_engine_memory (engine_fault.Follow (follow_fault.Feed feed_fault.Memory)) = true
is_engine_memory _ = false

-- memory ran out
abbrev pub is_network_memory : NetworkFault → Bool
is_network_memory (Engine fault) = is_engine_memory fault
is_network_memory _ = false
