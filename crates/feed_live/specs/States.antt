-- All that nodes at places of a log show.
use Rattle.std.specs.Prelude.{ℕ, zero, suc, ◌-◌, List, [], ◌∷◌, ◌++◌, length, Option, if◌then◌else◌}
use Rattle.feed_settings.specs.Limits.{Limits, History}
use Rattle.feed_node.specs.Kept.{are_heavy}
use Rattle.feed_node.specs.States.{NodeState, nothing_published}
use Rattle.feed_world.specs.Log.{Log}
use Rattle.feed_world.specs.Position.{node_at}

-- this node alone, unless the commits that it keeps are too heavy for a limit
abbrev pub unless_heavy : Option ℕ → NodeState → List NodeState
unless_heavy limit node = if are_heavy limit node.kept then [] else node ∷ []

-- what a node shows at this number of the log that keeps so many commits, one fewer, .., or none,
-- where they are within a limit in bytes
abbrev pub states_at : Option ℕ → Log → ℕ → ℕ → List NodeState
states_at limit log at zero = unless_heavy limit (node_at log (record { at = at; low = at }))
states_at limit log at (suc kept) =
    unless_heavy limit (node_at log (record { at = at; low = at - suc kept }))
    ++ states_at limit log at kept

-- the same at this number, one before, .., or the first one
abbrev pub states_to : History → Log → ℕ → List NodeState
states_to history log zero = states_at history.bytes log zero history.commits
states_to history log (suc at) =
    states_at history.bytes log (suc at) history.commits ++ states_to history log at

-- nothing, and each state of the log, with each number of commits that may be kept
unfoldable pub states_of : Limits → Log → List NodeState
states_of limits log = nothing_published ∷ states_to limits.history log (length log.commits)
