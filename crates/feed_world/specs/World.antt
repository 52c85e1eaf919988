-- A world of nodes: a primary, and mirrors that connect to any other node.
use Rattle.std.specs.Prelude.{ℕ, zero, suc, ◌≤◌, ◌-◌, Bool, false, not, ◌&&◌, nat_le, ◌==◌, List, [], length, replicate, Option, Some, None, slice_get, slice_set}
use Rattle.std.specs.Option.{option_and_then}
use Rattle.feed_settings.specs.Limits.{Limits}
use Rattle.feed_settings.specs.declared.framing.Framing.{Framing}
use Rattle.feed_node.specs.States.{NodeState}
use Rattle.feed_changes.specs.declared.change.Change.{Change}
use Rattle.feed_world.specs.Log.{Log, numbered, state_text}
use Rattle.feed_world.specs.Position.{Position, node_where}
use Rattle.feed_world.specs.Connection.{Connection}

-- a mirror: where it is, if it has published anything; the node that it connected to last, and node
-- 0 before; whether its token was refused and nothing was published since, so that its next
-- connection is fresh; its connection to that node, if there is one; and the number of the state
-- that is its saved text, if one is
pub record Mirror : Type 0 where
  pub place : Option Position
  pub upstream : ℕ
  pub afresh : Bool
  pub connection : Option Connection
  pub saved : Option ℕ

-- a world: the limits of its nodes, how the bodies of responses are framed, the changes of each
-- commit of its primary, where the primary is, and the mirrors
pub record World : Type 0 where
  pub limits : Limits
  pub framing : Framing
  pub log : List (List Change)
  pub primary : Position
  pub mirrors : List Mirror

-- how many nodes a world has at most
abbrev pub most_nodes : ℕ
most_nodes = 256

-- a world may have so many nodes: the primary, and no more mirrors than there may be
pub record HasShape (nodes : ℕ) : Type 0 where
  pub some : 1 ≤ nodes
  pub few : nodes ≤ most_nodes

abbrev pub new_mirror : Mirror
new_mirror =
    record {
      place = None;
      upstream = 0;
      afresh = false;
      connection = None;
      saved = None;
    }

-- the world of so many nodes at the start
abbrev pub new_world : Limits → Framing → ℕ → World
new_world limits framing nodes =
    record {
      limits = limits;
      framing = framing;
      log = [];
      primary = record { at = 0; low = 0 };
      mirrors = replicate (nodes - 1) new_mirror;
    }

-- node j is there, and another than node i
abbrev pub is_other : World → ℕ → ℕ → Bool
is_other world i j = nat_le j (length world.mirrors) && not (j == i)

-- the mirror of this number, where there is one
abbrev pub mirror_at : World → ℕ → Option Mirror
mirror_at world zero = None
mirror_at world (suc i) = slice_get world.mirrors i

-- the world with another mirror of this number
abbrev pub with_mirror : World → ℕ → Mirror → World
with_mirror world zero mirror = world
with_mirror world (suc i) mirror =
    record {
      limits = world.limits;
      framing = world.framing;
      log = world.log;
      primary = world.primary;
      mirrors = slice_set world.mirrors i mirror;
    }

-- where the node of this number is; nowhere, if it has published nothing or is not there
abbrev pub place_at : World → ℕ → Option Position
place_at world zero = Some world.primary
place_at world (suc i) = option_and_then (λ mirror. mirror.place) (slice_get world.mirrors i)

-- the text that is saved of the state of this number; empty without one
abbrev pub saved_text : Log → Option ℕ → List ℕ
saved_text log None = []
saved_text log (Some k) = state_text log k

-- what the node of this number shows
abbrev pub node_of : World → ℕ → NodeState
node_of world i = node_where (numbered world.log) (place_at world i)

-- the connection of the mirror of this number, where there is one
abbrev pub connection_at : World → ℕ → Option Connection
connection_at world i = option_and_then (λ mirror. mirror.connection) (mirror_at world i)
