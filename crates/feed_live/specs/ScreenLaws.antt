-- What the sockets of screens were written, and what mirrors make of that.
use Rattle.std.specs.Prelude.{◌≡◌, ℕ, List, Some}
use Rattle.std.specs.List.{AllByRecursion}
use Rattle.slab.specs.Slab.{Slab}
use Rattle.feed_settings.specs.Limits.{Limits}
use Rattle.feed_node.specs.Mirroring.{MirrorState}
use Rattle.feed_node.specs.States.{NodeState}
use Rattle.feed_world.specs.Log.{Log, IsLog}
use Rattle.feed_hub.specs.declared.hub.Hub.{Hub}
use Rattle.feed_laws.specs.Follows.{HasAskedSo, FollowsInLog}
use Rattle.feed_laws.specs.Laws.{AreInLog}
use Rattle.feed_screens.specs.declared.conn.Conn.{Conn}
use Rattle.feed_screens.specs.Serving.{WasServed, WasFaithful, ServesScreens}
use Rattle.feed_device.specs.Sockets.{Socket, AllSockets, traffic_of}

-- what was written to each connection, also to one that is over, is faithful
abbrev pub SocketsAreFaithful : Type 0
SocketsAreFaithful =
    (nodes : List NodeState) (contest : List ℕ) (hub : Hub) (conns : Slab Conn)
    (sockets : AllSockets) (at : ℕ) (socket : Socket)
    → ServesScreens nodes contest hub conns sockets → sockets at ≡ Some socket
    → AllByRecursion (WasFaithful nodes contest) (traffic_of socket)

-- Where the nodes are at places of a log, and a mirror at a place of it asked with the head that
-- was answered, any prefix of what a screen was handed leaves the mirror at a place of that log.
abbrev pub HandedIsFollowed : Type 0
HandedIsFollowed =
    (limits : Limits) (log : Log) (nodes : List NodeState) (contest came handed : List ℕ)
    (begun : MirrorState) (was : WasServed nodes contest came handed)
    → IsLog limits log → AreInLog log nodes
    → HasAskedSo limits log was.given.head contest begun
    → FollowsInLog limits log was.answer begun handed
