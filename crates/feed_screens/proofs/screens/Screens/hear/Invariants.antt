use Rattle.std.proofs.Common.{◌≡◌, List, Some, length}
use Rattle.std.specs.Prelude.{Contains}
use Rattle.feed_node.specs.States.{NodeState}
use Rattle.feed_device.specs.Sockets.{AllSockets}
use Rattle.feed_screens.specs.Serving.{ServesBut, SameKeys, key_at}
use Rattle.feed_screens.proofs.screens.Screens.hear.Given as goal

abbrev pub invariant-parts : goal.invariant-parts
invariant-parts l =
    record {
      mirror : l.answering.mirror ≡ l.initial.answering.mirror;
      comes : l.self ≡ record l.initial.self { hub = l.self.hub };
      keys : SameKeys l.initial.self.conns l.self.conns;
      serving : (nodes : List NodeState) (sockets : AllSockets) → Contains nodes l.initial.answering.mirror.node
          → key_at l.initial.self.conns l.keyed.at ≡ Some (Some l.keyed.key)
          → ServesBut nodes l.contest l.initial.self.hub l.initial.self.conns sockets l.keyed.at l.initial.rest
          → ServesBut nodes l.contest l.self.hub l.self.conns sockets l.keyed.at l.rest;
    }

abbrev pub decreases-parts : goal.decreases-parts
decreases-parts l = length l.rest
