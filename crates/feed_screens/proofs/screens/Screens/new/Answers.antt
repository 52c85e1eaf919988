use Rattle.std.proofs.Common.{None, ap, refl, List}
use Rattle.std.specs.Prelude.{Option, slice_index_or}
use Rattle.feed_screens.specs.declared.conn.Conn.{Conn}
use Rattle.feed_screens.proofs.ServingLemmas.{serving_none}
use Rattle.feed_screens.proofs.screens.Screens.new.Goals as goal

pub returns : goal.returns
returns c =
    record {
      serving = λ nodes contest sockets closed.
          serving_none _ c.new-2.result sockets (λ at. ap (λ (slots : List (Option Conn)). slice_index_or slots at None) c.new-2.ensures.empty) closed;
      most = c.new.ensures.limits.1;
      window = c.new.ensures.limits.0;
      limits = refl;
      accepts = refl;
    }
