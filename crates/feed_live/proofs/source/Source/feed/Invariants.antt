use Rattle.std.proofs.Common.{◌≡◌, ℕ, List}
use Rattle.feed_node.specs.Mirroring.{MirrorState}
use Rattle.feed_live.specs.Relaying.{servers_of}
use Rattle.feed_files.specs.Input.{TakesInput}
use Rattle.feed_live.proofs.InputLemmas.{KeepsTaking}
use Rattle.feed_live.proofs.source.Source.feed.Given as goal

abbrev pub invariant-loop : goal.invariant-loop
invariant-loop l =
    record {
      servers : servers_of l.self ≡ servers_of l.initial.self;
      rest : l.self.rest.items ≡ l.initial.self.rest.items;
      takes : KeepsTaking l.initial.self l.self l.initial.rest l.rest l.initial.screens l.screens;
      goes_on : (begun : MirrorState) (input : List ℕ) → TakesInput begun input l.initial.rest l.initial.self.answers.shown.mirror
          → TakesInput begun input l.rest l.self.answers.shown.mirror;
    }
