use Rattle.std.proofs.Common.{◌≡◌, sym, ap, ◌∙◌}
use Rattle.std.specs.Prelude.{true, false}
use Rattle.feed_live.proofs.InputLemmas.{honest_before}
use Rattle.feed_live.proofs.turn.Live.feed.Goals as goal

pub returns-then-self-clause-taking : goal.returns-then-self-clause-taking
returns-then-self-clause-taking c =
    λ sockets limits log begun input is.
    let fed = c.take_input-self.ensures.takes limits log _ begun input sockets is.shows (is.takes c.if-self.true) in
    record { no_places = ap (λ s. s.places) c.take_input-self.ensures.servers ∙ is.no_places; shows = fed.0; takes = fed.1 }

pub returns-else-self-clause-taking : goal.returns-else-self-clause-taking
returns-else-self-clause-taking c =
    λ sockets limits log begun input is.
    record {
      no_places = is.no_places;
      shows = λ honest. is.shows (honest_before limits log input c.args.piece.now honest);
      takes = λ feeds. let wrong : false ≡ true = sym c.if-self.false ∙ feeds in absurd (cc);
    }

pub returns-then-self-clause-stops : goal.returns-then-self-clause-stops
returns-then-self-clause-stops c =
    λ sockets limits log begun input is feeds ends.
    let stopped = c.take_input-self.ensures.stops ends in
    (stopped.0, stopped.1 begun input (is.takes c.if-self.true))

pub returns-else-self-clause-stops : goal.returns-else-self-clause-stops
returns-else-self-clause-stops c =
    λ sockets limits log begun input is feeds ends. let wrong : false ≡ true = sym c.if-self.false ∙ feeds in absurd (cc)
