use Rattle.feed_screens.proofs.InputLemmas.{input_at, input_then, keeps_or_over}
use Rattle.feed_screens.proofs.screens.Screens.turn_away.Goals as goal

pub returns-clause-serving : goal.returns-clause-serving
returns-clause-serving g c =
    λ nodes contest unheard serves. c.cut_slow.ensures.serving nodes contest (c.refuse_at.ensures.serving nodes contest unheard serves)

pub returns-clause-input : goal.returns-clause-input
returns-clause-input g c =
    input_then c.args.self.now.conns c.refuse_at.new.self.conns c.cut_slow.new.self.conns
    (input_at c.args.self.now.conns c.refuse_at.new.self.conns c.args.at c.refuse_at.ensures.refuses.others c.refuse_at.ensures.input)
    (λ other. keeps_or_over _ _ (c.cut_slow.ensures.places other))
