use Rattle.feed_screens.proofs.ServingLemmas.{answerer_among, but_nothing}
use Rattle.feed_screens.proofs.InputLemmas.{input_at, input_then, keeps_same}
use Rattle.feed_screens.proofs.screens.Screens.answer_at.Goals as goal

pub returns-clause-serving : goal.returns-clause-serving
returns-clause-serving g c =
    λ nodes among blank serving.
    c.heed.ensures.serving nodes c.args.shown.now.contest.now
    (c.hear_of-heard.ensures.serving nodes (g.S.Sockets.socket c.args.sockets.now) (answerer_among nodes c.args.shown.now.is_held _ _ among blank) c.in-Some.ensures.some.0
    (but_nothing c.args.at serving))

pub returns-clause-input : goal.returns-clause-input
returns-clause-input g c =
    input_then c.args.self.now.conns c.hear_of-heard.new.self.conns c.heed.new.self.conns
    (input_at c.args.self.now.conns c.hear_of-heard.new.self.conns c.args.at c.hear_of-heard.ensures.places c.hear_of-heard.ensures.input) c.heed.ensures.input

pub returns-in_default-clause-input : goal.returns-in_default-clause-input
returns-in_default-clause-input g c = λ other. keeps_same _
