use Rattle.std.proofs.Common.{sym, subst, ap, ◌∙◌}
use Rattle.std.specs.Prelude.{Contains}
use Rattle.feed_screens.proofs.InputLemmas.{input_at, input_then}
use Rattle.feed_screens.proofs.screens.Screens.serve_at.Goals as goal

pub returns-clause-serving : goal.returns-clause-serving
returns-clause-serving g c =
    λ nodes among among_blank serving.
    c.drain.ensures.serving nodes c.args.shown.now.contest.now
    (subst (λ n. Contains nodes n) (sym (c.node.ensures ∙ ap (λ m. m.node) c.answer_at.ensures.mirrors.shown)) among)
    (c.answer_at.ensures.serving nodes among among_blank serving)

pub returns-clause-input : goal.returns-clause-input
returns-clause-input g c =
    input_then c.args.self.now.conns c.answer_at.new.self.conns c.drain.new.self.conns c.answer_at.ensures.input
    (input_at c.answer_at.new.self.conns c.drain.new.self.conns c.args.at c.drain.ensures.places c.drain.ensures.input)
