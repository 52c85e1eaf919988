use Rattle.std.proofs.Common.{sym, subst, ap, ◌∙◌}
use Rattle.std.specs.Prelude.{Contains}
use Rattle.feed_screens.proofs.ServingLemmas.{answerer_among}
use Rattle.feed_screens.proofs.screens.Screens.serve.Goals as goal

pub returns-then-has_more_at-clause-serving : goal.returns-then-has_more_at-clause-serving
returns-then-has_more_at-clause-serving g c =
    λ nodes among among_blank serving.
    c.drain.ensures.serving nodes c.args.shown.now.contest.now
    (subst (λ n. Contains nodes n) (sym (c.node.ensures ∙ ap (λ m. m.node) c.read.ensures.mirrors.shown)) among)
    (c.read.ensures.serving nodes (answerer_among nodes c.args.shown.now.is_held _ _ among among_blank) serving)

pub returns-else-has_more_at-clause-serving : goal.returns-else-has_more_at-clause-serving
returns-else-has_more_at-clause-serving g c =
    λ nodes among among_blank serving.
    c.drain.ensures.serving nodes c.args.shown.now.contest.now
    (subst (λ n. Contains nodes n) (sym (c.node.ensures ∙ ap (λ m. m.node) c.read.ensures.mirrors.shown)) among)
    (c.read.ensures.serving nodes (answerer_among nodes c.args.shown.now.is_held _ _ among among_blank) serving)
