use Rattle.std.proofs.Common.{◌∷◌, ◌∙◌, sym, ap, take, ◌+◌}
use Rattle.std.proofs.lemmas.List.{take_rest}
use Rattle.feed_play.specs.Script.{words}
use Rattle.feed_play.proofs.WordLemmas.{none_found, found_at}
use Rattle.feed_play.proofs.script.split_word.Goals as goal

pub returns-in-Some-clause-more : goal.returns-in-Some-clause-more
returns-in-Some-clause-more c =
    let text = c.args.text.now in
    let n = c.in-Some.end in
    (found_at text n (sym c.space_in.ensures ∙ c.in-Some.is)).1 ∙ ap (λ l. take n text ∷ words l) (sym (take_rest text (n + 1)))

pub returns-in-None-clause-last : goal.returns-in-None-clause-last
returns-in-None-clause-last c = none_found c.args.text.now (sym c.space_in.ensures ∙ c.in-None.is)
