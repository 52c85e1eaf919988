use Rattle.std.proofs.Common.{◌∙◌, sym, ap}
use Rattle.feed_play.specs.Script.{words, numbers_in}
use Rattle.feed_play.proofs.NumberLemmas.{behind, starts, numbers_more}
use Rattle.feed_play.proofs.script.read_numbers.Goals as goal

pub words-init : goal.words-init
words-init c = rw c.new-numbers.ensures.items (starts _)

pub words-preserved : goal.words-preserved
words-preserved c =
    let cut = rw c.in-Some-behind.is at c.split_word.ensures.more in
    numbers_more _ c.words.numbers.items c.words.left.now _ c.in-Some-behind.more.now c.in-Some.number c.words.invariant cut (sym c.read_number.ensures ∙ c.in-Some.is)
    ∙ ap (λ ns. behind ns (numbers_in (words c.in-Some-behind.more.now))) (sym c.in_ok-push.ensures.items)
