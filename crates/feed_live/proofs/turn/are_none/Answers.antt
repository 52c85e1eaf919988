use Rattle.std.proofs.Common.{◌∙◌, ap, nat_eq, length}
use Rattle.feed_live.proofs.TurnLemmas.{not_empty}
use Rattle.feed_live.proofs.turn.are_none.Goals as goal

pub returns : goal.returns
returns c =
    record {
      some = λ some. not_empty c.is_empty.result c.args.places.now c.is_empty.ensures some;
      none = λ none. c.is_empty.ensures ∙ ap (λ xs. nat_eq (length xs) 0) none;
    }
