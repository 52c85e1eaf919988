use Rattle.std.proofs.Common.{sym, ap, ◌∙◌}
use Rattle.std.specs.Option.{option_copied}
use Rattle.feed_play.specs.Player.{node_token}
use Rattle.feed_play.proofs.PlayerLemmas.{token_of_none}
use Rattle.feed_play.proofs.player.token_of.Goals as goal

pub returns-in_err-node : goal.returns-in_err-node
returns-in_err-node c = λ w is.
    ap option_copied c.from_residual-in_err-node.ensures
    ∙ token_of_none w _ is c.in_ok-number.field-0 (sym c.in_err-node.ensures.node)
    ∙ ap (node_token w) (sym c.in_ok-number.was)
