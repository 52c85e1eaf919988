use Rattle.std.proofs.Common.{◌∙◌}
use Rattle.feed_live.proofs.SourceLemmas.{newest_held, some_none}
use Rattle.feed_live.proofs.source.rechecking.token_for.Goals as goal

pub returns-then-not-is_again-clause-may_ask : goal.returns-then-not-is_again-clause-may_ask
returns-then-not-is_again-clause-may_ask c = (
  λ none. some_none _ (c.in_ok-newest.ensures.since ∙ none),
  newest_held _ _ c.node-node.ensures.consistent c.in_ok-newest.ensures.published,
)

pub returns-in-None-clause-may_ask : goal.returns-in-None-clause-may_ask
returns-in-None-clause-may_ask c = (
  λ none. some_none _ (c.in_ok-newest.ensures.since ∙ none),
  newest_held _ _ c.node-node.ensures.consistent c.in_ok-newest.ensures.published,
)
