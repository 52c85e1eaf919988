use Rattle.feed_answer.proofs.FollowedLemmas.{heads_are_read, responses_are_followed, ends_are_followed, prefixes_carry_more, whole_carries_all, refusals_are_followed}
use Rattle.feed_answer.proofs.laws.followed_laws.Goals as goal

pub returns : goal.returns
returns c = record {
  heads = heads_are_read;
  responses = responses_are_followed c.follow_laws.ensures;
  whole = whole_carries_all;
  monotone = prefixes_carry_more;
  ends = ends_are_followed c.follow_laws.ensures;
  refusals = refusals_are_followed c.follow_laws.ensures;
}
