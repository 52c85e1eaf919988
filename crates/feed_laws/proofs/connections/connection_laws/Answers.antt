use Rattle.feed_laws.proofs.ConnectionLemmas.{nodes_followed, primaries_followed, broken_off_followed}
use Rattle.feed_laws.proofs.PrimaryLemmas.{primaries_meet_their_log}
use Rattle.feed_laws.proofs.connections.connection_laws.Goals as goal

pub returns-clause-nodes : goal.returns-clause-nodes
returns-clause-nodes c =
    nodes_followed c.hub_laws.ensures.connections c.following_laws.ensures.opens
    c.followed_laws.ensures.responses c.followed_laws.ensures.ends c.followed_laws.ensures.refusals
    c.following_laws.ensures.refusals c.following_laws.ensures.places c.following_laws.ensures.follow
    c.following_laws.ensures.fails c.followed_laws.ensures.whole c.following_laws.ensures.reached

pub returns-clause-primaries : goal.returns-clause-primaries
returns-clause-primaries c =
    primaries_followed c.hub_laws.ensures.connections c.following_laws.ensures.opens
    c.followed_laws.ensures.responses c.followed_laws.ensures.ends c.followed_laws.ensures.refusals
    c.following_laws.ensures.refusals c.following_laws.ensures.places c.following_laws.ensures.follow
    c.following_laws.ensures.fails c.followed_laws.ensures.whole c.following_laws.ensures.reached

pub returns-clause-broken : goal.returns-clause-broken
returns-clause-broken c =
    broken_off_followed c.hub_laws.ensures.connections c.following_laws.ensures.opens
    c.followed_laws.ensures.responses c.followed_laws.ensures.ends c.followed_laws.ensures.refusals
    c.following_laws.ensures.refusals c.following_laws.ensures.places c.following_laws.ensures.follow
    c.following_laws.ensures.fails c.followed_laws.ensures.whole c.following_laws.ensures.reached

pub returns-clause-meets : goal.returns-clause-meets
returns-clause-meets c = primaries_meet_their_log
