use Rattle.feed_live.proofs.NetworkLemmas.{relayed_is_honest, networks_show_the_log, requests_are_meant}
use Rattle.feed_live.proofs.laws.network_laws.Goals as goal

pub returns-clause-relayed : goal.returns-clause-relayed
returns-clause-relayed c = relayed_is_honest c.screen_laws.ensures.handed c.followed_laws.ensures.refusals c.follow_laws.ensures

pub returns-clause-network : goal.returns-clause-network
returns-clause-network c =
    networks_show_the_log c.live_laws.ensures.relays
    (relayed_is_honest c.screen_laws.ensures.handed c.followed_laws.ensures.refusals c.follow_laws.ensures)

pub returns-clause-meant : goal.returns-clause-meant
returns-clause-meant c = requests_are_meant c.answer_laws.ensures.request
