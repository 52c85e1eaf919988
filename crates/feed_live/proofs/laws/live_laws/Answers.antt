use Rattle.feed_live.proofs.HonestLemmas.{relays_show_the_log, followed_is_honest, input_shows_the_log, shown_is_honest, sent_is_honest}
use Rattle.feed_live.proofs.laws.live_laws.Goals as goal

pub returns-clause-relays : goal.returns-clause-relays
returns-clause-relays c = relays_show_the_log

pub returns-clause-honest : goal.returns-clause-honest
returns-clause-honest c = followed_is_honest

pub returns-clause-takes : goal.returns-clause-takes
returns-clause-takes c = input_shows_the_log

pub returns-clause-input : goal.returns-clause-input
returns-clause-input c = shown_is_honest c.reading_laws.ensures.one

pub returns-clause-sent : goal.returns-clause-sent
returns-clause-sent c = sent_is_honest c.reading_laws.ensures.one c.hub_laws.ensures.states
