use Rattle.feed_live.proofs.TellingLemmas.{meaning_tells, told_is_honest, telling_is_honest, feed_is_honest}
use Rattle.feed_live.proofs.ReplayExample.{their_replay_ends}
use Rattle.feed_live.proofs.ReplayLemmas.{replay_is_honest}
use Rattle.feed_live.proofs.TokenedExample.{their_feed_is_honest}
use Rattle.feed_live.proofs.TokenedLemmas.{tokened_is_honest}
use Rattle.feed_live.proofs.laws.foreign_laws.Goals as goal

pub returns-clause-meaning : goal.returns-clause-meaning
returns-clause-meaning c = meaning_tells c.line_laws.ensures.one_meaning

pub returns-clause-input : goal.returns-clause-input
returns-clause-input c = told_is_honest c.telling_laws.ensures

pub returns-clause-honest : goal.returns-clause-honest
returns-clause-honest c = telling_is_honest c.telling_laws.ensures

pub returns-clause-tokened : goal.returns-clause-tokened
returns-clause-tokened c =
    tokened_is_honest c.line_laws.ensures.only_cut c.written_lines_law.ensures
    (meaning_tells c.line_laws.ensures.one_meaning) (told_is_honest c.telling_laws.ensures)

pub returns-clause-feeds : goal.returns-clause-feeds
returns-clause-feeds c = feed_is_honest c.carry_laws.ensures c.telling_laws.ensures

pub returns-clause-replays : goal.returns-clause-replays
returns-clause-replays c = replay_is_honest c.follow_laws.ensures c.carry_laws.ensures c.reading_laws.ensures.one

pub returns-clause-feed_example : goal.returns-clause-feed_example
returns-clause-feed_example c =
    their_feed_is_honest
    (tokened_is_honest c.line_laws.ensures.only_cut c.written_lines_law.ensures
    (meaning_tells c.line_laws.ensures.one_meaning) (told_is_honest c.telling_laws.ensures))

pub returns-clause-replay_example : goal.returns-clause-replay_example
returns-clause-replay_example c = their_replay_ends c.reading_laws.ensures.one
