use Rattle.feed_laws.proofs.LawLemmas.{screens_connect, screens_show, screens_reach, screens_follow}
use Rattle.feed_laws.proofs.OpeningLemmas.{due_is_response, served_grows}
use Rattle.feed_laws.proofs.FileLemmas.{files_restore, files_reach}
use Rattle.feed_laws.proofs.FileBegins.{files_begin}
use Rattle.feed_laws.proofs.FileBreaks.{files_break_off}
use Rattle.feed_laws.proofs.TwoFiles.{files_follow, files_follow_on}
use Rattle.feed_laws.proofs.FollowLemmas.{screens_are_safe, screens_arrive}
use Rattle.feed_laws.proofs.laws.hub_laws.Goals as goal

pub returns-clause-connections : goal.returns-clause-connections
returns-clause-connections c = screens_connect c.sending_laws.ensures.commits c.sending_laws.ensures.order

pub returns-clause-states : goal.returns-clause-states
returns-clause-states c = screens_show c.sending_laws.ensures.commits c.sending_laws.ensures.order c.world_laws.ensures.prefixes c.following_laws.ensures.places

pub returns-clause-followed : goal.returns-clause-followed
returns-clause-followed c = screens_follow c.sending_laws.ensures.commits c.sending_laws.ensures.order c.world_laws.ensures.prefixes c.following_laws.ensures.places c.followed_laws.ensures.responses c.followed_laws.ensures.ends

pub returns-clause-due : goal.returns-clause-due
returns-clause-due c = due_is_response

pub returns-clause-grows : goal.returns-clause-grows
returns-clause-grows c = served_grows

pub returns-clause-reach : goal.returns-clause-reach
returns-clause-reach c = screens_reach c.sending_laws.ensures.commits c.sending_laws.ensures.order c.world_laws.ensures.prefixes c.following_laws.ensures.places c.following_laws.ensures.reached

pub returns-clause-files : goal.returns-clause-files
returns-clause-files c = files_restore c.reading_laws.ensures.one (screens_show c.sending_laws.ensures.commits c.sending_laws.ensures.order c.world_laws.ensures.prefixes c.following_laws.ensures.places)

pub returns-clause-files_reach : goal.returns-clause-files_reach
returns-clause-files_reach c = files_reach (screens_reach c.sending_laws.ensures.commits c.sending_laws.ensures.order c.world_laws.ensures.prefixes c.following_laws.ensures.places c.following_laws.ensures.reached)

pub returns-clause-live_follows : goal.returns-clause-live_follows
returns-clause-live_follows c =
    screens_are_safe (screens_connect c.sending_laws.ensures.commits c.sending_laws.ensures.order) c.following_laws.ensures.opens
    c.followed_laws.ensures.responses c.followed_laws.ensures.ends c.followed_laws.ensures.refusals c.following_laws.ensures.refusals
    c.following_laws.ensures.places c.following_laws.ensures.follow c.following_laws.ensures.fails

pub returns-clause-live_arrives : goal.returns-clause-live_arrives
returns-clause-live_arrives c =
    screens_arrive (screens_connect c.sending_laws.ensures.commits c.sending_laws.ensures.order) c.following_laws.ensures.opens
    c.followed_laws.ensures.responses c.followed_laws.ensures.ends c.following_laws.ensures.places c.following_laws.ensures.follow c.following_laws.ensures.fails
    c.followed_laws.ensures.whole c.following_laws.ensures.reached

pub returns-clause-files_follow : goal.returns-clause-files_follow
returns-clause-files_follow c =
    files_follow (record {
      read = c.node_laws.ensures.read;
      good = c.node_laws.ensures.good;
      goes_on = c.reading_laws.ensures.goes_on;
      batches = c.reading_laws.ensures.batches;
      sized = c.table_laws.ensures.sized;
      weighs = c.table_laws.ensures.weighed;
      listed = c.table_laws.ensures.within;
      stand = c.node_laws.ensures.held;
      prefixes = c.world_laws.ensures.prefixes;
      tokens = c.world_laws.ensures.tokens;
      shows = screens_show c.sending_laws.ensures.commits c.sending_laws.ensures.order c.world_laws.ensures.prefixes c.following_laws.ensures.places;
      one = c.reading_laws.ensures.one;
      sends = c.sending_laws.ensures.commits;
      order = c.sending_laws.ensures.order;
      stays = c.following_laws.ensures.places;
      reached = c.following_laws.ensures.reached;
    })

pub returns-clause-files_follow_on : goal.returns-clause-files_follow_on
returns-clause-files_follow_on c =
    files_follow_on (record {
      read = c.node_laws.ensures.read;
      good = c.node_laws.ensures.good;
      goes_on = c.reading_laws.ensures.goes_on;
      batches = c.reading_laws.ensures.batches;
      sized = c.table_laws.ensures.sized;
      weighs = c.table_laws.ensures.weighed;
      listed = c.table_laws.ensures.within;
      stand = c.node_laws.ensures.held;
      prefixes = c.world_laws.ensures.prefixes;
      tokens = c.world_laws.ensures.tokens;
      shows = screens_show c.sending_laws.ensures.commits c.sending_laws.ensures.order c.world_laws.ensures.prefixes c.following_laws.ensures.places;
      one = c.reading_laws.ensures.one;
      sends = c.sending_laws.ensures.commits;
      order = c.sending_laws.ensures.order;
      stays = c.following_laws.ensures.places;
      reached = c.following_laws.ensures.reached;
    })

pub returns-clause-files_begin : goal.returns-clause-files_begin
returns-clause-files_begin c =
    files_begin (record {
      read = c.node_laws.ensures.read;
      good = c.node_laws.ensures.good;
      counted = c.node_laws.ensures.counted;
      one = c.reading_laws.ensures.one;
      snapshots = c.reading_laws.ensures.snapshots;
      listed = c.table_laws.ensures.within;
      cut = c.line_laws.ensures.cut;
      only_cut = c.line_laws.ensures.only_cut;
    })

pub returns-clause-files_break_off : goal.returns-clause-files_break_off
returns-clause-files_break_off c =
    files_break_off (record {
      prefixes = c.world_laws.ensures.prefixes;
      one = c.reading_laws.ensures.one;
      sends = c.sending_laws.ensures.commits;
      order = c.sending_laws.ensures.order;
      stays = c.following_laws.ensures.places;
      reached = c.following_laws.ensures.reached;
    })
