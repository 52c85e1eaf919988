-- For how long a relay waits for a server, and why it leaves one. All times are in milliseconds.
use Rattle.std.specs.Prelude.{◌≡◌, ◌≢◌, ◌⊎◌, ℕ, ◌≤◌, ◌^◌, ◌-◌, ◌*◌, ◌+◌, ◌%◌, Bool, true, false, not, ◌&&◌, ◌||◌, nat_eq, nat_lt, nat_le, bytes_eq, min, max, if◌then◌else◌, List, [], ◌∷◌, length, Option, Some, None, is_some, is_none, option_map, IfSome}
use Rattle.feed_device.specs.Calls.{LinkCalls, HasBegun}
use Rattle.feed_device.specs.Links.{Exchange, Exchanges}
use Rattle.feed_device.specs.declared.report.Why.{Why}
use Rattle.feed_device.specs.declared.report.Why.TheVariants.{Unknown, Refuses, Late, NoAnswer, Broke, Ended, Silent, Fault, Memory}
use Rattle.feed_hub.specs.Upstream.{asked_in_turn, counted_on, has_another, later, next_place}
use Rattle.feed_node.specs.States.{NodeState, former_token, holds_token, published_token}
use Rattle.feed_live.specs.declared.source.Reach.{Reach}
use Rattle.feed_live.specs.declared.source.Reach.TheVariants.{Away, Connects, Asks, Reads}
use Rattle.feed_live.specs.declared.source.Source.{Source}
use Rattle.feed_live.specs.declared.source.returning.Returning.{Returning}
use Rattle.feed_live.specs.declared.source.rechecking.Brought.{Brought}
use Rattle.feed_live.specs.declared.source.rechecking.Brought.TheVariants.{Nothing, Newest, Another}
use Rattle.feed_live.specs.Afresh.{is_at_shown}
use Rattle.feed_live.specs.Answering.{wants_all}
use Rattle.feed_live.specs.Leading.{is_first, is_instead, is_other_log, is_shut_out, look_time}
use Rattle.feed_live.specs.Relaying.{GoesOnTo}

-- a time that there may be is past
abbrev pub is_past : Option ℕ → ℕ → Bool
is_past None now = false
is_past (Some at) now = nat_le at now

-- no later than a time, if there is one
abbrev pub IsBy : Option ℕ → ℕ → Type 0
IsBy at due = IfSome at (λ at. due ≤ at)

-- the response ended
abbrev pub is_end : Why → Bool
is_end Ended = true
is_end Unknown = false
is_end Refuses = false
is_end Late = false
is_end NoAnswer = false
is_end Broke = false
is_end Silent = false
is_end (Fault fault) = false
is_end Memory = false

-- nothing came for twice the time after which a server sends a line feed
abbrev pub is_silence : Why → Bool
is_silence Silent = true
is_silence Unknown = false
is_silence Refuses = false
is_silence Late = false
is_silence NoAnswer = false
is_silence Broke = false
is_silence Ended = false
is_silence (Fault fault) = false
is_silence Memory = false

-- ---- a server that does not answer

-- A server was left for having nothing new. Since then nothing was published, and none was lost
-- that had answered.
abbrev pub has_left_quiet : Returning → Bool
has_left_quiet returning = nat_lt 0 returning.left_quiet

-- The first server is only looked at: another one is followed else.
abbrev pub is_look : Source → Bool
is_look source = is_some source.leading.looks_from

-- For how long a server may take no connection: two seconds if another one was left for it that did
-- not fail, or is followed else, or if it is asked again since its feed ended; else ten.
abbrev pub connect_time : Source → ℕ
connect_time source =
    if has_left_quiet source.returning || source.patience.is_again || is_look source then 2000
    else 10000

-- For how long a server may give no answer: as long as all, but not the first one that is looked
-- at, or asked again since its feed ended.
abbrev pub response_time : Source → ℕ
response_time source =
    if is_look source
    || source.patience.is_again && is_first source.leading source.upstream.place
    then look_time source.leading else source.patience.time

-- A server has answered: the head came. Of a first one that is only looked at the newest commit
-- came again, too, where that was asked for; of one that was asked for everything, a line.
abbrev pub has_answered : Source → Bool
has_answered source =
    is_some source.body_since && not (is_look source && is_some source.rechecking.again)
    && not (wants_all source && nat_eq source.settling.lines 0)

-- When an answer is late: so long after the connection was begun, until the server has answered.
abbrev pub answer_late : ℕ → ℕ → Bool → Option ℕ
answer_late opened time false = Some (later opened time)
answer_late opened time true = None

-- When a server is late that may take so long to take the connection, and so long to answer.
abbrev pub late_at : Reach → ℕ → ℕ → ℕ → Bool → Option ℕ
late_at Away connects answers opened answered = None
late_at (Connects since) connects answers opened answered = Some (later since connects)
late_at (Asks count) connects answers opened answered = answer_late opened answers answered
late_at Reads connects answers opened answered = answer_late opened answers answered

abbrev pub late_time : Source → Option ℕ
late_time source =
    late_at source.reach (connect_time source) (response_time source) source.opened
    (has_answered source)

abbrev pub why_late : Reach → Why
why_late Away = NoAnswer
why_late (Connects since) = Late
why_late (Asks count) = NoAnswer
why_late Reads = NoAnswer

-- When it is silent: nothing came for twice the time after which a server sends a line feed.
abbrev pub silent_at : Source → ℕ → ℕ
silent_at source idle = later (later source.upstream.since idle) idle

abbrev pub is_silent : Source → ℕ → ℕ → Bool
is_silent source idle now =
    is_some source.upstream.follower && nat_le (silent_at source idle) now

-- Why a server is to be left: it is silent, or late.
abbrev pub why_left : Source → ℕ → ℕ → Option Why
why_left source idle now =
    if is_silent source idle now then Some Silent
    else if is_past (late_time source) now then Some (why_late source.reach)
    else None

-- Once one was lost that had answered, what becomes of the others is news again.
abbrev pub after_loss : Option ℕ → Returning → Returning
after_loss None returning = returning
after_loss (Some head) returning = record {
  after = returning.after;
  since = returning.since;
  published = returning.published;
  left_quiet = 0;
  was_reported = false;
}

-- Something was published at a time: a server was heard, and each has its turn again.
pub record HasPublishedAt (new : Source) (now : ℕ) : Type 0 where
  pub heard : new.is_heard ≡ true
  pub published : (new.returning.published ≡ now) × (new.returning.left_quiet ≡ 0)
  pub pause : new.upstream.pause ≡ 1000
  pub counts : (new.upstream.failed ≡ 0) × (new.upstream.refused ≡ 0)
  pub trusted : new.rechecking.is_doubted ≡ false

-- ---- a server that has nothing new

-- each server was left for having nothing new in this round of them
abbrev pub were_all_left : Source → Bool
were_all_left source = nat_le (length source.places.items) source.returning.left_quiet

-- How many of so many servers were left so in this round, once one more is. Once each was, a round
-- begins only when the first one is left again.
abbrev pub left_next : ℕ → ℕ → Bool → ℕ
left_next count servers is_first =
    if nat_lt count servers then count + 1 else if is_first then 1 else count

-- For how long a server is followed that has nothing new: as long as the relay is set to. While the
-- servers are asked one after another, ten seconds, if that is less. The first one, once each was
-- asked, five times as long.
abbrev pub quiet_time : Returning → Bool → Bool → ℕ
quiet_time returning is_first all_left =
    if all_left && is_first then min (returning.after * 5) (2 ^ 64 - 1)
    else if has_left_quiet returning && not all_left then min 10000 returning.after
    else returning.after

-- A server may be left for having nothing new: there is another one, nothing that came waits, and
-- nothing is to settle. The relay is set to leave one so, and the first one's log did not just take
-- the place of ours. Nor is everything asked for each time.
abbrev pub may_be_left : Source → Bool
may_be_left source =
    is_none source.coming && nat_le 2 (length source.places.items) && not source.has_more
    && nat_eq (length source.rest.items) 0 && not (nat_eq source.returning.after 0)
    && not source.leading.is_alone && not source.settling.is_always

abbrev pub quiet_since : Source → ℕ
quiet_since source =
    later (max source.returning.since source.returning.published)
    (quiet_time source.returning (nat_eq source.upstream.place 0) (were_all_left source))

-- The first server is looked at, while another one is followed in its place: not where each
-- connection asks for everything.
abbrev pub is_looked_at : Source → Bool
is_looked_at source =
    is_instead source.leading source.upstream.place && not source.settling.is_always

-- And it wasn't late: looks are enough. One that was late has its turn in each round, too, and all
-- the time to answer then.
abbrev pub has_looks_alone : Source → Bool
has_looks_alone source = is_looked_at source && not source.leading.was_late

-- and that is the only other one: it isn't left for having nothing new
abbrev pub is_only_other : Source → Bool
is_only_other source = has_looks_alone source && nat_lt source.leading.others 2

-- When a server is left whose answer is read, and that has nothing new: so long after the head of
-- that answer came, or of the first one of those after which it was asked again, since its feed
-- ended or after a look; or after something was published, whichever was later.
abbrev pub quiet_at : Source → Reach → Option ℕ
quiet_at source Reads =
    if may_be_left source && not (is_only_other source)
    then option_map (λ since. quiet_since source) source.body_since else None
quiet_at source Away = None
quiet_at source (Connects since) = None
quiet_at source (Asks count) = None

-- Which one is asked after one that has nothing new: the next one; after the last one not the first
-- server, where that is looked at.
abbrev pub after_quiet : Source → ℕ
after_quiet source =
    if has_looks_alone source && nat_le (length source.places.items) (source.upstream.place + 1)
    then source.leading.places else min (source.upstream.place + 1) (2 ^ 64 - 1)

-- How many have refused the token once this one does, in a row: not where the first server was only
-- looked at, or has another log.
abbrev pub refused_after : Source → ℕ → ℕ
refused_after source now =
    if is_look source || is_other_log source.leading source.upstream.place now
    then source.upstream.refused
    else counted_on source.upstream.refused source.upstream.places

-- When the next one is asked once this one refuses the token: at once. If the others have yet to
-- refuse it, the next of them in its turn: the first one once a second at most.
abbrev pub asked_after_refusal : Source → ℕ → ℕ
asked_after_refusal source now =
    if is_look source || is_other_log source.leading source.upstream.place now
    || not (has_another source.upstream.refused source.upstream.places) then now
    else asked_in_turn (next_place source.upstream.place source.upstream.places)
    (later source.upstream.began 1000) now

-- ---- the first server, where another one is followed in its place

-- When it is looked at: when its time has come, and the other one was followed for two seconds.
abbrev pub look_at : Source → Reach → Option ℕ
look_at source Reads =
    if may_be_left source && is_looked_at source
    then option_map (λ since. max source.leading.look_at (later since 2000)) source.body_since
    else None
look_at source Away = None
look_at source (Connects since) = None
look_at source (Asks count) = None

-- No connection is to be begun to another server: the first one's log took the place of ours, and it
-- has not lacked for a minute.
abbrev pub is_passed_over : Source → ℕ → Bool
is_passed_over source now = is_shut_out source.leading source.upstream.place now

-- A look at it begins: it is asked at once, and the other one where that fails.
pub record LooksAtFirst (old new : Source) (now : ℕ) : Type 0 where
  pub place : new.upstream.place ≡ old.leading.next % old.upstream.places
  pub at_once : new.upstream.since ≡ now
  pub counts : (new.upstream.failed ≡ old.upstream.failed)
      × (new.upstream.refused ≡ old.upstream.refused)
  pub back : new.leading.looks_from ≡ Some old.upstream.place

-- ---- a server that sends nothing

-- A server that answers counts as heard, though it sends nothing, after a second: not one that was
-- asked for everything, or for the newest commit again, which has yet to come.
abbrev pub heard_time : Source → Option ℕ
heard_time source =
    if source.is_heard || source.is_fresh || is_some source.rechecking.again then None
    else option_map (λ since. later since 1000) source.body_since

-- When one that was asked for the newest commit again, and has not sent that, is asked with the
-- newest token: a second after the head of its answer, if none was heard.
abbrev pub newest_time : Source → Option ℕ
newest_time source =
    if source.is_heard || is_none source.rechecking.again then None
    else option_map (λ since. later since 1000) source.body_since

-- The next connection asks for the newest commit again: the relay is set to, holds the commit
-- before that, does not ask for everything, and the server does not lack the commit before.
abbrev pub is_to_recheck : Source → Bool
is_to_recheck source =
    source.rechecking.is_on && not source.rechecking.asks_newest
    && not source.settling.is_always && not (wants_all source)
    && is_some source.answers.shown.mirror.since
    && is_some (former_token source.answers.shown.mirror.node)

-- What a token is to a node, where one came: the newest that it has published; or another one, that
-- it does not hold; or nothing that tells.
abbrev brought_to : List ℕ → Option (List ℕ) → NodeState → Brought
brought_to came None node = Nothing
brought_to came (Some newest) node =
    if bytes_eq came newest then Newest else if holds_token node came then Nothing else Another

abbrev pub brought : Option (List ℕ) → NodeState → Brought
brought None node = Nothing
brought (Some came) node = brought_to came (published_token node) node

-- ---- what becomes of it

-- the server of the latest connection
abbrev pub latest_server : List Exchange → Option ℕ
latest_server [] = None
latest_server (latest ∷ before) = Some latest.server

-- no connection was begun, or one to this server
abbrev pub ConnectsTo : ℕ → Exchanges → Exchanges → Type 0
ConnectsTo server before after =
    (after ≡ before)
    ⊎ (option_map latest_server after ≡ option_map (λ exchanges. Some server) before)

-- A connection was begun, once; or memory ran out, and the next place is asked after that.
abbrev pub BeginsOne : LinkCalls → LinkCalls → Source → Source → ℕ → Type 0
BeginsOne before after old new now =
    HasBegun before after ⊎ ((after ≡ before) × GoesOnTo old new now)

-- A server is followed that is to be left: it is late or silent.
abbrev pub IsToLeave : Source → ℕ → ℕ → Type 0
IsToLeave source idle now = (source.reach ≢ Away) × (why_left source idle now ≢ None)

-- A server is followed that is to be left for another reason: the first one is to be looked at, or
-- it has nothing new for long, or is to be asked with the newest token.
abbrev pub IsToMove : Source → ℕ → ℕ → Type 0
IsToMove source idle now =
    (source.reach ≢ Away) × (why_left source idle now ≡ None)
    × ((is_past (look_at source source.reach) now ≡ true)
    ⊎ (is_past (quiet_at source source.reach) now ≡ true)
    ⊎ (is_past (newest_time source) now ≡ true))

-- nothing is to be read
abbrev pub IsAtRest : Source → Type 0
IsAtRest source = (source.has_more ≡ false) × (source.reach ≢ Reads)

-- It is neither late nor silent, nor is it to be left for a look at the first one, or for having
-- nothing new, nor to be asked with the newest token.
abbrev pub IsToStay : Source → ℕ → ℕ → Type 0
IsToStay source idle now =
    (why_left source idle now ≡ None)
    × (is_past (look_at source source.reach) now ≡ false)
    × (is_past (quiet_at source source.reach) now ≡ false)
    × (is_past (newest_time source) now ≡ false)

-- The feed of a server stood open for five seconds or more, and nothing of it is yet to settle, but
-- for one that is at what is shown.
abbrev pub stood_long : Source → ℕ → Bool
stood_long source now =
    is_past (option_map (λ since. later since 5000) source.body_since) now
    && (is_none source.coming || is_at_shown source)

-- The same place is asked again, at once; failures are counted from none, and the next pause is the
-- shortest. The round of those that are left for having nothing new goes on.
pub record AsksAgain (old new : Source) (now : ℕ) : Type 0 where
  pub round : new.returning ≡ old.returning
  pub place : (new.upstream.places ≡ old.upstream.places)
      × (new.upstream.place ≡ old.upstream.place)
  pub at_once : new.upstream.since ≡ now
  pub counts : (new.upstream.failed ≡ 0) × (new.upstream.refused ≡ old.upstream.refused)
  pub pause : new.upstream.pause ≡ 1000

-- One that is left for this is asked again at once: it is silent, but it had answered, with its
-- newest commit where that was asked for, and nothing of it is yet to settle. It may send no line
-- feeds while nothing happens.
abbrev pub is_asked_again : Source → Why → Bool
is_asked_again source why =
    is_silence why && is_some source.body_since && is_none source.rechecking.again
    && (is_none source.coming || is_at_shown source)

-- the next one is asked, or the same one again
pub record LeavesFor (why : Why) (old new : Source) (now : ℕ) : Type 0 where
  pub again : is_asked_again old why ≡ true → AsksAgain old new now
  pub next : is_asked_again old why ≡ false → GoesOnTo old new now

-- One that is late or silent is left, and the next one is asked, or the same one again.
abbrev pub LeavesLate : Source → Source → ℕ → ℕ → Type 0
LeavesLate old new idle now =
    IsToLeave old idle now → (new.reach ≡ Away) × (new.has_more ≡ false)
    × ((why : Why) → why_left old idle now ≡ Some why → LeavesFor why old new now)

-- ---- when a relay looks

-- no later than a server is silent or late, is left for a look at the first one or for having
-- nothing new, counts as heard, or is asked with the newest token
pub record LooksInTime (source : Source) (due : ℕ) : Type 0 where
  pub late : IsBy (late_time source) due
  pub first : IsBy (look_at source source.reach) due
  pub quiet : IsBy (quiet_at source source.reach) due
  pub heard : IsBy (heard_time source) due
  pub newest : IsBy (newest_time source) due
