-- What is followed in a log is an honest response, or an honest input.
use Rattle.std.proofs.Common.{◌≡◌, sym, ap, ◌∙◌, subst, ℕ, Bool, List, ◌++◌, length, append_assoc, Option}
use Rattle.feed_settings.specs.Limits.{Limits}
use Rattle.feed_note.specs.declared.line.Line.{Line}
use Rattle.feed_node.specs.declared.fault.FeedFault.{FeedFault}
use Rattle.feed_node.specs.declared.fault.FeedFault.TheVariants.{NotOpen, LongLine, Line as BadLine, StageFull, Memory}
use Rattle.feed_node.specs.Mirroring.{MirrorState, StandsAt, HasStopped, HasLost, Faulted}
use Rattle.feed_node.specs.Reading.{Reads, FaultsAt, reads, keep_latest}
use Rattle.feed_node.specs.Steps.{ReadingIsOne}
use Rattle.feed_follow.specs.Follower.{FollowsAt}
use Rattle.feed_answer.specs.Answered.{AnswerParts}
use Rattle.feed_world.specs.Log.{Log}
use Rattle.feed_world.specs.Position.{Position}
use Rattle.feed_world.specs.Reading.{opening_at}
use Rattle.feed_world.proofs.Brought.{prefix_is}
use Rattle.feed_laws.specs.Follows.{FollowsInLog}
use Rattle.feed_laws.specs.Laws.{IsInLog, ShowsState, ScreensShowStates}
use Rattle.feed_live.specs.Laws.{RelaysShowTheLog, FollowedIsHonest, InputShowsTheLog, ShownIsHonest, SentIsHonest}
use Rattle.feed_live.specs.States.{states_of}
use Rattle.feed_live.specs.Upstream.{StaysInLog}
use Rattle.feed_live.proofs.ScreenLemmas.{sockets_are_faithful}
use Rattle.feed_live.proofs.StateLemmas.{states_in_log, states_within, honest_however}

pub stays : {limits : Limits} {log : Log} {begun : MirrorState} (answer : AnswerParts) (received behind text : List ℕ) → received ++ behind ≡ text
    → FollowsInLog limits log answer begun text → StaysInLog limits log begun 0 received
stays {begun = begun} answer received behind text is follows =
    record {
      shows = λ before later standing follower mirror here long at.
          follows.shows (length before) standing follower mirror
          (subst (λ b. FollowsAt begun b standing follower mirror)
          (sym (prefix_is before (later ++ behind) text (sym (append_assoc before later behind) ∙ ap (λ r. r ++ behind) here ∙ is))) at);
      fails = λ before piece later mirror fault here long failed.
          (follows.fails before piece (later ++ behind) mirror fault (sym (append_assoc (before ++ piece) later behind) ∙ ap (λ r. r ++ behind) here ∙ is) failed).1;
    }

pub followed_is_honest : FollowedIsHonest
followed_is_honest limits log servers head contest text behind exchange followed meant is =
    λ begun request more asks is_request asked.
    let reads = meant begun request more is_request asked in
    let there = followed begun (record { minor = reads.0; since = is_request.since; may_ask = is_request.may_ask; asks = reads.1; place = asks.place; is_place = asks.is_place; asked = asks.asks }) in
    honest_however exchange.shown (stays there.0 exchange.received behind text is there.1)

pub relays_show_the_log : RelaysShowTheLog
relays_show_the_log limits log servers exchanges live sockets honest relaying =
    let here = relaying.1.1.0 honest in
    record {
      shown = here.shown_is;
      states = states_in_log limits log;
      within = states_within limits log;
      written = λ at socket is. sockets_are_faithful (states_of limits log) _ _ _ sockets at socket here.serving is;
    }

-- ---- the input

pub input_shows_the_log : InputShowsTheLog
input_shows_the_log limits log begun input live sockets honest taking =
    let here = taking.shows honest in
    record {
      shown = here.shown_is;
      states = states_in_log limits log;
      within = states_within limits log;
      written = λ at socket is. sockets_are_faithful (states_of limits log) _ _ _ sockets at socket here.serving is;
    }

module _ (one : ReadingIsOne) (limits : Limits) (log : Log) (place : Option Position) (fresh : Bool) (input : List ℕ)
    (shown : (prefix behind : List ℕ) → prefix ++ behind ≡ input → ShowsState limits log place fresh prefix) where
  reads_in_log : (prefix behind : List ℕ) (notes : List Line) (bounds : Limits) → prefix ++ behind ≡ input → bounds ≡ limits
      → Reads bounds (opening_at log place fresh) prefix notes
      → IsInLog limits log (keep_latest bounds.history (reads bounds.history (opening_at log place fresh) notes))
  reads_in_log prefix behind notes bounds whole same good =
      let s = shown prefix behind whole in
      let notes_are : s.notes ≡ notes =
      one.notes limits (opening_at log place fresh) prefix s.notes notes s.nothing_bad (subst (λ l. Reads l (opening_at log place fresh) prefix notes) same good) in (
        s.at,
        s.is_place,
        ap (λ l. keep_latest l.history (reads l.history (opening_at log place fresh) notes)) same
            ∙ ap (λ ns. keep_latest limits.history (reads limits.history (opening_at log place fresh) ns)) (sym notes_are) ∙ s.shows,
      )

  stands_so : (before behind : List ℕ) (notes : List Line) (mirror : MirrorState) → before ++ behind ≡ input → mirror.limits ≡ limits
      → StandsAt (opening_at log place fresh) before notes mirror → IsInLog limits log mirror.node
  stands_so before behind notes mirror whole bounds stands =
      subst (λ n. IsInLog limits log n) (sym (ap (λ m. m.node) stands.state)) (reads_in_log before behind notes mirror.limits whole bounds stands.nothing_bad)

  lost_so : (before piece behind : List ℕ) (old new : MirrorState) → (before ++ piece) ++ behind ≡ input → old.limits ≡ limits
      → HasLost (opening_at log place fresh) before piece old new → IsInLog limits log new.node
  lost_so before piece behind old new whole bounds lost =
      let ends : (before ++ lost.counted) ++ (lost.uncounted ++ behind) ≡ input =
      sym (append_assoc (before ++ lost.counted) lost.uncounted behind)
      ∙ ap (λ b. b ++ behind) (append_assoc before lost.counted lost.uncounted ∙ ap (λ p. before ++ p) lost.whole) ∙ whole in
      subst (λ n. IsInLog limits log n) (sym (ap (λ m. m.node) lost.state))
      (reads_in_log (before ++ lost.counted) (lost.uncounted ++ behind) lost.notes old.limits ends bounds lost.nothing_bad)

  none_stops : (bytes behind : List ℕ) (notes : List Line) (old new : MirrorState) (fault : FeedFault) → bytes ++ behind ≡ input → old.limits ≡ limits
      → HasStopped (opening_at log place fresh) bytes notes fault old new → ⊥
  none_stops bytes behind notes old new fault whole bounds stopped =
      let s = shown bytes behind whole in
      one.faultless limits (opening_at log place fresh) bytes s.notes notes fault s.nothing_bad
      (subst (λ l. FaultsAt l (opening_at log place fresh) bytes notes fault) bounds stopped.first)

  stops_so : (before piece behind : List ℕ) (old new : MirrorState) (fault : FeedFault) → (before ++ piece) ++ behind ≡ input → old.limits ≡ limits
      → Faulted (opening_at log place fresh) before piece old new fault → IsInLog limits log new.node
  stops_so before piece behind old new Memory whole bounds lost = lost_so before piece behind old new whole bounds lost
  stops_so before piece behind old new NotOpen whole bounds f = absurd (none_stops (before ++ piece) behind f.0 old new NotOpen whole bounds f.1)
  stops_so before piece behind old new LongLine whole bounds f = absurd (none_stops (before ++ piece) behind f.0 old new LongLine whole bounds f.1)
  stops_so before piece behind old new (BadLine fault) whole bounds f = absurd (none_stops (before ++ piece) behind f.0 old new (BadLine fault) whole bounds f.1)
  stops_so before piece behind old new StageFull whole bounds f = absurd (none_stops (before ++ piece) behind f.0 old new StageFull whole bounds f.1)

pub shown_is_honest : ReadingIsOne → ShownIsHonest
shown_is_honest one limits log place fresh begun input opening shown =
    record {
      stands = λ before behind notes mirror whole bounds stands.
          stands_so one limits log place fresh input shown before behind notes mirror whole bounds (subst (λ o. StandsAt o before notes mirror) opening stands);
      stops = λ before piece behind old new fault whole bounds stopped.
          stops_so one limits log place fresh input shown before piece behind old new fault whole bounds
          (subst (λ o. Faulted o before piece old new fault) opening stopped);
    }

pub sent_is_honest : ReadingIsOne → ScreensShowStates → SentIsHonest
sent_is_honest one shows limits log nodes k texts token place fresh begun input behind is_log in_log within told is_place holds opening is =
    shown_is_honest one limits log place fresh begun input opening
    (λ prefix later whole. shows limits log nodes k texts token place fresh prefix (later ++ behind) is_log in_log within told is_place holds
    (sym (append_assoc prefix later behind) ∙ ap (λ b. b ++ behind) whole ∙ is))
