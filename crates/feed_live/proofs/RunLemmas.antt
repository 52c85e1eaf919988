-- How turns make a run, and what holds at each moment of one.
use Rattle.std.proofs.Common.{◌≡◌, ◌≢◌, ◌⊎◌, inl, inr, refl, sym, ap, ◌∙◌, subst, ℕ, ◌+◌, List, [], ◌∷◌, ◌++◌, append-nil, append_assoc, length, Option, Some, None, arith}
use Rattle.std.specs.Prelude.{◌≤◌, ◌-◌, ◌^◌, ◌&&◌, suc, min, Bool, option_map, is_none, IfSome, Contains, Result, Ok, Err, OnErr, OnOk, true, false}
use Rattle.std.specs.List.{AllByRecursion}
use Rattle.slab.specs.Slab.{slab_len}
use Rattle.feed_settings.specs.Limits.{Limits}
use Rattle.feed_node.specs.Mirroring.{MirrorState, new_mirror}
use Rattle.feed_node.specs.States.{NodeState}
use Rattle.feed_world.specs.Log.{Log, numbered}
use Rattle.feed_device.specs.Files.{StateFiles}
use Rattle.feed_device.specs.Links.{Exchanges}
use Rattle.feed_device.specs.Sockets.{AllSockets}
use Rattle.feed_live.specs.declared.options.Setup.{Setup}
use Rattle.feed_live.specs.declared.turn.Input.{Input}
use Rattle.feed_live.specs.declared.turn.Input.TheVariants.{Nothing, Bytes, End}
use Rattle.feed_live.specs.declared.turn.Live.{Live}
use Rattle.feed_live.specs.declared.turn.Turn.{Turn}
use Rattle.feed_live.specs.Due.{IsDueInTime}
use Rattle.feed_live.specs.Leaving.{LooksInTime, silent_at}
use Rattle.feed_live.specs.Relaying.{IsRelaying, RestsAway, StillRelaying, SameWaiting}
use Rattle.feed_live.specs.Running.{InputSoFar, nothing_came, has_ended_by, came_on, came_more, HostCalls, waited_for, reported_once, Surroundings, surroundings, Moment, moment_of, node_at_moment, KeepsFilesAt, at_once, RunsFrom, IsRelayOver, IsTurn, IsSameRelay, IsRun, waited_at, calls_in, HasRun, servers_of_setup, AreUnused, AreAllFilesOfLog, BeginsAsSetUp, ShowsTheLogAt, ShowsIfHonestAt, FollowsInOrderAt, IsKnownHonestInput, ShowsIfInputIsHonestAt, EndsWithItsInput, TakesAllAt, EndsOrStops, TakesItsInput, KeepsPartsWhileShown, KeepsToTheLog}
use Rattle.feed_files.specs.Saved.{ArePartsOfRecords, KeepsFiles}
use Rattle.feed_live.specs.Times.{HeedsTime, KeepsTimes}
use Rattle.feed_live.specs.Taking.{IsTakingInput, StillTaking, bytes_in}
use Rattle.feed_files.specs.Input.{StopsInput}
use Rattle.feed_live.specs.Upstream.{Servers, AreKnownHonest}
use Rattle.feed_live.proofs.HonestLemmas.{relays_show_the_log, input_shows_the_log}
use Rattle.feed_live.proofs.StateLemmas.{among_states, among_first, among_rest}

pub at_err : {A E : Type 0} (P : Type 0) (r : Result A E) → P → OnErr r P
at_err P (Ok x) p = tt
at_err P (Err e) p = p

-- ---- one turn

-- it is over, too, where nothing but what is told of it has changed
still_over : {live after : Live} {now : ℕ} → IsSameRelay live after → IsRelayOver live now → IsRelayOver after now
still_over {live} {after} {now} same over =
    record {
      at = over.at;
      ends = same.ends_at ∙ over.ends;
      over = subst (λ screens. (over.at ≤ now) ⊎ ((slab_len screens.conns ≡ 0) × IfSome after.saved (λ saved. saved.has_more ≡ false))) (sym same.screens)
          (subst (λ files. (over.at ≤ now) ⊎ ((slab_len live.screens.conns ≡ 0) × IfSome files (λ saved. saved.has_more ≡ false))) (sym same.saved) over.over);
    }

same_back : {live after : Live} → IsSameRelay live after → IsSameRelay after live
same_back same =
    record {
      source = sym same.source;
      screens = sym same.screens;
      saved = sym same.saved;
      epoch = sym same.epoch;
      feeds = sym same.feeds;
      limits = sym same.limits;
      ends_at = sym same.ends_at;
      reported = sym same.reported;
    }

-- it is due in time, too
still_due : {live after : Live} {now due : ℕ} → IsSameRelay live after → IsDueInTime live now due → IsDueInTime after now due
still_due {live} {after} {now} {due} same is =
    record {
      saves = subst (λ files. IfSome files (λ saved. saved.has_more ≡ true → due ≤ now)) (sym same.saved) is.saves;
      again = subst (λ files. IfSome files (λ saved. saved.has_more ≡ false → saved.is_failing ≡ true → due ≤ saved.retry_at)) (sym same.saved) is.again;
      ends = subst (λ ends_at. IfSome ends_at (λ at. due ≤ at)) (sym same.ends_at) is.ends;
      connects = λ goes_on none some.
          subst (λ s. due ≤ s.upstream.since) (sym same.source)
          (is.connects (sym same.ends_at ∙ goes_on) (subst (λ s. s.upstream.follower ≡ None) same.source none) (subst (λ s. s.places.items ≢ []) same.source some));
      silent = λ goes_on follows some.
          subst (λ limits. due ≤ silent_at after.source limits.screens.idle) (sym same.limits)
          (subst (λ s. due ≤ silent_at s live.limits.screens.idle) (sym same.source)
          (is.silent (sym same.ends_at ∙ goes_on) (subst (λ s. s.upstream.follower ≢ None) same.source follows) (subst (λ s. s.places.items ≢ []) same.source some)));
      more = λ goes_on some more none.
          is.more (sym same.ends_at ∙ goes_on) (subst (λ s. s.places.items ≢ []) same.source some) (subst (λ s. s.has_more ≡ true) same.source more)
          (subst (λ screens. screens.saying.waits ≡ None) same.screens none);
      looks = λ goes_on some.
          subst (λ s. LooksInTime s due) (sym same.source) (is.looks (sym same.ends_at ∙ goes_on) (subst (λ s. s.places.items ≢ []) same.source some));
    }

-- what was reported is forgotten behind a turn
pub cleared : {old : Moment} {live after : Live} {next : Turn} {time : Option ℕ} {around : Surroundings} → IsTurn old (moment_of live next time around)
    → ((e : Exchanges) (s : AllSockets) → StillRelaying live after e e s s) → ((s : AllSockets) → StillTaking live after [] s s)
    → IsSameRelay live after → IsTurn old (moment_of after next time around)
cleared {old} {live} {after} {next} {time} {around} turn relaying taking same =
    record {
      given = turn.given;
      now = turn.now;
      came = turn.came;
      time = turn.time;
      relaying = λ limits log servers is. relaying around.exchanges around.sockets limits log servers (turn.relaying limits log servers is);
      taking = λ limits log begun came is.
          subst (λ all. IsTakingInput limits log begun all after around.sockets) (append-nil (came ++ bytes_in turn.given))
          (taking around.sockets limits log begun (came ++ bytes_in turn.given) (turn.taking limits log begun came is));
      stops = λ goes_on limits log begun input is feeds ends.
          let stopped = turn.stops goes_on limits log begun input is feeds (sym same.feeds ∙ ends) in (
            stopped.0,
            subst (λ s. StopsInput begun (input ++ bytes_in turn.given) stopped.0 s.answers.shown.mirror) (sym same.source) stopped.1,
          );
      kept = λ nodes has files.
          subst (KeepsFiles nodes around.files) (sym same.saved) (turn.kept nodes (subst (λ s. Contains nodes s.answers.shown.mirror.node) same.source has) files);
      parts = λ nodes has files parts. turn.parts nodes (subst (λ s. Contains nodes s.answers.shown.mirror.node) same.source has) files parts;
      anew = λ newer nodes has known.
          subst (KeepsFiles nodes around.files) (sym same.saved)
          (turn.anew (λ is. newer (ap (λ s. s.epoch) same.source ∙ is)) nodes (subst (λ s. Contains nodes s.answers.shown.mirror.node) same.source has) known);
      wakes = λ more. turn.wakes (subst (λ s. s.has_more ≡ true) same.screens more);
      says = subst (λ screens. IfSome screens.saying.waits (λ at. turn.now ≤ at → next.due ≤ at)) (sym same.screens) turn.says;
      due = still_due same turn.due;
      pauses = λ no_feed away more before. subst (λ s. SameWaiting old.live.source s) (sym same.source) (turn.pauses no_feed away more before);
      rests = λ no_feed rest. subst RestsAway (sym same.source) (turn.rests no_feed rest);
      holds = λ no_feed goes_on some reach stay.
          subst (λ s. HeedsTime old.live.source s turn.now turn.now) (sym same.source) (turn.holds no_feed (sym same.ends_at ∙ goes_on) some reach stay);
      keeps = λ no_feed. subst (λ s. KeepsTimes old.live.source s turn.now turn.now) (sym same.source) (turn.keeps no_feed);
      ends = record {
        limits = same.limits ∙ turn.ends.limits;
        sets = λ is some none. turn.ends.sets is some (sym same.ends_at ∙ none);
        stays = λ goes_on. same.ends_at ∙ turn.ends.stays goes_on;
      };
      awake = subst (λ reported. next.due ≤ min (reported + 60000) (2 ^ 64 - 1)) (sym same.reported) turn.awake;
      takes =
          subst (λ ends_at. next.takes_input ≡ (is_none ends_at && is_none after.screens.saying.waits)) (sym same.ends_at)
          (subst (λ screens. next.takes_input ≡ (is_none live.ends_at && is_none screens.saying.waits)) (sym same.screens) turn.takes);
      over = (λ is. still_over same (turn.over.0 is), λ is. turn.over.1 (still_over (same_back same) is));
    }

-- what the input gave before is what it had given then, and the time stays while a turn is told
pub given_so : {live after : Live} {waits next : Turn} {earlier_time time time_now : Option ℕ} {exchanges exchanges_then : Exchanges} {sockets sockets_then : AllSockets} {files files_then : StateFiles}
    {input before came now : Option InputSoFar} → before ≡ input → now ≡ came → time_now ≡ time
    → IsTurn (moment_of live waits earlier_time (surroundings exchanges sockets files before)) (moment_of after next time (surroundings exchanges_then sockets_then files_then came))
    → IsTurn (moment_of live waits earlier_time (surroundings exchanges sockets files input)) (moment_of after next time_now (surroundings exchanges_then sockets_then files_then now))
given_so {live} {after} {waits} {next} {earlier_time} {time} {time_now} {exchanges} {exchanges_then} {sockets} {sockets_then} {files} {files_then} {input} {before} {came} {now} was is stays turn =
    subst (λ t. IsTurn (moment_of live waits earlier_time (surroundings exchanges sockets files input)) (moment_of after next t (surroundings exchanges_then sockets_then files_then now))) (sym stays)
    (subst (λ i. IsTurn (moment_of live waits earlier_time (surroundings exchanges sockets files i)) (moment_of after next time (surroundings exchanges_then sockets_then files_then now))) was
    (subst (λ i. IsTurn (moment_of live waits earlier_time (surroundings exchanges sockets files before)) (moment_of after next time (surroundings exchanges_then sockets_then files_then i))) (sym is) turn))

-- ---- turn after turn

tells_more : (n m k : ℕ) (reports : Option ℕ) → k ≡ m + n → option_map (λ t. m + t) (option_map (λ t. n + t) reports) ≡ option_map (λ t. k + t) reports
tells_more n m k None is = refl
tells_more n m k (Some reports) is = ap (λ (t : ℕ). Some t) (omega (arith, is))

waited_both : (later earlier : List Moment) → waited_at (later ++ earlier) ≡ waited_at later ++ waited_at earlier
waited_both [] earlier = refl
waited_both (moment ∷ later) earlier = ap (λ (turns : List Turn). moment.next ∷ turns) (waited_both later earlier)

waits_more : (later earlier : List Moment) (waits : Option (List Turn))
    → option_map (λ turns. waited_at later ++ turns) (option_map (λ turns. waited_at earlier ++ turns) waits) ≡ option_map (λ turns. waited_at (later ++ earlier) ++ turns) waits
waits_more later earlier None = refl
waits_more later earlier (Some waits) =
    ap (λ (turns : List Turn). Some turns) (sym (ap (λ (turns : List Turn). turns ++ waits) (waited_both later earlier) ∙ append_assoc (waited_at later) (waited_at earlier) waits))

lengths : {A : Type 0} (xs ys : List A) → length (xs ++ ys) ≡ length xs + length ys
lengths [] ys = omega arith
lengths (x ∷ xs) ys = omega (arith, lengths xs ys)

both_turns : (n m : ℕ) (later earlier : List Moment) → length later ≡ m → length earlier ≡ n → length (later ++ earlier) ≡ n + m
both_turns n m later earlier two one = lengths later earlier ∙ omega (arith, two, one)

abbrev calls_of : Option (List Turn) → Option ℕ → HostCalls
calls_of waits reports = record { waits = waits; reports = reports }

both_same : (waits waits_now : Option (List Turn)) (reports tells_now : Option ℕ) → waits ≡ waits_now → reports ≡ tells_now → calls_of waits reports ≡ calls_of waits_now tells_now
both_same waits waits_now reports tells_now one two = ap (λ (w : Option (List Turn)). calls_of w reports) one ∙ ap (λ (t : Option ℕ). calls_of waits_now t) two

calls_then : (later earlier : List Moment) (calls : HostCalls) → calls_in later (calls_in earlier calls) ≡ calls_in (later ++ earlier) calls
calls_then later earlier calls =
    both_same _ _ _ _ (waits_more later earlier calls.waits) (tells_more (length earlier) (length later) (length (later ++ earlier)) calls.reports (lengths later earlier))

none_told : (reports : Option ℕ) → reports ≡ option_map (λ t. 0 + t) reports
none_told None = refl
none_told (Some reports) = ap (λ (t : ℕ). Some t) (omega arith)

none_waited : (waits : Option (List Turn)) → waits ≡ option_map (λ turns. [] ++ turns) waits
none_waited None = refl
none_waited (Some waits) = refl

no_calls : (calls : HostCalls) → calls ≡ calls_in [] calls
no_calls calls = both_same _ _ _ _ (none_waited calls.waits) (none_told calls.reports)

one_told : (reports : Option ℕ) → option_map (λ t. suc t) reports ≡ option_map (λ t. 1 + t) reports
one_told None = refl
one_told (Some reports) = ap (λ (t : ℕ). Some t) (omega arith)

once : (moment : Moment) (calls : HostCalls) → reported_once (waited_for moment.next calls) ≡ calls_in (moment ∷ []) calls
once moment calls = both_same _ _ _ _ refl (one_told calls.reports)

joined : (first between last : Moment) (earlier later : List Moment) → IsRun first earlier between → IsRun between later last → IsRun first (later ++ earlier) last
joined first between last earlier [] one two = subst (IsRun first earlier) (sym two) one
joined first between last earlier (before ∷ later) one two = (two.0, joined first between before earlier later one two.1)

pub no_turn : {before after : Moment} {calls calls_now : HostCalls} → after ≡ before → calls_now ≡ calls → HasRun before after calls calls_now 0
no_turn {calls = calls} same none = record { earlier = []; run = same; turns = refl; calls = none ∙ no_calls calls }

pub one_turn : {before after : Moment} {calls calls_then calls_now : HostCalls} → IsTurn before after → calls_then ≡ waited_for before.next calls → calls_now ≡ reported_once calls_then
    → HasRun before after calls calls_now 1
one_turn {before} {calls = calls} turn waits reports =
    record { earlier = before ∷ []; run = (turn, refl); turns = refl; calls = reports ∙ ap reported_once waits ∙ once before calls }

-- such a run, where the host failed before the turn or behind it
pub failed_run : {first : Moment} {live : Live} {next : Turn} {time : Option ℕ} {around : Surroundings} {calls calls_now : HostCalls} {n : ℕ}
    → HasRun first (moment_of live next time around) calls calls_now n → n ≤ 1
    → (count : ℕ) × (count ≤ 1) × (next : Turn) × (time : Option ℕ) × HasRun first (moment_of live next time around) calls calls_now count
failed_run {next = next} {time = time} {n = n} run few = (n, few, next, time, run)

-- nothing was touched
pub untouched : (exchanges : Exchanges) (sockets : AllSockets) {files files_now : StateFiles} {input input_now : Option InputSoFar}
    → files_now ≡ files → input_now ≡ input → surroundings exchanges sockets files_now input_now ≡ surroundings exchanges sockets files input
untouched exchanges sockets {files} {files_now} {input} {input_now} one two =
    ap (λ (f : StateFiles). surroundings exchanges sockets f input_now) one ∙ ap (λ (i : Option InputSoFar). surroundings exchanges sockets files i) two

-- one run behind another
pub then_on : {first between last : Moment} {calls calls_between calls_now : HostCalls} {n m : ℕ} → HasRun between last calls_between calls_now m → HasRun first between calls calls_between n
    → HasRun first last calls calls_now (n + m)
then_on {first} {between} {last} {calls} {calls_between} {calls_now} {n} {m} two one =
    record {
      earlier = two.earlier ++ one.earlier;
      run = joined first between last one.earlier two.earlier one.run two.run;
      turns = both_turns n m two.earlier one.earlier two.turns one.turns;
      calls = two.calls ∙ ap (calls_in two.earlier) one.calls ∙ calls_then two.earlier one.earlier calls;
    }

-- ---- what holds at each moment

module _ (limits : Limits) (log : Log) where
  abbrev ShowsAt : Moment → Type 0
  ShowsAt = ShowsTheLogAt limits log

  -- what the files have at the last moment
  files_to : (nodes : List NodeState) (files : StateFiles) → AreAllFilesOfLog limits log nodes files → (first last : Moment) (earlier : List Moment) → IsRun first earlier last
      → AllByRecursion ShowsAt (last ∷ earlier) → KeepsFilesAt nodes first → ArePartsOfRecords nodes first.around.files.had → KeepsFilesAt nodes last × ArePartsOfRecords nodes last.around.files.had
  files_to nodes files of first last [] run shows keeps parts =
      (subst (KeepsFilesAt nodes) (sym run) keeps, subst (λ m. ArePartsOfRecords nodes m.around.files.had) (sym run) parts)
  files_to nodes files of first last (before ∷ earlier) run shows keeps parts =
      let kept = files_to nodes files of first before earlier run.1 shows.1 keeps parts in
      let has = of.may_show (node_at_moment last) (among_states limits log (node_at_moment last) shows.0.shown) in
      (run.0.kept nodes has kept.0, run.0.parts nodes has kept.0 kept.1)

  -- and at each, as long as the log is shown
  each_file : (nodes : List NodeState) (files : StateFiles) → AreAllFilesOfLog limits log nodes files → (first last : Moment) (earlier : List Moment) → IsRun first earlier last
      → KeepsFilesAt nodes first → ArePartsOfRecords nodes first.around.files.had → KeepsPartsWhileShown limits log nodes (last ∷ earlier)
  each_file nodes files of first last [] run keeps parts = (λ shows. (files_to nodes files of first last [] run shows keeps parts).1, tt)
  each_file nodes files of first last (before ∷ earlier) run keeps parts =
      (λ shows. (files_to nodes files of first last (before ∷ earlier) run shows keeps parts).1, each_file nodes files of first before earlier run.1 keeps parts)

  -- a relay that follows servers
  module _ (servers : Servers) (first : Moment) (relaying : IsRelaying limits log servers first.around.exchanges first.live first.around.sockets) where
    relaying_to : (last : Moment) (earlier : List Moment) → IsRun first earlier last → IsRelaying limits log servers last.around.exchanges last.live last.around.sockets
    relaying_to last [] run = subst (λ m. IsRelaying limits log servers m.around.exchanges m.live m.around.sockets) (sym run) relaying
    relaying_to last (before ∷ earlier) run = run.0.relaying limits log servers (relaying_to before earlier run.1)

    shows_to : (last : Moment) (earlier : List Moment) → IsRun first earlier last → AreKnownHonest limits log servers last.around.exchanges → ShowsAt last
    shows_to last earlier run honest = relays_show_the_log limits log servers last.around.exchanges last.live last.around.sockets honest (relaying_to last earlier run)

    each_shows : (last : Moment) (earlier : List Moment) → IsRun first earlier last → AllByRecursion (ShowsIfHonestAt limits log servers) (last ∷ earlier)
    each_shows last [] run = (shows_to last [] run, tt)
    each_shows last (before ∷ earlier) run = (shows_to last (before ∷ earlier) run, each_shows before earlier run.1)

    each_follows : (last : Moment) (earlier : List Moment) → IsRun first earlier last → AllByRecursion (FollowsInOrderAt limits log servers) (last ∷ earlier)
    each_follows last [] run = ((relaying_to last [] run).1.1.1, tt)
    each_follows last (before ∷ earlier) run = ((relaying_to last (before ∷ earlier) run).1.1.1, each_follows before earlier run.1)

  -- a relay whose feed is its input
  module _ (begun : MirrorState) (first : Moment) (none_came : first.around.input ≡ Some nothing_came) (taking : IsTakingInput limits log begun [] first.live first.around.sockets) where
    -- what came so far
    abbrev TakesTo : Moment → Type 0
    TakesTo moment = (came : InputSoFar) × (moment.around.input ≡ Some came) × IsTakingInput limits log begun came.bytes moment.live moment.around.sockets

    taking_to : (last : Moment) (earlier : List Moment) → IsRun first earlier last → TakesTo last
    taking_to last [] run = subst TakesTo (sym run) (nothing_came, none_came, taking)
    taking_to last (before ∷ earlier) run =
        let so_far = taking_to before earlier run.1 in
        (came_on run.0.given so_far.0, run.0.came ∙ ap (came_more run.0.given) so_far.1, run.0.taking limits log begun so_far.0.bytes so_far.2)

    takes_so_far : (last : Moment) → TakesTo last → IsKnownHonestInput limits log begun last.around.input → ShowsAt last
    takes_so_far last takes honest =
        input_shows_the_log limits log begun takes.0.bytes last.live last.around.sockets (subst (IsKnownHonestInput limits log begun) takes.1 honest) takes.2

    each_takes : (last : Moment) (earlier : List Moment) → IsRun first earlier last → AllByRecursion (ShowsIfInputIsHonestAt limits log begun) (last ∷ earlier)
    each_takes last [] run = (takes_so_far last (taking_to last [] run), tt)
    each_takes last (before ∷ earlier) run = (takes_so_far last (taking_to last (before ∷ earlier) run), each_takes before earlier run.1)

    -- what a turn does with its input, where all was taken before it
    takes_on : (before last : Moment) (earlier : List Moment) → IsTurn before last → TakesTo before → before.live.feeds ≡ true → (feeds : Bool) → last.live.feeds ≡ feeds
        → TakesAllAt begun last ⊎ EndsOrStops begun (last ∷ before ∷ earlier)
    takes_on before last earlier turn takes was true is =
        inl (record {
          came = came_on turn.given takes.0;
          known = turn.came ∙ ap (came_more turn.given) takes.1;
          feeds = is;
          takes = (turn.taking limits log begun takes.0.bytes takes.2).takes is;
        })
    takes_on before last earlier turn takes was false is = ends turn.given refl
      where
        known : last.around.input ≡ Some (came_on turn.given takes.0)
        known = turn.came ∙ ap (came_more turn.given) takes.1

        stops : turn.given ≢ End → TakesAllAt begun last ⊎ EndsOrStops begun (last ∷ before ∷ earlier)
        stops goes_on =
            let stopped = turn.stops goes_on limits log begun takes.0.bytes takes.2 was is in
            inr (last, among_first last (before ∷ earlier), inr (record { came = came_on turn.given takes.0; known = known; fault = stopped.0; stops = stopped.1 }))

        ends : (what : Input) → turn.given ≡ what → TakesAllAt begun last ⊎ EndsOrStops begun (last ∷ before ∷ earlier)
        ends Nothing nothing = stops (λ end. let no : Nothing ≡ End = sym nothing ∙ end in cc)
        ends (Bytes piece) bytes = stops (λ end. let no : Bytes piece ≡ End = sym bytes ∙ end in cc)
        ends End end =
            inr (last, among_first last (before ∷ earlier), inl (record { came = came_on turn.given takes.0; known = known; ended = ap (λ (g : Input). has_ended_by g takes.0.has_ended) end }))

    takes_next : (before last : Moment) (earlier : List Moment) → IsTurn before last → TakesTo before → TakesAllAt begun before ⊎ EndsOrStops begun (before ∷ earlier)
        → TakesAllAt begun last ⊎ EndsOrStops begun (last ∷ before ∷ earlier)
    takes_next before last earlier turn takes (inl all) = takes_on before last earlier turn takes all.feeds last.live.feeds refl
    takes_next before last earlier turn takes (inr over) = inr (over.0, among_rest last (before ∷ earlier) over.0 over.1, over.2)

    takes_input : first.live.feeds ≡ true → (last : Moment) (earlier : List Moment) → IsRun first earlier last → TakesItsInput begun (last ∷ earlier)
    takes_input feeds last [] run =
        (inl (subst (TakesAllAt begun) (sym run) (record { came = nothing_came; known = none_came; feeds = feeds; takes = taking.takes feeds })), tt)
    takes_input feeds last (before ∷ earlier) run =
        let so_far = takes_input feeds before earlier run.1 in
        (takes_next before last earlier run.0 (taking_to before earlier run.1) so_far.0, so_far)

-- ---- its end

ended_now : (came : Option InputSoFar) → IfSome (came_more End came) (λ c. c.has_ended ≡ true)
ended_now None = tt
ended_now (Some came) = refl

ended_yet : (given : Input) (came : Option InputSoFar) → IfSome came (λ c. c.has_ended ≡ true) → IfSome (came_more given came) (λ c. c.has_ended ≡ true)
ended_yet given None ended = tt
ended_yet Nothing (Some came) ended = ended
ended_yet (Bytes piece) (Some came) ended = ended
ended_yet End (Some came) ended = refl

abbrev HasEnd : Setup → Moment → Type 0
HasEnd setup moment = (setup.limits.ends_with_input ≡ true) × IfSome moment.around.input (λ came. came.has_ended ≡ true)

-- a turn that sets no end
ends_yet : (setup : Setup) (before last : Moment) (turn : IsTurn before last) → EndsWithItsInput setup before
    → (turn.given ≢ End) ⊎ (before.live.limits.ends_with_input ≡ false) → last.live.ends_at ≢ None → HasEnd setup last
ends_yet setup before last turn was goes_on some =
    let had = was.ends (λ none. some (turn.ends.stays goes_on ∙ none)) in
    (had.0, subst (λ i. IfSome i (λ c. c.has_ended ≡ true)) (sym turn.came) (ended_yet turn.given before.around.input had.1))

ends_on : (setup : Setup) (before last : Moment) → IsTurn before last → EndsWithItsInput setup before → EndsWithItsInput setup last
ends_on setup before last turn was =
    record { limits = turn.ends.limits ∙ was.limits; ends = λ some. by turn.given refl before.live.limits.ends_with_input refl some }
  where
    by : (what : Input) → turn.given ≡ what → (with_input : Bool) → before.live.limits.ends_with_input ≡ with_input → last.live.ends_at ≢ None → HasEnd setup last
    by Nothing is with_input ends some = ends_yet setup before last turn was (inl (λ end. let no : Nothing ≡ End = sym is ∙ end in cc)) some
    by (Bytes piece) is with_input ends some = ends_yet setup before last turn was (inl (λ end. let no : Bytes piece ≡ End = sym is ∙ end in cc)) some
    by End is false ends some = ends_yet setup before last turn was (inr ends) some
    by End is true ends some = (
      ap (λ l. l.ends_with_input) (sym was.limits) ∙ ends,
      subst (λ i. IfSome i (λ c. c.has_ended ≡ true)) (sym (turn.came ∙ ap (λ (g : Input). came_more g before.around.input) is)) (ended_now before.around.input),
    )

ends_at_first : (setup : Setup) (first : Moment) → first.live.limits ≡ setup.limits → first.live.ends_at ≡ None → EndsWithItsInput setup first
ends_at_first setup first limits none = record { limits = limits; ends = λ some. absurd (some none) }

all_end : (setup : Setup) (first : Moment) → EndsWithItsInput setup first → (last : Moment) (earlier : List Moment) → IsRun first earlier last
    → AllByRecursion (EndsWithItsInput setup) (last ∷ earlier)
all_end setup first begins last [] run = (subst (EndsWithItsInput setup) (sym run) begins, tt)
all_end setup first begins last (before ∷ earlier) run =
    let so_far = all_end setup first begins before earlier run.1 in
    (ends_on setup before last run.0 so_far.0, so_far)

-- a run from such a start keeps to the log
pub keeps_to_the_log : (setup : Setup) (found : Surroundings) (first last : Moment) (earlier : List Moment) → BeginsAsSetUp setup found.files first.around.files first.live
    → first.around.sockets ≡ found.sockets → first.around.input ≡ found.input → IsRun first earlier last → KeepsToTheLog setup found (last ∷ earlier)
keeps_to_the_log setup found first last earlier begins sockets input run =
    record {
      servers = λ log some of_log unused.
          each_shows setup.kept log (servers_of_setup setup) first
          (begins.relaying log first.around.exchanges first.around.sockets some of_log (subst AreUnused (sym sockets) unused)) last earlier run;
      followed = λ log some of_log unused.
          each_follows setup.kept log (servers_of_setup setup) first
          (begins.relaying log first.around.exchanges first.around.sockets some of_log (subst AreUnused (sym sockets) unused)) last earlier run;
      input = λ log none unused came.
          each_takes setup.kept log (new_mirror setup.kept) first (input ∙ came)
          (begins.taking log first.around.sockets none (subst AreUnused (sym sockets) unused)) last earlier run;
      taken = λ none unused came.
          takes_input setup.kept (numbered []) (new_mirror setup.kept) first (input ∙ came)
          (begins.taking (numbered []) first.around.sockets none (subst AreUnused (sym sockets) unused)) (begins.feeds none) last earlier run;
      files = λ log nodes of.
          each_file setup.kept log nodes found.files of first last earlier run (begins.kept log nodes of)
          (subst (ArePartsOfRecords nodes) (sym begins.had) of.of_log.parts);
      ends = all_end setup first (ends_at_first setup first begins.limits begins.goes_on) last earlier run;
    }

-- so it is with turns that led from there to the end, whatever they came to
pub runs_from : {A E : Type 0} (setup : Setup) (found : Surroundings) (first last : Moment) {calls calls_begun calls_now : HostCalls} {count : ℕ} (result : Result A E)
    → BeginsAsSetUp setup found.files first.around.files first.live → first.next ≡ at_once → first.around.exchanges ≡ found.exchanges → first.around.sockets ≡ found.sockets → first.around.input ≡ found.input → calls_begun ≡ calls
    → HasRun first last calls_begun calls_now count → OnOk result ((last.next.is_over ≡ true) ⊎ (count ≡ 2 ^ 64 - 1)) → RunsFrom setup found last.around calls calls_now result
runs_from setup found first last {count = count} result begins at_first exchanges sockets input same run ends =
    record {
      first = first;
      contest = begins.contest;
      begins = begins;
      exchanges = exchanges;
      sockets = sockets;
      input = input;
      first_is = at_first;
      last = last;
      last_is = refl;
      ran = record {
        count = count;
        run = record { earlier = run.earlier; run = run.run; turns = run.turns; calls = run.calls ∙ ap (calls_in run.earlier) same };
        ends = ends;
      };
      keeps = keeps_to_the_log setup found first last run.earlier begins sockets input run.run;
    }
