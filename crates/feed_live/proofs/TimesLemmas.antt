-- How the times that a relay keeps of its server stay.
use Rattle.std.proofs.Common.{◌≡◌, ◌⊎◌, inl, inr, refl, sym, ap, ◌∙◌, subst, ℕ, ◌+◌, ◌≤◌, arith, List, drop, Option, Some, None}
use Rattle.std.specs.Prelude.{Bool, true, false, ◌&&◌, ◌||◌, not, option_map, if◌then◌else◌, is_none, nat_le, nat_lt, nat_eq, length, max}
use Rattle.feed_device.specs.Calls.{LinkCalls}
use Rattle.feed_hub.specs.Upstream.{later, has_another, asked_next}
use Rattle.feed_live.specs.declared.source.Source.{Source}
use Rattle.feed_live.specs.declared.source.returning.Returning.{Returning}
use Rattle.feed_settings.specs.declared.place.Place.{Place}
use Rattle.feed_live.specs.declared.source.Reach.{Reach}
use Rattle.feed_live.specs.declared.source.Reach.TheVariants.{Away, Connects, Asks, Reads}
use Rattle.feed_live.specs.Calling.{HeedsLink}
use Rattle.feed_live.specs.Leaving.{is_past, is_looked_at, is_only_other, look_at, quiet_at, quiet_since, quiet_time, may_be_left, why_left, newest_time, IsToMove, IsToStay}
use Rattle.feed_live.specs.Leading.{is_instead}
use Rattle.feed_live.specs.declared.source.leading.Leading.{Leading}
use Rattle.feed_live.specs.Relaying.{SameSource, SameWaiting, RestsAway, settings_of}
use Rattle.feed_live.specs.Times.{AreBy, times_of, KeepsTimes, HeadStays, HeedsTime, SameTimes}
use Rattle.feed_live.proofs.TurnLemmas.{why_same}

pub keeps_none : (source : Source) (now : ℕ) → KeepsTimes source source now now
keeps_none source now = record { set = refl; times = λ latest before by. by; clock = refl }

pub keeps_then : {a b c : Source} {now mid after : ℕ} → KeepsTimes b c mid after → KeepsTimes a b now mid → KeepsTimes a c now after
keeps_then two one =
    record {
      set = two.set ∙ one.set;
      times = λ latest before by. two.times latest (subst (λ t. t ≤ latest) (sym one.clock) before) (one.times latest before by);
      clock = two.clock ∙ one.clock;
    }

head_then : (a b c : Option ℕ) {now mid : ℕ} → mid ≡ now → HeadStays b c mid → HeadStays a b now → HeadStays a c now
head_then a b c clock (inl two) (inl one) = inl (two ∙ one)
head_then a b c clock (inl two) (inr (none, one)) = inr (none, two ∙ one)
head_then a b c clock (inr (none, two)) (inl one) = inr (sym one ∙ none, two ∙ ap (λ t. Some t) clock)
head_then a b c clock (inr (none, two)) (inr (before, one)) = let wrong = sym one ∙ none in absurd (cc)

pub heeds_then : {a b c : Source} {now mid after : ℕ} → HeedsTime b c mid after → HeedsTime a b now mid → HeedsTime a c now after
heeds_then {a} {b} {c} two one =
    record {
      keeps = keeps_then two.keeps one.keeps;
      away = λ away. two.away (one.away away);
      connects = λ since at. one.connects since (two.connects since at);
      opened = two.opened ∙ one.opened;
      head = λ stays. head_then a.body_since b.body_since c.body_since one.keeps.clock (two.head stays) (one.head (λ away. stays (two.away away)));
      rests = λ rest. two.rests (one.rests rest);
    }

-- the clock stands until later, too
pub heeds_until : {a b : Source} {now mid after : ℕ} → after ≡ mid → HeedsTime a b now mid → HeedsTime a b now after
heeds_until same heeds =
    record {
      keeps = record { set = heeds.keeps.set; times = heeds.keeps.times; clock = same ∙ heeds.keeps.clock };
      away = heeds.away;
      connects = heeds.connects;
      opened = heeds.opened;
      head = heeds.head;
      rests = heeds.rests;
    }

pub keeps_same : {a b : Source} (now : ℕ) → SameTimes a b → KeepsTimes a b now now
keeps_same now same = record { set = same.set; times = λ latest before by. subst (AreBy latest) (sym same.times) by; clock = refl }

pub heeds_same : {a b : Source} (now : ℕ) → SameTimes a b → HeedsTime a b now now
heeds_same now same =
    record {
      keeps = keeps_same now same;
      away = λ away. ap (λ t. t.reach) same.times ∙ away;
      connects = λ since at. sym (ap (λ t. t.reach) same.times) ∙ at;
      opened = ap (λ t. t.opened) same.times;
      head = λ stays. inl (ap (λ t. t.head) same.times);
      rests = same.rests;
    }

pub heeds_none : (source : Source) (now : ℕ) → HeedsTime source source now now
heeds_none source now = heeds_same now (record { set = refl; times = refl; rests = λ rest. rest })

-- The next one is asked half a minute later at most.
pub asked_by : (place earliest count places now pause latest : ℕ) → now ≤ latest → earliest ≤ latest + 1000 → pause ≤ 30000 → asked_next place earliest count places now pause ≤ latest + 30000
asked_by place earliest count places now pause latest by early short = cases (has_another count places) (nat_eq place 0)
  where
    cases : (more first : Bool) → (if more then (if first then max now earliest else now) else later now pause) ≤ latest + 30000
    cases true true = omega (arith, by, early)
    cases true false = omega (arith, by)
    cases false first = omega (arith, by, short)

-- what is waited for is the same, and so these times
pub same_times : {a b : Source} → SameWaiting a b → (RestsAway a → RestsAway b) → SameTimes a b
same_times waiting rests =
    let upstream = waiting.upstream in
    let reach = waiting.reach in
    let returning = waiting.returning in
    let opened = waiting.opened in
    let head = waiting.body_since in
    let settling = waiting.settling in
    let rechecking = waiting.rechecking in
    record { set = cc; times = cc; rests = rests }

-- and where as much is left to be read
pub rests_same : (a b : Source) → b.reach ≡ a.reach → b.has_more ≡ a.has_more → RestsAway a → RestsAway b
rests_same a b reach more rest away = more ∙ rest (sym reach ∙ away)

-- over a turn
pub keeps_turn : {a b c d e : Source} {now time after : ℕ} → SameTimes a b → c ≡ b → KeepsTimes c d time after → SameTimes d e → time ≡ now → KeepsTimes a e now now
keeps_turn {a} {b} {c} {d} {e} {now} {time} {after} before same keeps behind at =
    record {
      set = behind.set ∙ keeps.set ∙ ap settings_of same ∙ before.set;
      times = λ latest by are.
          subst (AreBy latest) (sym behind.times)
          (keeps.times latest (subst (λ t. t ≤ latest) (sym at) by)
          (subst (λ s. AreBy latest (times_of s)) (sym same) (subst (AreBy latest) (sym before.times) are)));
      clock = refl;
    }

-- and with what is waited for within one connection
pub heeds_turn : {a b c d e : Source} {now time after : ℕ} → SameTimes a b → c ≡ b → HeedsTime c d time after → SameTimes d e → time ≡ now → HeedsTime a e now now
heeds_turn {a} {b} {c} {d} {e} {now} {time} {after} before same heeds behind at =
    let here : HeedsTime b d now after = subst (λ t. HeedsTime b d t after) at (subst (λ s. HeedsTime s d time after) same heeds) in
    let on : HeedsTime a e now after = heeds_then (heeds_same after behind) (heeds_then here (heeds_same now before)) in
    record {
      keeps = record { set = on.keeps.set; times = on.keeps.times; clock = refl };
      away = on.away;
      connects = on.connects;
      opened = on.opened;
      head = on.head;
      rests = on.rests;
    }

-- ---- an event for the connection

-- how much of the request was written
counted : Reach → ℕ
counted Away = 0
counted (Connects since) = 0
counted (Asks count) = count
counted Reads = 0

-- and how much of it was not
abbrev pub unwritten : List ℕ → Reach → ℕ
unwritten request Away = 0
unwritten request (Connects since) = 0
unwritten request (Asks count) = length (drop count request)
unwritten request Reads = 0

pub asks_count : (one other : ℕ) → Asks one ≡ Asks other → one ≡ other
unfolding counted
asks_count one other same = ap counted same

pub heeds_link_same : {a b : Source} {waits : Option ℕ} {before between after later : LinkCalls} → SameSource a b → between ≡ before → later ≡ after
    → HeedsLink b waits between after → HeedsLink a waits before later
heeds_link_same {a} {b} {waits} {before} {between} {after} {later} same calls calls_after heeds =
    subst (λ k. HeedsLink a waits before k) (sym calls_after)
    (subst (λ k. HeedsLink a waits k after) calls
    (record {
      looks = λ since is.
          let at = heeds.looks since (same.reach ∙ is) in
          record { answer = at.answer; looks = at.looks; asks = λ opened some. at.asks opened (λ none. some (sym same.request ∙ none)) };
      asks = λ count is some. heeds.asks count (same.reach ∙ is) (λ none. some (ap (drop count) (sym same.request) ∙ none));
      reads = λ may. heeds.reads (record { reads = same.reach ∙ may.reads; rest = same.rest ∙ may.rest; said = may.said });
    }))

none_of : (a b c d e f g : Bool) → c ≡ false → (a && b && c && d && e && f && g) ≡ false
none_of false b c d e f g is = refl
none_of true false c d e f g is = refl
none_of true true c d e f g is = ap (λ x. x && d && e && f && g) is

-- whoever has more to read has something new
more_is_new : (source : Source) (reach : Reach) (now : ℕ) → source.has_more ≡ true → is_past (quiet_at source reach) now ≡ false
more_is_new source Away now more = refl
more_is_new source (Connects since) now more = refl
more_is_new source (Asks count) now more = refl
more_is_new source Reads now more =
    let not_left : may_be_left source ≡ false = none_of (is_none source.coming) (nat_le 2 (length source.places.items)) (not source.has_more) (nat_eq (length source.rest.items) 0) (not (nat_eq source.returning.after 0)) (not source.leading.is_alone) (not source.settling.is_always) (ap not more) in
    ap (λ may. is_past (if may && not (is_only_other source) then option_map (λ since. quiet_since source) source.body_since else None) now) not_left

-- and the first one isn't looked at
more_is_no_look : (source : Source) (reach : Reach) (now : ℕ) → source.has_more ≡ true → is_past (look_at source reach) now ≡ false
more_is_no_look source Away now more = refl
more_is_no_look source (Connects since) now more = refl
more_is_no_look source (Asks count) now more = refl
more_is_no_look source Reads now more =
    let not_left : may_be_left source ≡ false = none_of (is_none source.coming) (nat_le 2 (length source.places.items)) (not source.has_more) (nat_eq (length source.rest.items) 0) (not (nat_eq source.returning.after 0)) (not source.leading.is_alone) (not source.settling.is_always) (ap not more) in
    ap (λ may. is_past (if may && is_looked_at source then option_map (λ since. max source.leading.look_at (later since 2000)) source.body_since else None) now) not_left

newest_same : {a b : Source} → SameWaiting a b → b.is_heard ≡ a.is_heard → newest_time b ≡ newest_time a
newest_same {a} {b} waiting heard =
    ap (λ h. if h || is_none b.rechecking.again then None else option_map (λ since. later since 1000) b.body_since) heard
    ∙ ap (λ r. if a.is_heard || is_none r.again then None else option_map (λ since. later since 1000) b.body_since) waiting.rechecking
    ∙ ap (λ s. if a.is_heard || is_none a.rechecking.again then None else option_map (λ since. later since 1000) s) waiting.body_since

-- ---- none came

-- a server may be left, and the first one is looked at
may_by : Bool → List Place → Bool → List ℕ → Returning → Leading → Bool → Bool
may_by fresh places more rest returning leading always =
    fresh && nat_le 2 (length places) && not more && nat_eq (length rest) 0 && not (nat_eq returning.after 0) && not leading.is_alone && not always

looked_by : Leading → ℕ → Bool → Bool
looked_by leading place always = is_instead leading place && not always

kept_by : Leading → ℕ → Bool → Bool
kept_by leading place always = looked_by leading place always && not leading.was_late

quiet_by : Bool → List Place → Returning → Leading → Bool → ℕ → Option ℕ → Reach → Option ℕ
quiet_by may places returning leading always place since Reads =
    if may && not (kept_by leading place always && nat_lt leading.others 2)
    then option_map (λ from. later (max returning.since returning.published) (quiet_time returning (nat_eq place 0) (nat_le (length places) returning.left_quiet))) since
    else None
quiet_by may places returning leading always place since Away = None
quiet_by may places returning leading always place since (Connects from) = None
quiet_by may places returning leading always place since (Asks count) = None

look_by : Bool → Leading → Bool → ℕ → Option ℕ → Reach → Option ℕ
look_by may leading always place since Reads =
    if may && looked_by leading place always then option_map (λ from. max leading.look_at (later from 2000)) since else None
look_by may leading always place since Away = None
look_by may leading always place since (Connects from) = None
look_by may leading always place since (Asks count) = None

may_same : {a b : Source} → SameSource a b → SameWaiting a b → b.has_more ≡ a.has_more → may_be_left b ≡ may_be_left a
unfolding may_by
may_same {a} {b} same waiting more =
    ap (λ c. may_by (is_none c) b.places.items b.has_more b.rest.items b.returning b.leading b.settling.is_always) same.coming
    ∙ ap (λ s. may_by (is_none a.coming) s.places b.has_more b.rest.items b.returning b.leading b.settling.is_always) same.servers
    ∙ ap (λ m. may_by (is_none a.coming) a.places.items m b.rest.items b.returning b.leading b.settling.is_always) more
    ∙ ap (λ r. may_by (is_none a.coming) a.places.items a.has_more r b.returning b.leading b.settling.is_always) same.rest
    ∙ ap (λ r. may_by (is_none a.coming) a.places.items a.has_more a.rest.items r b.leading b.settling.is_always) waiting.returning
    ∙ ap (λ l. may_by (is_none a.coming) a.places.items a.has_more a.rest.items a.returning l b.settling.is_always) waiting.leading
    ∙ ap (λ s. may_by (is_none a.coming) a.places.items a.has_more a.rest.items a.returning a.leading s.is_always) waiting.settling

quiet_is : (source : Source) (reach : Reach) → quiet_at source reach ≡ quiet_by (may_be_left source) source.places.items source.returning source.leading source.settling.is_always source.upstream.place source.body_since reach
unfolding quiet_by looked_by kept_by
quiet_is source Reads = refl
quiet_is source Away = refl
quiet_is source (Connects from) = refl
quiet_is source (Asks count) = refl

look_is : (source : Source) (reach : Reach) → look_at source reach ≡ look_by (may_be_left source) source.leading source.settling.is_always source.upstream.place source.body_since reach
unfolding look_by looked_by
look_is source Reads = refl
look_is source Away = refl
look_is source (Connects from) = refl
look_is source (Asks count) = refl

-- the same has nothing new for as long
pub quiet_same : {a b : Source} → SameSource a b → SameWaiting a b → b.has_more ≡ a.has_more → quiet_at b b.reach ≡ quiet_at a a.reach
quiet_same {a} {b} same waiting more =
    quiet_is b b.reach
    ∙ ap (λ m. quiet_by m b.places.items b.returning b.leading b.settling.is_always b.upstream.place b.body_since b.reach) (may_same same waiting more)
    ∙ ap (λ s. quiet_by (may_be_left a) s.places b.returning b.leading b.settling.is_always b.upstream.place b.body_since b.reach) same.servers
    ∙ ap (λ r. quiet_by (may_be_left a) a.places.items r b.leading b.settling.is_always b.upstream.place b.body_since b.reach) waiting.returning
    ∙ ap (λ l. quiet_by (may_be_left a) a.places.items a.returning l b.settling.is_always b.upstream.place b.body_since b.reach) waiting.leading
    ∙ ap (λ s. quiet_by (may_be_left a) a.places.items a.returning a.leading s.is_always b.upstream.place b.body_since b.reach) waiting.settling
    ∙ ap (λ u. quiet_by (may_be_left a) a.places.items a.returning a.leading a.settling.is_always u.place b.body_since b.reach) waiting.upstream
    ∙ ap (λ s. quiet_by (may_be_left a) a.places.items a.returning a.leading a.settling.is_always a.upstream.place s b.reach) waiting.body_since
    ∙ ap (λ r. quiet_by (may_be_left a) a.places.items a.returning a.leading a.settling.is_always a.upstream.place a.body_since r) same.reach
    ∙ sym (quiet_is a a.reach)

-- and the first one is looked at when it was
pub look_same : {a b : Source} → SameSource a b → SameWaiting a b → b.has_more ≡ a.has_more → look_at b b.reach ≡ look_at a a.reach
look_same {a} {b} same waiting more =
    look_is b b.reach
    ∙ ap (λ m. look_by m b.leading b.settling.is_always b.upstream.place b.body_since b.reach) (may_same same waiting more)
    ∙ ap (λ l. look_by (may_be_left a) l b.settling.is_always b.upstream.place b.body_since b.reach) waiting.leading
    ∙ ap (λ s. look_by (may_be_left a) a.leading s.is_always b.upstream.place b.body_since b.reach) waiting.settling
    ∙ ap (λ u. look_by (may_be_left a) a.leading a.settling.is_always u.place b.body_since b.reach) waiting.upstream
    ∙ ap (λ s. look_by (may_be_left a) a.leading a.settling.is_always a.upstream.place s b.reach) waiting.body_since
    ∙ ap (λ r. look_by (may_be_left a) a.leading a.settling.is_always a.upstream.place a.body_since r) same.reach
    ∙ sym (look_is a a.reach)

pub stays_same : {a b : Source} (idle now : ℕ) → SameSource a b → SameWaiting a b → b.is_heard ≡ a.is_heard → (b.has_more ≡ a.has_more) ⊎ (b.has_more ≡ true) → IsToStay a idle now → IsToStay b idle now
stays_same {a} {b} idle now same waiting heard (inl more) is = (
  why_same idle now waiting ∙ is.0,
  ap (λ t. is_past t now) (look_same same waiting more) ∙ is.1,
  ap (λ t. is_past t now) (quiet_same same waiting more) ∙ is.2,
  ap (λ t. is_past t now) (newest_same waiting heard) ∙ is.3,
)
stays_same {a} {b} idle now same waiting heard (inr more) is = (
  why_same idle now waiting ∙ is.0,
  more_is_no_look b b.reach now more,
  more_is_new b b.reach now more,
  ap (λ t. is_past t now) (newest_same waiting heard) ∙ is.3,
)

pub moves_same : {a b : Source} (idle now : ℕ) → SameSource a b → SameWaiting a b → b.is_heard ≡ a.is_heard → b.has_more ≡ a.has_more → IsToMove a idle now → IsToMove b idle now
moves_same {a} {b} idle now same waiting heard more is = (
  λ away. is.0 (sym same.reach ∙ away),
  why_same idle now waiting ∙ is.1,
  by is.2,
)
  where
    by : (is_past (look_at a a.reach) now ≡ true) ⊎ (is_past (quiet_at a a.reach) now ≡ true) ⊎ (is_past (newest_time a) now ≡ true)
        → (is_past (look_at b b.reach) now ≡ true) ⊎ (is_past (quiet_at b b.reach) now ≡ true) ⊎ (is_past (newest_time b) now ≡ true)
    by (inl look) = inl (ap (λ t. is_past t now) (look_same same waiting more) ∙ look)
    by (inr (inl quiet)) = inr (inl (ap (λ t. is_past t now) (quiet_same same waiting more) ∙ quiet))
    by (inr (inr newest)) = inr (inr (ap (λ t. is_past t now) (newest_same waiting heard) ∙ newest))

-- an event came for it, and it is not to be left
pub stays_awake : {a b : Source} (idle now : ℕ) → SameWaiting a b → b.is_heard ≡ a.is_heard → b.has_more ≡ true → why_left a idle now ≡ None → is_past (newest_time a) now ≡ false → IsToStay b idle now
stays_awake {a} {b} idle now waiting heard more left newest = (
  why_same idle now waiting ∙ left,
  more_is_no_look b b.reach now more,
  more_is_new b b.reach now more,
  ap (λ t. is_past t now) (newest_same waiting heard) ∙ newest,
)
