-- Lemmas on what the command `serve` commits.
use Rattle.std.proofs.Common.{◌≡◌, inl, inr, refl, sym, ap, ◌∙◌, subst, Bool, true, false, List, [], ◌∷◌, ◌++◌, append_assoc, append-nil, take-append-drop, true≢false, map, ℕ, Ok, Err, Result, take, Option, Some, None}
use Rattle.std.specs.Prelude.{◌<◌, Vec, OnOk, IfErr}
use Rattle.feed_settings.specs.Limits.{Limits}
use Rattle.feed_changes.specs.declared.change.Change.{Change}
use Rattle.feed_node.specs.Log.{PrimaryState, new_primary}
use Rattle.feed_node.specs.declared.commit.Commit.{Commit}
use Rattle.feed_node.specs.declared.primary.CommitFault.{CommitFault}
use Rattle.feed_node.specs.declared.primary.CommitFault.TheVariants as commit
use Rattle.feed_http.specs.Live.{Intake, intake_of, Accepts, accepts_none, accepts_one, TakesTurn, HasSent, none_sent, commit_sent, turn_taken, SendsLiveTo, WroteLive, RefusesInTurn, ServedLive, ServesLive}
use Rattle.feed_http.specs.Exchange.{Exchange, exchange}
use Rattle.feed_http.specs.declared.fault.EngineFault.{EngineFault}
use Rattle.feed_http.specs.declared.fault.Served.{Served}
use Rattle.feed_http.specs.declared.service.Service.{Service}
use Rattle.feed_relay.specs.Dialing.{Links}
use Rattle.feed_answer.specs.Answered.{AnswerParts}
use Rattle.feed_http.specs.declared.fault.EngineFault.TheVariants as engine
use Rattle.feed_relay.specs.declared.fault.NetworkFault.{NetworkFault}
use Rattle.feed_relay.specs.declared.fault.NetworkFault.TheVariants as network
use Rattle.feed_note.specs.Batches.{batch_changes}
use Rattle.feed_note.specs.Counts.{AreRead}
use Rattle.feed_note.specs.declared.line.Line.{Line}
use Rattle.feed_commands.specs.Check.{IsWhole}
use Rattle.feed_commands.specs.Fault.{fault_of_network, fault_of_commit, is_one_connections, goes_on}
use Rattle.feed_commands.specs.InTurn.{InTurn, none_done, one_done}
use Rattle.feed_commands.specs.Reporting.{FailsAs}
use Rattle.feed_commands.specs.Serve.{new_source, RefusedAtStart, StartFails, TakesBatches, TakesAndDrops, EndsTaking, ServingPrimary, ServesOne, ServesOn, ServesAll, EndsServing, StopsServing}
use Rattle.feed_commands.specs.declared.fault.Fault.{Fault}
use Rattle.feed_commands.specs.declared.fault.Fault.TheVariants as fault

-- batches, and then more
accepts_more : (first : PrimaryState) (earlier : List (List Change)) (mid : PrimaryState)
    (later : List (List Change)) (last : PrimaryState) → Accepts first earlier mid
    → Accepts mid later last → Accepts first (earlier ++ later) last
accepts_more first earlier mid later last run accepts_none =
    subst (λ l. Accepts first l mid) (sym (append-nil earlier)) run
accepts_more first earlier mid later last run (accepts_one before primary batch more fine) =
    subst (λ l. Accepts first l last) (append_assoc earlier before (batch ∷ []))
    (accepts_one (earlier ++ before) primary batch
    (accepts_more first earlier mid before primary run more) fine)

pub takes_none : (start : Intake) → TakesBatches start start
takes_none start = record { taken = []; accepted = accepts_none; batches = refl }

pub takes_more : (start mid now : Intake) → TakesBatches start mid → TakesBatches mid now → TakesBatches start now
takes_more start mid now before after = record {
  taken = before.taken ++ after.taken;
  accepted = accepts_more start.primary before.taken mid.primary after.taken now.primary
      before.accepted after.accepted;
  batches = before.batches ∙ ap (λ l. before.taken ++ l) after.batches
      ∙ sym (append_assoc before.taken after.taken now.batches);
}

pub drops_later : (start mid : Intake) (why : CommitFault) (now : Intake) → TakesBatches start mid
    → TakesAndDrops mid why now → TakesAndDrops start why now
drops_later start mid why now before after = record {
  taken = before.taken ++ after.taken;
  batch = after.batch;
  accepted = accepts_more start.primary before.taken mid.primary after.taken now.primary
      before.accepted after.accepted;
  batches = before.batches ∙ ap (λ l. before.taken ++ l) after.batches
      ∙ sym (append_assoc before.taken after.taken (after.batch ∷ now.batches));
  refused = after.refused;
}

takes_turn : (turn : ℕ) (before now : Intake) → TakesTurn turn before now → TakesBatches before now
takes_turn turn before now takes = record {
  taken = take turn before.batches;
  accepted = takes.accepted;
  batches = sym (take-append-drop turn before.batches)
      ∙ ap (λ l. take turn before.batches ++ l) (sym takes.left);
}

takes_sent : (turn : ℕ) (start : Intake) (opened : List ℕ) (sent : List Commit) (now : Intake)
    (token : List ℕ) → HasSent turn start opened sent now token → TakesBatches start now
takes_sent turn start opened sent now token none_sent = takes_none start
takes_sent turn start opened sent now token (commit_sent earlier same at commit run is) =
    takes_sent turn start opened earlier now at run
takes_sent turn start opened sent now token (turn_taken same before later at run new takes) =
    takes_more start before now (takes_sent turn start opened sent before token run)
    (takes_turn turn before now takes)

takes_to : (turn : ℕ) (start : Intake) (session : Option (List ℕ)) (sent : List Commit)
    (gone : Bool) (now : Intake) → SendsLiveTo turn start session sent gone now → TakesBatches start now
takes_to turn start None sent gone now (_, _, same) =
    subst (λ n. TakesBatches start n) (sym same) (takes_none start)
takes_to turn start (Some opened) sent gone now (token, run, over) =
    takes_sent turn start opened sent now token run

takes_wrote : (turn : ℕ) (start : Intake) (answer : AnswerParts) (now : Intake)
    (old new : Option (List ℕ)) → WroteLive turn start answer now old new → TakesBatches start now
takes_wrote turn start answer now old new (inl (wrote, same)) =
    subst (λ n. TakesBatches start n) (sym same) (takes_none start)
takes_wrote turn start answer now old new (inr (opened, text, is, cut, wrote)) =
    takes_sent turn start opened cut.sent now cut.token cut.has_sent

drops_in_turn : (turn : ℕ) (start before : Intake) (why : CommitFault) (now : Intake)
    → TakesBatches start before → RefusesInTurn turn before why now → TakesAndDrops start why now
drops_in_turn turn start before why now takes refuses = drops_later start before why now takes (record {
  taken = refuses.earlier;
  batch = refuses.batch;
  accepted = refuses.accepted;
  batches = refuses.batches;
  refused = refuses.refused;
})

pub drops_at_once : (turn : ℕ) (start : Intake) (why : CommitFault) (now : Intake)
    → RefusesInTurn turn start why now → TakesAndDrops start why now
drops_at_once turn start why now refuses =
    drops_in_turn turn start start why now (takes_none start) refuses

-- what was taken where a connection failed: one batch was refused at a commit's fault alone
abbrev FailsTaking : NetworkFault → Intake → Intake → Type 0
FailsTaking network.Accept start now = now ≡ start
FailsTaking (network.Engine (engine.Commit why)) start now = TakesAndDrops start why now
FailsTaking (network.Engine (engine.Follow why)) start now = ⊥
FailsTaking (network.Engine engine.Memory) start now = TakesBatches start now
FailsTaking (network.Engine engine.Read) start now = now ≡ start
FailsTaking (network.Engine engine.TooManyReads) start now = now ≡ start
FailsTaking (network.Engine engine.Write) start now = TakesBatches start now
FailsTaking network.Connect start now = ⊥
FailsTaking network.Bind start now = ⊥

-- what was served says what was taken
takes_served : (turn : ℕ) (service : Service) (spoken : Exchange) (start : Intake)
    (served : Served) (now : Intake) → ServesLive turn service spoken start (Ok served) now
    → TakesBatches start now
takes_served turn service spoken start served now live =
    let ((answer, text, has, sends, wrote), left) = live.came in
    takes_to turn start answer.session sends.sent sends.gone now sends.sends

fails_served : (turn : ℕ) (service : Service) (spoken : Exchange) (start : Intake)
    (why : EngineFault) (now : Intake) → ServesLive turn service spoken start (Err why) now
    → FailsTaking (network.Engine why) start now
fails_served turn service spoken start engine.Read now live =
    let (broke, same) = live.came in same
fails_served turn service spoken start engine.TooManyReads now live =
    let (broke, same, rose) = live.came in same
fails_served turn service spoken start engine.Write now live =
    let (answer, has, wrote) = live.came in
    takes_wrote turn start answer now spoken.written_old spoken.written_new wrote
fails_served turn service spoken start (engine.Commit why) now live =
    let (answer, has, wrote) = live.came in
    let (opened, text, is, refused, appends) = wrote in
    drops_in_turn turn start refused.before why now
    (takes_sent turn start opened refused.sent refused.before refused.token refused.has_sent)
    refused.refuses
fails_served turn service spoken start engine.Memory now live = unserved live.came
  where
    unserved : ServedLive turn service spoken
        start (Err engine.Memory) now → TakesBatches start now
    unserved (inl (wrote, same)) = subst (λ n. TakesBatches start n) (sym same) (takes_none start)
    unserved (inr (answer, has, wrote)) =
        takes_wrote turn start answer now spoken.written_old spoken.written_new wrote
fails_served turn service spoken start (engine.Follow why) now live =
    absurd live.came

-- a fault of one connection drops nothing
keeps_on : (why : NetworkFault) (start now : Intake)
    → is_one_connections (fault_of_network why) ≡ true → FailsTaking why start now
    → TakesBatches start now
keeps_on network.Connect start now one fails = absurd fails
keeps_on network.Bind start now one fails = absurd fails
keeps_on network.Accept start now one fails = absurd (true≢false (sym one))
keeps_on (network.Engine engine.Read) start now one fails =
    subst (λ n. TakesBatches start n) (sym fails) (takes_none start)
keeps_on (network.Engine engine.TooManyReads) start now one fails =
    subst (λ n. TakesBatches start n) (sym fails) (takes_none start)
keeps_on (network.Engine engine.Write) start now one fails = fails
keeps_on (network.Engine engine.Memory) start now one fails = absurd (true≢false (sym one))
keeps_on (network.Engine (engine.Commit commit.EmptyBatch)) start now one fails = absurd (true≢false (sym one))
keeps_on (network.Engine (engine.Commit commit.LastToken)) start now one fails = absurd (true≢false (sym one))
keeps_on (network.Engine (engine.Commit commit.TooLarge)) start now one fails = absurd (true≢false (sym one))
keeps_on (network.Engine (engine.Commit commit.Memory)) start now one fails = absurd (true≢false (sym one))
keeps_on (network.Engine (engine.Follow why)) start now one fails = absurd fails

-- any other one ends it
ends_it : (why : NetworkFault) (start now : Intake)
    → is_one_connections (fault_of_network why) ≡ false → FailsTaking why start now
    → EndsTaking (fault_of_network why) start now
ends_it network.Connect start now one fails = absurd fails
ends_it network.Bind start now one fails = absurd fails
ends_it network.Accept start now one fails =
    subst (λ n. TakesBatches start n) (sym fails) (takes_none start)
ends_it (network.Engine engine.Read) start now one fails = absurd (true≢false one)
ends_it (network.Engine engine.TooManyReads) start now one fails = absurd (true≢false one)
ends_it (network.Engine engine.Write) start now one fails = absurd (true≢false one)
ends_it (network.Engine engine.Memory) start now one fails = inl fails
ends_it (network.Engine (engine.Commit commit.EmptyBatch)) start now one fails = fails
ends_it (network.Engine (engine.Commit commit.LastToken)) start now one fails = fails
ends_it (network.Engine (engine.Commit commit.TooLarge)) start now one fails = fails
ends_it (network.Engine (engine.Commit commit.Memory)) start now one fails = inr fails
ends_it (network.Engine (engine.Follow why)) start now one fails = absurd fails

-- and what was taken before it counts
ends_later : (why : Fault) (start mid now : Intake) → TakesBatches start mid
    → EndsTaking why mid now → EndsTaking why start now
ends_later fault.Memory start mid now before (inl after) = inl (takes_more start mid now before after)
ends_later fault.Memory start mid now before (inr after) =
    inr (drops_later start mid commit.Memory now before after)
ends_later fault.Write start mid now before after = takes_more start mid now before after
ends_later fault.Read start mid now before after = absurd after
ends_later fault.TooManyReads start mid now before after = absurd after
ends_later fault.TooLong start mid now before after = absurd after
ends_later (fault.Feed why) start mid now before after = absurd after
ends_later (fault.Survey why) start mid now before after = absurd after
ends_later (fault.Batches why) start mid now before after = absurd after
ends_later (fault.Play why) start mid now before after = absurd after
ends_later (fault.Audit why) start mid now before after = absurd after
ends_later fault.Differs start mid now before after = absurd after
ends_later fault.Ended start mid now before after = absurd after
ends_later fault.Unpublished start mid now before after = absurd after
ends_later fault.NoToken start mid now before after = absurd after
ends_later (fault.Place why) start mid now before after = absurd after
ends_later (fault.Address why) start mid now before after = absurd after
ends_later (fault.Commit why) start mid now before after = absurd after
ends_later (fault.Network network.Accept) start mid now before after =
    takes_more start mid now before after
ends_later (fault.Network network.Connect) start mid now before after = absurd after
ends_later (fault.Network network.Bind) start mid now before after = absurd after
ends_later (fault.Network (network.Engine (engine.Commit why))) start mid now before after =
    drops_later start mid why now before after
ends_later (fault.Network (network.Engine engine.Memory)) start mid now before after = absurd after
ends_later (fault.Network (network.Engine engine.Read)) start mid now before after = absurd after
ends_later (fault.Network (network.Engine engine.Write)) start mid now before after = absurd after
ends_later (fault.Network (network.Engine engine.TooManyReads)) start mid now before after = absurd after
ends_later (fault.Network (network.Engine (engine.Follow why))) start mid now before after = absurd after

-- ---- connection by connection

abbrev TakesBy : Result Served NetworkFault → Intake → Intake → Type 0
TakesBy (Ok served) start now = TakesBatches start now
TakesBy (Err why) start now = FailsTaking why start now

module _ {A R W : Type 0} (links : Links A R W) (turn : ℕ) (service : Service) where
  takes_one : (start : ServingPrimary A) (served : Result Served NetworkFault) (end : ServingPrimary A)
      → ServesOne links turn service start served end → TakesBy served start.intake end.intake
  takes_one start (Ok served) end (on, none) =
      takes_served turn service (exchange links.devices on.reader on.left on.writer on.written)
      start.intake served end.intake on.spoke
  takes_one start (Err (network.Engine why)) end (on, none) =
      fails_served turn service (exchange links.devices on.reader on.left on.writer on.written)
      start.intake why end.intake on.spoke
  takes_one start (Err network.Accept) end (on, none) = none refl
  takes_one start (Err network.Connect) end (on, none) = absurd on
  takes_one start (Err network.Bind) end (on, none) = absurd on

  takes_on : (start : ServingPrimary A) (served : Result Served NetworkFault) (end : ServingPrimary A)
      → ServesOn links turn service start served end → TakesBatches start.intake end.intake
  takes_on start (Ok served) end (one, on) = takes_one start (Ok served) end one
  takes_on start (Err why) end (one, on) =
      keeps_on why start.intake end.intake on (takes_one start (Err why) end one)

  takes_each : (start : ServingPrimary A) (all : List (Result Served NetworkFault)) (end : ServingPrimary A)
      → InTurn (ServesOn links turn service) start all end → TakesBatches start.intake end.intake
  takes_each start all end none_done = takes_none start.intake
  takes_each start all end (one_done before this middle _ run does) =
      takes_more start.intake middle.intake end.intake (takes_each start before middle run)
      (takes_on middle this end does)

  pub takes_all : (count : ℕ) (start end : ServingPrimary A) → ServesAll links turn service count start end
      → TakesBatches start.intake end.intake
  takes_all count start end (all, many, run) = takes_each start all end run

  takes_last : (start : ServingPrimary A) (why : Fault) (served : Result Served NetworkFault)
      (end : ServingPrimary A) → ServesOne links turn service start served end → goes_on served ≡ false
      → FailsAs served why → EndsTaking why start.intake end.intake
  takes_last start why (Ok served) end one off reported = absurd (true≢false off)
  takes_last start why (Err fault) end one off reported =
      subst (λ w. EndsTaking w start.intake end.intake) (sym reported)
      (ends_it fault start.intake end.intake off (takes_one start (Err fault) end one))

  pub takes_some : (count : ℕ) (start : ServingPrimary A) (why : Fault) (end : ServingPrimary A)
      → StopsServing links turn service count start why end
      → EndsTaking why start.intake end.intake
  takes_some count start why end stops =
      let (served, one, off, reported) = stops.last in
      ends_later why start.intake stops.middle.intake end.intake
      (takes_all stops.served start stops.middle stops.before)
      (takes_last stops.middle why served end one off reported)

  -- fewer connections were served, and then the last one
  pub stopped_at : (count made : ℕ) (start middle : ServingPrimary A) (why : Fault) (end : ServingPrimary A)
      → made < count → ServesAll links turn service made start middle
      → EndsServing links turn service middle why end
      → StopsServing links turn service count start why end
  stopped_at count made start middle why end fewer before last =
      record { served = made; fewer = fewer; middle = middle; before = before; last = last }

pub on_ok : {X E : Type 0} (r : Result X E) (P : Type 0) → P → OnOk r P
on_ok (Ok x) P h = h
on_ok (Err e) P h = tt

-- all were served, but a fault was not reported
pub taken_untold : (r : Result (Unit {0}) Fault) (X : Type 0) (start now : Intake)
    → IfErr r (λ why. (why ≡ fault.Write) × X) → TakesBatches start now
    → IfErr r (λ why. EndsTaking why start now)
taken_untold (Ok all) X start now is takes = tt
taken_untold (Err why) X start now (is, _) takes =
    subst (λ w. EndsTaking w start now) (sym is) takes

-- a batch was refused at the start, before anything was served
module _ {A : Type 0} where
  pub refused_at_start : (turn : Option ℕ) (limits : Limits) (old new : Option (List ℕ))
      (bytes : List ℕ) (notes : List Line) (primary : PrimaryState) (waiting : List (Vec Change A))
      (many : ℕ) (why : CommitFault) (now : Intake) → turn ≡ None → IsWhole old new bytes
      → AreRead bytes notes → primary ≡ new_primary limits
      → map (λ batch. batch.items) waiting ≡ batch_changes notes
      → RefusesInTurn many (intake_of primary waiting) why now
      → StartFails turn limits (fault_of_commit why) old new
  refused_at_start turn limits old new bytes notes primary waiting many why now none whole read is all refuses =
      reported why (record {
        bytes = bytes;
        notes = notes;
        now = now;
        at_once = none;
        whole = whole;
        read = read;
        refuses = subst (λ l. TakesAndDrops (new_source limits l) why now) all
            (subst (λ p. TakesAndDrops
            (record { primary = p; batches = map (λ batch. batch.items) waiting }) why now) is
            (drops_at_once many (intake_of primary waiting) why now refuses));
      })
    where
      reported : (w : CommitFault) → RefusedAtStart turn limits old new w
          → StartFails turn limits (fault_of_commit w) old new
      reported commit.EmptyBatch r = r
      reported commit.LastToken r = r
      reported commit.TooLarge r = r
      reported commit.Memory r = tt
