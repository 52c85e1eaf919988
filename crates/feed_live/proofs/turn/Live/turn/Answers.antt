use Rattle.std.proofs.Common.{◌≡◌, ◌<◌, inl, refl, sym, ap, subst, ◌∙◌, ◌++◌}
use Rattle.std.specs.Prelude.{◌⊎◌, Contains, is_some, true, false, None}
use Rattle.feed_files.specs.Saved.{KeepsFiles}
use Rattle.feed_live.specs.Ending.{SameBeside, SameSaved}
use Rattle.feed_files.specs.Input.{StopsInput}
use Rattle.feed_live.specs.Taking.{bytes_in}
use Rattle.feed_live.specs.Relaying.{IsToConnect, RestsAway, SameSource, SameWaiting}
use Rattle.feed_live.specs.Calling.{MarksMore}
use Rattle.feed_live.specs.Leaving.{IsAtRest, IsToLeave, IsToMove, IsToStay}
use Rattle.feed_live.proofs.CallingLemmas.{kept_marks}
use Rattle.feed_live.proofs.TimesLemmas.{keeps_turn, heeds_turn, heeds_link_same, moves_same, same_times, stays_awake, stays_same}
use Rattle.feed_screens.proofs.ServingLemmas.{serving_noted}
use Rattle.feed_live.proofs.TurnLemmas.{waiting_then, beside_then, serves_then, screens_only, relays_on, takes_only, takes_still, asked_then, goes_with, to_connect_same, left_same, begins_same, away_still}
use Rattle.feed_screens.proofs.OwedLemmas.{owes_what_is_kept}
use Rattle.feed_live.proofs.turn.Live.turn.Goals as goal

pub returns : goal.returns
returns g c =
    let begun = screens_only c.args.self.now c.begin_turn-had_more.new.self c.begin.new.self (λ nodes shown blank serving. serving_noted c.begin_turn-had_more.ensures.seating serving) in
    let said = serves_then (c.say_more.ensures.serves _) (serves_then (c.note.ensures.serves _) begun) in
    let drained = screens_only c.tick.new.self c.drain_due.new.self c.drain_due.new.desk
    (λ nodes shown blank serving. c.drain_due.ensures.serving nodes _ (subst (λ n. Contains nodes n) (sym c.node-node.ensures) shown) serving) in
    let served = serves_then (c.next.ensures.serves _) (serves_then c.accept.ensures.serves (serves_then c.serve.ensures.serves (serves_then drained (serves_then c.tick.ensures.serves (c.save.ensures.serves _))))) in
    let noted : SameBeside c.args.self.now c.note.new.self = record { saved = c.note.ensures.saved.saved; epoch = c.note.ensures.saved.epoch; reported = c.note.ensures.saved.reported } in
    let before : SameBeside c.args.self.now c.follow.new.self = beside_then c.follow.ensures.saved (beside_then c.take_input.ensures.saved (beside_then c.say_more.ensures.saved noted)) in
    let drained_so : SameBeside c.tick.new.self c.serve.new.self = record { saved = c.serve.ensures.saved.saved; epoch = c.serve.ensures.saved.epoch; reported = c.serve.ensures.saved.reported } in
    let later : SameBeside c.save.new.self c.accept.new.self = beside_then c.accept.ensures.saved (beside_then drained_so c.tick.ensures.saved) in
    let after : SameSaved c.save.new.self c.next.new.self = (c.next.ensures.saved.0 ∙ later.saved, c.next.ensures.saved.1 ∙ later.epoch) in
    let files_of = g.D.Store.files in
    record {
      relaying = λ limits log servers is.
          relays_on limits log servers _ served (c.follow.ensures.relaying _ limits log servers (c.take_input.ensures.relaying _ _ limits log servers (relays_on limits log servers _ said is)));
      taking = λ limits log begun input is.
          let taken = c.take_input.ensures.taking _ limits log begun input (takes_only limits log said is) in
          takes_only limits log served (takes_still limits log (c.follow.ensures.nothing taken.no_places) taken);
      stops = λ goes_on limits log begun input is feeds ends.
          let begins = takes_only limits log said is in
          let taken = c.take_input.ensures.taking _ limits log begun input begins in
          let same = c.follow.ensures.nothing taken.no_places in
          let stopped = c.take_input.ensures.stops goes_on _ limits log begun input begins (said.feeds ∙ feeds) (sym (ap (λ l. l.feeds) same) ∙ sym served.feeds ∙ ends) in (
            stopped.0,
            subst (λ m. StopsInput begun (input ++ bytes_in c.args.input) stopped.0 m) (sym (served.source.shown ∙ ap (λ l. l.source.answers.shown.mirror) same)) stopped.1,
          );
      kept = λ nodes shown files.
          subst (KeepsFiles nodes (files_of c.save.new.store)) (sym after.0)
          (c.save.ensures.kept nodes (subst (λ m. Contains nodes m.node) served.source.shown shown) (subst (KeepsFiles nodes (files_of c.args.devices.now.store)) (sym before.saved) files));
      parts = λ nodes shown files parts.
          c.save.ensures.parts nodes (subst (λ m. Contains nodes m.node) served.source.shown shown)
          (subst (KeepsFiles nodes (files_of c.args.devices.now.store)) (sym before.saved) files) parts;
      anew = λ newer nodes shown known.
          subst (KeepsFiles nodes (files_of c.save.new.store)) (sym after.0)
          (c.save.ensures.anew (λ same. newer (served.epoch ∙ same ∙ before.epoch)) nodes (subst (λ m. Contains nodes m.node) served.source.shown shown) known);
      wakes = c.next.ensures.wakes;
      says = c.next.ensures.says;
      awake = c.next.ensures.awake;
      reported = subst (λ at. (c.next.new.self.reported ≡ at) ⊎ (c.next.new.self.reported ≡ c.args.now)) (later.reported ∙ c.save.ensures.reported ∙ before.reported) c.next.ensures.reported;
      due = c.next.ensures.due;
      stores = ap is_some after.0 ∙ c.save.ensures.stores ∙ ap is_some before.saved;
      owed = owes_what_is_kept c.next.new.self.screens;
      asks = λ waits.
          asked_then (g.S.Sockets.asked c.args.devices.now.sockets) _ _ c.accept.new.self.screens c.next.new.self.screens c.args.now
          (c.serve.ensures.asks ∙ c.drain_due.ensures.asks ∙ c.tick.ensures.asks) c.next.ensures.pauses (c.accept.ensures.asks waits);
      ends = record {
        limits = served.ends.0 ∙ c.follow.ensures.ends.0 ∙ c.take_input.ensures.ends.limits ∙ said.ends.0;
        sets = λ is some none. c.take_input.ensures.ends.sets is (ap (λ l. l.ends_with_input) said.ends.0 ∙ some) (sym (served.ends.1 ∙ c.follow.ensures.ends.1) ∙ none);
        stays = λ goes_on. served.ends.1 ∙ c.follow.ensures.ends.1 ∙ c.take_input.ensures.ends.stays (goes_with c.args.self.now c.say_more.new.self said.ends.0 goes_on) ∙ said.ends.1;
      };
      begins = λ no_feed goes_on is.
          let apart = c.take_input.ensures.apart (said.feeds ∙ no_feed) in
          let time = apart.1 ∙ ap (λ d. d.time) (c.say_more.ensures.desk ∙ c.note.ensures.desk ∙ c.begin.ensures) in
          begins_same c.args.self.now.source c.take_input.new.self.source c.follow.new.self.source c.next.new.self.source (ap (λ s. s.upstream) apart.0 ∙ said.waiting.upstream) (ap (λ s. s.leading) apart.0 ∙ said.waiting.leading) served.waiting.upstream time
          (c.follow.ensures.begins (sym (served.ends.1 ∙ c.follow.ensures.ends.1) ∙ goes_on)
          (subst (λ t. IsToConnect c.take_input.new.self.source t) (sym time) (subst (λ s. IsToConnect s c.args.now) (sym apart.0) (to_connect_same said.waiting said.source is))));
      leaves = λ no_feed goes_on some is.
          let apart = c.take_input.ensures.apart (said.feeds ∙ no_feed) in
          let time = apart.1 ∙ ap (λ d. d.time) (c.say_more.ensures.desk ∙ c.note.ensures.desk ∙ c.begin.ensures) in
          let places = ap (λ s. s.places.items) apart.0 ∙ ap (λ s. s.places) said.source.servers in
          away_still served.waiting.reach
          (c.follow.ensures.leaves (sym (served.ends.1 ∙ c.follow.ensures.ends.1) ∙ goes_on) (λ none. some (sym places ∙ none))
          (subst (λ l. IsToLeave c.take_input.new.self.source l.screens.idle c.take_input.new.self.desk.time) (sym (c.take_input.ensures.ends.limits ∙ said.ends.0))
          (subst (λ t. IsToLeave c.take_input.new.self.source c.args.self.now.limits.screens.idle t) (sym time)
          (subst (λ s. IsToLeave s c.args.self.now.limits.screens.idle c.args.now) (sym apart.0) (left_same c.args.self.now.limits.screens.idle c.args.now said.waiting is)))));
      keeps = λ no_feed.
          let apart = c.take_input.ensures.apart (said.feeds ∙ no_feed) in
          let time = apart.1 ∙ ap (λ d. d.time) (c.say_more.ensures.desk ∙ c.note.ensures.desk ∙ c.begin.ensures) in
          keeps_turn (same_times said.waiting said.rests) apart.0 c.follow.ensures.keeps (same_times served.waiting served.rests) time;
      rests = λ no_feed rest.
          let apart = c.take_input.ensures.apart (said.feeds ∙ no_feed) in
          served.rests (c.follow.ensures.rests (subst RestsAway (sym apart.0) (said.rests rest)));
      more = λ no_feed marks.
          let apart = c.take_input.ensures.apart (said.feeds ∙ no_feed) in
          let asked = (g.L.Link.calls c.args.devices.now.link).read in
          kept_marks c.follow.new.self.source c.next.new.self.source (g.L.Link.calls c.follow.new.link).read served.source.reach served.more
          (c.follow.ensures.more (subst (λ s. MarksMore s asked) (sym apart.0) (kept_marks c.args.self.now.source c.say_more.new.self.source asked said.source.reach said.more marks)));
      holds = λ no_feed goes_on some reach stay.
          let apart = c.take_input.ensures.apart (said.feeds ∙ no_feed) in
          let time = apart.1 ∙ ap (λ d. d.time) (c.say_more.ensures.desk ∙ c.note.ensures.desk ∙ c.begin.ensures) in
          let places = ap (λ s. s.places.items) apart.0 ∙ ap (λ s. s.places) said.source.servers in
          let idle = c.args.self.now.limits.screens.idle in
          let more = subst (λ m. (m ≡ c.args.self.now.source.has_more) ⊎ (m ≡ true)) (sym c.say_more.ensures.more) (c.note.ensures.more reach) in
          heeds_turn (same_times said.waiting said.rests) apart.0
          (c.follow.ensures.holds (sym (served.ends.1 ∙ c.follow.ensures.ends.1) ∙ goes_on) (λ none. some (sym places ∙ none))
          (λ away. reach (sym said.waiting.reach ∙ sym (ap (λ s. s.reach) apart.0) ∙ away))
          (subst (λ l. IsToStay c.take_input.new.self.source l.screens.idle c.take_input.new.self.desk.time) (sym (c.take_input.ensures.ends.limits ∙ said.ends.0))
          (subst (λ t. IsToStay c.take_input.new.self.source idle t) (sym time)
          (subst (λ s. IsToStay s idle c.args.now) (sym apart.0) (stays_same idle c.args.now said.source said.waiting said.heard more stay)))))
          (same_times served.waiting served.rests) time;
      stays = λ no_feed goes_on reach rest stay none.
          let apart = c.take_input.ensures.apart (said.feeds ∙ no_feed) in
          let time = apart.1 ∙ ap (λ d. d.time) (c.say_more.ensures.desk ∙ c.note.ensures.desk ∙ c.begin.ensures) in
          let idle = c.args.self.now.limits.screens.idle in
          let more : c.say_more.new.self.source.has_more ≡ c.args.self.now.source.has_more = c.say_more.ensures.more ∙ ap (λ s. s.has_more) (c.note.ensures.stays none) in
          let waiting = subst (λ s. SameWaiting c.args.self.now.source s) (sym apart.0) said.waiting in
          let rests : IsAtRest c.take_input.new.self.source = (ap (λ s. s.has_more) apart.0 ∙ more ∙ rest.0, λ reads. rest.1 (sym waiting.reach ∙ reads)) in
          let stayed = c.follow.ensures.stays (sym (served.ends.1 ∙ c.follow.ensures.ends.1) ∙ goes_on)
          (λ away. reach (sym waiting.reach ∙ away)) rests
          (subst (λ l. IsToStay c.take_input.new.self.source l.screens.idle c.take_input.new.self.desk.time) (sym (c.take_input.ensures.ends.limits ∙ said.ends.0))
          (subst (λ t. IsToStay c.take_input.new.self.source idle t) (sym time)
          (subst (λ s. IsToStay s idle c.args.now) (sym apart.0) (stays_same idle c.args.now said.source said.waiting said.heard (inl more) stay)))) in
          (waiting_then served.waiting (waiting_then stayed.0 waiting), stayed.1);
      moves = λ no_feed goes_on some is none.
          let apart = c.take_input.ensures.apart (said.feeds ∙ no_feed) in
          let time = apart.1 ∙ ap (λ d. d.time) (c.say_more.ensures.desk ∙ c.note.ensures.desk ∙ c.begin.ensures) in
          let places = ap (λ s. s.places.items) apart.0 ∙ ap (λ s. s.places) said.source.servers in
          let idle = c.args.self.now.limits.screens.idle in
          let more : c.say_more.new.self.source.has_more ≡ c.args.self.now.source.has_more = c.say_more.ensures.more ∙ ap (λ s. s.has_more) (c.note.ensures.stays none) in
          away_still served.waiting.reach
          (c.follow.ensures.moves (sym (served.ends.1 ∙ c.follow.ensures.ends.1) ∙ goes_on) (λ none. some (sym places ∙ none))
          (subst (λ l. IsToMove c.take_input.new.self.source l.screens.idle c.take_input.new.self.desk.time) (sym (c.take_input.ensures.ends.limits ∙ said.ends.0))
          (subst (λ t. IsToMove c.take_input.new.self.source idle t) (sym time)
          (subst (λ s. IsToMove s idle c.args.now) (sym apart.0) (moves_same idle c.args.now said.source said.waiting said.heard more is)))));
      pauses = λ no_feed away more before.
          let apart = c.take_input.ensures.apart (said.feeds ∙ no_feed) in
          let time = apart.1 ∙ ap (λ d. d.time) (c.say_more.ensures.desk ∙ c.note.ensures.desk ∙ c.begin.ensures) in
          let waiting = subst (λ s. SameWaiting c.args.self.now.source s) (sym apart.0) said.waiting in
          let rests : c.take_input.new.self.source.has_more ≡ false = ap (λ s. s.has_more) apart.0 ∙ c.say_more.ensures.more ∙ c.note.ensures.rests away more in
          let paused = c.follow.ensures.pauses (waiting.reach ∙ away) rests
          (subst (λ t. t < c.take_input.new.self.source.upstream.since) (sym time) (subst (λ u. c.args.now < u.since) (sym waiting.upstream) before)) in
          (waiting_then served.waiting (waiting_then paused.0 waiting), paused.1);
      heeds = λ no_feed goes_on some reach event left newest waits.
          let apart = c.take_input.ensures.apart (said.feeds ∙ no_feed) in
          let time = apart.1 ∙ ap (λ d. d.time) (c.say_more.ensures.desk ∙ c.note.ensures.desk ∙ c.begin.ensures) in
          let places = ap (λ s. s.places.items) apart.0 ∙ ap (λ s. s.places) said.source.servers in
          let on = sym (served.ends.1 ∙ c.follow.ensures.ends.1) ∙ goes_on in
          let silent : c.note.new.self.screens.saying.waits ≡ None = ap (λ s. s.waits) c.note.ensures.waits ∙ ap (λ s. s.saying.waits) c.begin_turn-had_more.ensures.exact ∙ waits in
          let same = c.say_more.ensures.nothing silent in
          let more : c.take_input.new.self.source.has_more ≡ true = ap (λ s. s.has_more) apart.0 ∙ ap (λ l. l.source.has_more) same ∙ c.note.ensures.wakes event reach in
          let said_now : c.take_input.new.self.screens.saying.waits ≡ None = ap (λ s. s.saying.waits) (c.take_input.ensures.nothing (said.feeds ∙ no_feed) on) ∙ ap (λ l. l.screens.saying.waits) same ∙ silent in
          let waiting = subst (λ s. SameWaiting c.args.self.now.source s) (sym apart.0) said.waiting in
          let source = subst (λ s. SameSource c.args.self.now.source s) (sym apart.0) said.source in
          let idle = c.args.self.now.limits.screens.idle in
          heeds_link_same source refl refl
          (c.follow.ensures.heeds on (λ none. some (sym places ∙ none)) (λ away. reach (sym source.reach ∙ away)) more
          (subst (λ l. IsToStay c.take_input.new.self.source l.screens.idle c.take_input.new.self.desk.time) (sym (c.take_input.ensures.ends.limits ∙ said.ends.0))
          (subst (λ t. IsToStay c.take_input.new.self.source idle t) (sym time)
          (stays_awake idle c.args.now waiting (ap (λ s. s.is_heard) apart.0 ∙ said.heard) more left newest))) said_now);
      takes = c.next.ensures.takes;
      over = c.next.ensures.over;
    }
