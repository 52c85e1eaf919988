use Rattle.std.proofs.Common.{◌≡◌, ◌∙◌, refl, ap, sym, subst, [], ◌≤◌}
use Rattle.std.specs.Prelude.{Contains, IfSome, false, true}
use Rattle.feed_files.specs.Saved.{EndsAsRecorded}
use Rattle.feed_node.specs.Mirroring.{StandsAt, present_opening}
use Rattle.feed_live.specs.States.{states_of}
use Rattle.feed_live.specs.Times.{AreBy}
use Rattle.feed_files.proofs.InputLemmas.{takes_so, takes_nothing}
use Rattle.feed_live.proofs.RelayLemmas.{among_shown, with_same, with_screens, shows_still, servers_are}
use Rattle.feed_live.proofs.TurnLemmas.{with_begun, input_begun}
use Rattle.feed_live.proofs.turn.Live.new.Goals as goal

pub returns : goal.returns
returns g c =
    record {
      relaying = λ limits log servers exchanges sockets places identity some bounds at blank_at closed.
          let no : c.are_none-feeds.result ≡ false = c.are_none-feeds.ensures.some (λ none. some (sym c.deref.ensures.value ∙ none)) in (
            no,
            (
              (c.begin_input.ensures.same no).servers ∙ servers_are c.new-source.result servers (ap (λ p. p.items) c.new-source.ensures.places ∙ sym places) (c.new-source.ensures.identity ∙ sym identity),
              with_screens limits log servers exchanges (λ shows serving. c.relay.ensures.serving (states_of limits log) _ sockets
                  (subst (λ n. Contains (states_of limits log) n) (sym c.node-2.ensures) (among_shown limits log shows)) serving)
                  (with_same limits log servers (c.begin_input.ensures.same no) exchanges _ _ (c.begin_input.ensures.same no).rest
                  (with_begun limits log servers exchanges c.new-source.result _ _ c.new-source.ensures.shown c.new-source.ensures.blank c.new-source.ensures.follower c.new-source.ensures.reach
                  bounds at blank_at (c.new-screens.ensures.serving (states_of limits log) _ sockets closed))),
            ),
          );
      taking = λ limits log sockets none bounds at blank_at closed.
          let yes' : c.are_none-feeds.result ≡ true = c.are_none-feeds.ensures.none (c.deref.ensures.value ∙ none) in
          let begins = c.begin_input.ensures.begins yes' in
          record {
            no_places = ap (λ s. s.places) begins.servers ∙ ap (λ p. p.items) c.new-source.ensures.places ∙ none;
            shows = λ honest.
                let shows = input_begun limits log _ _ begins c.new-source.ensures.shown c.new-source.ensures.blank bounds at blank_at (c.new-screens.ensures.serving (states_of limits log) _ sockets closed) in
                shows_still limits log (λ serving. c.relay.ensures.serving (states_of limits log) _ sockets
                (subst (λ n. Contains (states_of limits log) n) (sym c.node-2.ensures) (among_shown limits log shows)) serving) shows;
            takes = λ feeds. takes_so (begins.rest ∙ c.new-source.ensures.rest) refl (takes_nothing (subst (λ m. StandsAt (present_opening m) [] [] c.begin_input.new.self.answers.shown.mirror) c.new-source.ensures.shown begins.stands));
          };
      kept = λ nodes text written known good.
          c.saved_of-saved.ensures.kept nodes text written known (subst (λ n. IfSome c.args.start.restored.file (EndsAsRecorded nodes text n)) (sym c.node.ensures.node) good);
      had = c.saved_of-saved.ensures.had;
      contest = refl;
      feeds = λ none. c.are_none-feeds.ensures.none (c.deref.ensures.value ∙ none);
      shown = c.begin_input.ensures.node ∙ ap (λ m. m.node) c.new-source.ensures.shown;
      most = c.relay.ensures.most ∙ c.new-screens.ensures.most;
      limits = refl;
      goes_on = refl;
      stores = c.saved_of-saved.ensures.stores;
      at_once = c.saved_of-saved.ensures.at_once;
      reported = refl;
      connects = ap (λ u. u.since) c.begin_input.ensures.upstream ∙ c.new-source.ensures.due ∙ c.new-desk.ensures.time;
      round = ap (λ u. u.places) c.begin_input.ensures.upstream ∙ c.new-source.ensures.round;
      heard = λ shown some old. c.begin_input.ensures.heard ∙ c.new-source.ensures.heard shown some old;
      times = λ latest by.
          subst (AreBy latest) (sym c.begin_input.ensures.times.times) (c.new-source.ensures.times latest (subst (λ t. t ≤ latest) (sym c.new-desk.ensures.time) by));
      rests = c.begin_input.ensures.times.rests (λ away. c.new-source.ensures.rests);
      away = c.begin_input.ensures.reach ∙ c.new-source.ensures.reach;
      settles = (
        ap (λ s. s.pause) c.begin_input.ensures.settling ∙ c.new-source.ensures.settles.0,
        ap (λ s. s.is_always) c.begin_input.ensures.settling ∙ c.new-source.ensures.settles.1,
        ap (λ s. s.serves_broken) c.begin_input.ensures.settling ∙ c.new-source.ensures.settles.2,
      );
    }
