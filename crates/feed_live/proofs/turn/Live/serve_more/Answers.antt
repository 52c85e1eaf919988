use Rattle.std.proofs.Common.{inl, subst, refl, sym, ◌∙◌}
use Rattle.std.proofs.lemmas.Bool.{not-true}
use Rattle.feed_screens.specs.Serving.{StillServing}
use Rattle.feed_live.proofs.turn.Live.serve_more.Goals as goal

pub returns-clause-serves : goal.returns-clause-serves
returns-clause-serves g c =
    record {
      contest = refl;
      ends = (refl, refl);
      feeds = refl;
      source = record { servers = refl; shown = c.serve_more.ensures.mirrors.shown; blank = c.serve_more.ensures.mirrors.blank; coming = refl; follower = refl; reach = refl; request = refl; rest = refl; opened = refl };
      waiting = record { leading = refl; patience = refl; settling = refl; rechecking = refl; upstream = refl; reach = refl; returning = refl; opened = refl; body_since = refl };
      heard = refl;
      epoch = refl;
      rests = λ rest. rest;
      more = λ there. inl refl;
      serves = λ nodes shown blank. subst (λ t. StillServing nodes t c.args.self.now.screens c.serve_more.new.self (g.S.Sockets.socket c.args.sockets.now) (g.S.Sockets.socket c.serve_more.new.sockets)) c.shown_of-shown.ensures.contest (c.serve_more.ensures.serving nodes shown (λ held. blank (not-true _ (sym c.shown_of-shown.ensures.held ∙ held))));
    }
