use Rattle.std.proofs.Common.{inl, refl}
use Rattle.feed_screens.proofs.ServingLemmas.{serving_noted}
use Rattle.feed_live.proofs.TurnLemmas.{same_none, waiting_none}
use Rattle.feed_live.proofs.turn.Live.report.Goals as goal

pub returns-in-Some-clause-serves : goal.returns-in-Some-clause-serves
returns-in-Some-clause-serves c =
    λ sockets. record {
      contest = refl;
      ends = (refl, refl);
      feeds = refl;
      source = same_none c.args.self.now.source;
      waiting = waiting_none c.args.self.now.source;
      heard = refl;
      epoch = refl;
      rests = λ rest. rest;
      more = λ there. inl refl;
      serves = λ nodes shown blank serving. serving_noted c.report.ensures.same serving;
    }

pub returns-in_default-clause-serves : goal.returns-in_default-clause-serves
returns-in_default-clause-serves c =
    λ sockets. record {
      contest = refl;
      ends = (refl, refl);
      feeds = refl;
      source = same_none c.args.self.now.source;
      waiting = waiting_none c.args.self.now.source;
      heard = refl;
      epoch = refl;
      rests = λ rest. rest;
      more = λ there. inl refl;
      serves = λ nodes shown blank serving. serving_noted c.report.ensures.same serving;
    }
