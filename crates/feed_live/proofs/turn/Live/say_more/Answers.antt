use Rattle.std.proofs.Common.{inl, refl, sym, ◌∙◌}
use Rattle.feed_live.proofs.turn.Live.say_more.Goals as goal

pub returns-then-says_now-clause-serves : goal.returns-then-says_now-clause-serves
returns-then-says_now-clause-serves c =
    λ sockets. record {
      contest = refl;
      ends = (refl, refl);
      feeds = refl;
      source = c.say_more.ensures.same;
      waiting = c.say_more.ensures.waits;
      heard = c.say_more.ensures.heard;
      epoch = c.say_more.ensures.epoch;
      rests = λ rest away. c.say_more.ensures.more ∙ rest (sym c.say_more.ensures.same.reach ∙ away);
      more = λ there. inl c.say_more.ensures.more;
      serves = λ nodes shown blank. c.say_more.ensures.serves nodes _ sockets shown;
    }
