use Rattle.std.proofs.Common.{rules, sym, ap, ◌∙◌, subst, inr, ◌<◌, ◌++◌, ◌∷◌, [], length, take, arith, length-append}
use Rattle.std.proofs.lemmas.List.{take_more, length-take-le}
use Rattle.feed_relay.specs.First.{AsksEach, none_asked, dialing}
use Rattle.feed_relay.specs.Dialing.{dialer_of}
use Rattle.feed_relay.proofs.FirstLemmas.{goes_on, stops_at}
use Rattle.feed_relay.proofs.first.follow_first.Goals as goal

pub servers-init : goal.servers-init
servers-init g c =
    let start = dialing c.args.mirror.now c.args.dial.now in
    record {
      goes = subst (λ l. AsksEach (dialer_of g.D.Dial g.D.Reader.FeedRead g.D.Writer.FeedWrite) c.args.most_reads start [] l start) (sym c.in_ok-attempts.ensures.items) none_asked;
      few = search rules;
      room = search rules;
      cut = λ none. none;
    }

pub returns-then-is_last-clause-followed : goal.returns-then-is_last-clause-followed
returns-then-is_last-clause-followed g c =
    let asked = c.ask_server-outcome.ensures.asked in
    let lt : c.servers.number < length c.args.servers.now = c.servers-test.true in
    inr (stops_at _ c.args.most_reads c.servers.number _ _ _ c.args.servers.now c.index-servers-number.result _ asked.0 _ _ c.servers.invariant.goes
    (length-take-le c.servers.number c.args.servers.now (omega (arith, lt)))
    (take_more c.args.servers.now c.servers.number _ lt ∙ ap (λ p. take c.servers.number c.args.servers.now ++ p ∷ []) (sym c.index-servers-number.is))
    asked.3 (sym c.is_last.ensures ∙ c.if-is_last.true) asked.1)

pub servers-preserved : goal.servers-preserved
servers-preserved g c =
    let asked = c.ask_server-outcome.ensures.asked in
    let lt : c.servers.number < length c.args.servers.now = c.servers-test.true in
    record {
      goes = goes_on _ c.args.most_reads c.servers.number _ _ _ c.args.servers.now c.index-servers-number.result _ asked.0 _ _ c.servers.invariant.goes
          (length-take-le c.servers.number c.args.servers.now (omega (arith, lt)))
          (take_more c.args.servers.now c.servers.number _ lt ∙ ap (λ p. take c.servers.number c.args.servers.now ++ p ∷ []) (sym c.index-servers-number.is))
          asked.3 (sym c.is_last.ensures ∙ c.if-is_last.false) asked.1;
      few = let a = c.servers.invariant.few in let b = ap length asked.1 ∙ length-append c.servers.attempts.items asked.0 in let d = asked.2 in omega (arith, a, b, d);
      room = let a = c.servers.invariant.room in let b = c.ask_server-outcome.ensures.capacity in omega (arith, a, b);
      cut = λ none. c.ask_server-outcome.ensures.cut (c.servers.invariant.cut none);
    }
