use Rattle.std.proofs.Common.{◌∙◌, ◌++◌, sym, subst, ap, take}
use Rattle.feed_http.specs.HeadReading.{IsReadAsNeeded, IsEnough}
use Rattle.feed_hub.specs.Hub.{TakesOfHead, IsAnswered}
use Rattle.feed_hub.proofs.hub.connections.hear_more.Goals as goal

pub returns-clause-heard : goal.returns-clause-heard
returns-clause-heard c b same =
    let node = c.args.answering.now.mirror.node in
    let screen = c.in_ok-screen.screen in
    let status = c.in_ok-screen.heard.status in
    let taken = c.in_ok-taken.ensures.taken
    ∙ ap (λ n. c.args.asking.head.items ++ take n c.args.piece.now) (sym c.in_ok-screen.ensures.taken) in
    record {
      enough = subst IsEnough taken (c.in_ok-taken.ensures.enough c.if-not-is_enough.false);
      needed = λ r. subst IsReadAsNeeded taken (c.in_ok-taken.ensures.read r);
      answered = subst (λ h. IsAnswered h c.args.served.now.contest.now node b.framing c.args.served.now.time screen status) (c.head.ensures ∙ taken)
          (subst (λ f. IsAnswered c.head.result.now c.args.served.now.contest.now node f c.args.served.now.time screen status) (sym same) c.in_ok-screen.ensures.answers);
    }

pub returns-clause-takes : goal.returns-clause-takes
returns-clause-takes c =
    subst (λ n. TakesOfHead c.args.asking.head.items c.args.piece.now n) (sym c.in_ok-screen.ensures.taken) c.in_ok-taken.ensures.takes
