use Rattle.std.proofs.Common.{◌∙◌, None, [], arith, refl, sym, ap, subst}
use Rattle.feed_world.specs.Log.{Log}
use Rattle.feed_laws.specs.Laws.{IsInLog}
use Rattle.feed_device.specs.Files.{StateFiles, IsKnown}
use Rattle.feed_live.specs.Running.{servers_of_setup}
use Rattle.feed_live.specs.Taking.{IsTakingInput}
use Rattle.feed_live.proofs.starting.begin.Goals as goal

pub returns-clause-begins : goal.returns-clause-begins
returns-clause-begins g c =
    let kept = c.args.setup.kept in
    let blank = λ (log : Log). subst (λ m. IsInLog kept log m.node) (sym c.in_ok-blank.ensures) (None, tt, refl) in
    let same = c.in_ok-restored.ensures.same in
    record {
      contest = c.new-live.ensures.contest;
      relaying = λ log exchanges sockets some of_log unused.
          c.new-live.ensures.relaying kept log (servers_of_setup c.args.setup) exchanges sockets refl refl some
          c.in_ok-restored.ensures.limits (c.in_ok-restored.ensures.in_log log of_log) (blank log) unused;
      taking = λ log sockets none unused.
          let fresh = c.in_ok-restored.ensures.input none in
          subst (λ m. IsTakingInput kept log m [] c.new-live.result sockets) fresh
          (c.new-live.ensures.taking kept log sockets none c.in_ok-restored.ensures.limits
          (subst (λ m. IsInLog kept log m.node) (sym fresh) (None, tt, refl)) (blank log) unused);
      feeds = c.new-live.ensures.feeds;
      limits = c.new-live.ensures.limits;
      goes_on = c.new-live.ensures.goes_on;
      times = λ latest. c.new-live.ensures.times latest (omega arith);
      rests = c.new-live.ensures.rests;
      kept = λ log nodes of.
          c.new-live.ensures.kept nodes of.written.0 (ap (λ (f : StateFiles). f.written) same ∙ of.written.1)
          (subst (λ (f : StateFiles). IsKnown f.next) (sym same) of.next)
          (c.in_ok-restored.ensures.goes_on log nodes of.written.0 of.of_log of.written.1);
      had = c.new-live.ensures.had ∙ ap (λ (f : StateFiles). f.had) same;
    }
