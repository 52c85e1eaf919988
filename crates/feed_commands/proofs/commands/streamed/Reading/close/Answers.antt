use Rattle.std.proofs.Common.{rules, arith, ◌≡◌, sym, ◌∙◌, [], true}
use Rattle.std.proofs.lemmas.Result.{on_ok_weaker, IfErr-weaker}
use Rattle.feed_commands.proofs.StreamedLemmas.{closed_readable, closed_stops}
use Rattle.feed_commands.proofs.commands.streamed.Reading.close.Goals as goal

pub returns-clause-ok : goal.returns-clause-ok
returns-clause-ok c text h none =
    on_ok_weaker c.end_line.result (λ t. closed_readable true text c.end_line.new.self t) (c.end_line.ensures.ok true text h)

pub returns-clause-err : goal.returns-clause-err
returns-clause-err c verbose text h =
    let given : c.args.self.now.tally.verbose ≡ true = search rules in
    let none : c.args.self.now.tally.counts.notes ≡ 0 = omega (arith, c.if-self-gt0.false) in
    IfErr-weaker c.end_line.result _ _ (λ fault stops other. (sym h.verbose_is ∙ given, none, closed_stops text fault.line fault.stop (stops other)))
    (c.end_line.ensures.err verbose text [] h)
