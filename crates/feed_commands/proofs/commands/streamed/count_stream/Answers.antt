use Rattle.std.proofs.Common.{subst, sym}
use Rattle.feed_commands.specs.Fault.{fault_of_survey}
use Rattle.feed_commands.specs.Streamed.{IsAllTaken, ClosingFails, StreamFails}
use Rattle.feed_commands.proofs.StreamedLemmas.{stream_counted, closing_stops, told_fails}
use Rattle.feed_commands.proofs.commands.streamed.count_stream.Goals as goal

pub returns-clause-ok : goal.returns-clause-ok
returns-clause-ok g c =
    let all = subst (λ v. IsAllTaken v (g.R.FeedRead.remaining c.args.input.now) (g.R.FeedRead.remaining c.take_all.new.input) c.take_all.new.reading) c.new-reading.ensures.verbose_is c.in_default.ensures.ok in
    stream_counted c.args.options _ _ c.take_all.new.reading _ all (λ h none. c.in_default-close.ensures.ok _ h none) c.in_ok-text.ensures.plain c.in_ok-text.ensures.full

pub returns-in-Err-close-clause-err : goal.returns-in-Err-close-clause-err
returns-in-Err-close-clause-err g c =
    let all = subst (λ v. IsAllTaken v (g.R.FeedRead.remaining c.args.input.now) (g.R.FeedRead.remaining c.take_all.new.input) c.take_all.new.reading) c.new-reading.ensures.verbose_is c.in_default.ensures.ok in
    let a = g.R.FeedRead.remaining c.args.input.now in
    let b = g.R.FeedRead.remaining c.take_all.new.input in
    told_fails c.args.options.verbose (fault_of_survey c.in-Err-close.fault) c.reported-in-Err-close.result a b
    (λ h. c.reported-in-Err-close.ensures.fails a b (subst (λ w. StreamFails w a b) (sym c.from.ensures) h))
    (λ h. c.reported-in-Err-close.ensures.closing a b (subst (λ w. ClosingFails w a b) (sym c.from.ensures) h))
    (closing_stops c.args.options.verbose a b c.take_all.new.reading c.in-Err-close.fault all (c.in-Err-close.ensures.err c.args.options.verbose all.bytes all.taken))
