use Rattle.std.proofs.Common.{rules, refl, false, MutBor}
use Rattle.std.proofs.lemmas.Result.{on_ok_weaker, on_err_weaker}
use Rattle.feed_commands.proofs.PrintingLemmas.{ended_ok, ended_err, listed_err}
use Rattle.feed_commands.specs.declared.printing.Waiting.{Waiting}
use Rattle.feed_commands.proofs.printing.print_lines.Goals as goal
use Rattle.feed_tables.proofs.Listers.{on_any_err}

pub returns-in_err-list-clause-prefix : goal.returns-in_err-list-clause-prefix
returns-in_err-list-clause-prefix g c =
    let contents = g.W.FeedWrite.contents in
    let failures = g.W.FeedWrite.failures in
    let device : MutBor g.row.W.Denot =
    record { ref_ptr = c.args.device.ref_ptr; ghost_name = c.printer-1.given; now = c.args.device.now } in
    let waiting : Waiting = record { bytes = c.new.result; has_failed = false } in
    on_any_err c.from_residual.result _ (listed_err contents failures device waiting c.args.tables.now.contents c.args.token.now c.new.ensures refl
    c.list.new.lister c.device-1.given.0 c.in_err-list.ensures.fails (search rules)).0

pub returns-in_err-list-clause-failed : goal.returns-in_err-list-clause-failed
returns-in_err-list-clause-failed g c =
    let contents = g.W.FeedWrite.contents in
    let failures = g.W.FeedWrite.failures in
    let device : MutBor g.row.W.Denot =
    record { ref_ptr = c.args.device.ref_ptr; ghost_name = c.printer-1.given; now = c.args.device.now } in
    let waiting : Waiting = record { bytes = c.new.result; has_failed = false } in
    on_any_err c.from_residual.result _ (listed_err contents failures device waiting c.args.tables.now.contents c.args.token.now c.new.ensures refl
    c.list.new.lister c.device-1.given.0 c.in_err-list.ensures.fails (search rules)).1

pub returns-clause-ok : goal.returns-clause-ok
returns-clause-ok g c =
    let contents = g.W.FeedWrite.contents in
    let failures = g.W.FeedWrite.failures in
    let device : MutBor g.row.W.Denot =
    record { ref_ptr = c.args.device.ref_ptr; ghost_name = c.printer-1.given; now = c.args.device.now } in
    let waiting : Waiting = record { bytes = c.new.result; has_failed = false } in
    on_ok_weaker c.end.result
    (λ ok. (ended_ok contents failures device waiting c.args.tables.now.contents c.args.token.now c.new.ensures refl
    c.list.new.lister c.end.new.self c.device-2-1.given.0
    c.in_ok-list.ensures.list c.end.ensures.prints c.end.ensures.none (search rules) ok).0)
    c.end.ensures.ok

pub returns-clause-quiet : goal.returns-clause-quiet
returns-clause-quiet g c =
    let contents = g.W.FeedWrite.contents in
    let failures = g.W.FeedWrite.failures in
    let device : MutBor g.row.W.Denot =
    record { ref_ptr = c.args.device.ref_ptr; ghost_name = c.printer-1.given; now = c.args.device.now } in
    let waiting : Waiting = record { bytes = c.new.result; has_failed = false } in
    on_ok_weaker c.end.result
    (λ ok. (ended_ok contents failures device waiting c.args.tables.now.contents c.args.token.now c.new.ensures refl
    c.list.new.lister c.end.new.self c.device-2-1.given.0
    c.in_ok-list.ensures.list c.end.ensures.prints c.end.ensures.none (search rules) ok).1)
    c.end.ensures.ok

pub returns-clause-prefix : goal.returns-clause-prefix
returns-clause-prefix g c =
    let contents = g.W.FeedWrite.contents in
    let failures = g.W.FeedWrite.failures in
    let device : MutBor g.row.W.Denot =
    record { ref_ptr = c.args.device.ref_ptr; ghost_name = c.printer-1.given; now = c.args.device.now } in
    let waiting : Waiting = record { bytes = c.new.result; has_failed = false } in
    on_err_weaker c.end.result
    (λ failed. (ended_err contents failures device waiting c.args.tables.now.contents c.args.token.now c.new.ensures refl
    c.list.new.lister c.end.new.self c.device-2-1.given.0
    c.in_ok-list.ensures.list c.end.ensures.prints c.end.ensures.none (search rules) failed).0)
    c.end.ensures.err

pub returns-clause-failed : goal.returns-clause-failed
returns-clause-failed g c =
    let contents = g.W.FeedWrite.contents in
    let failures = g.W.FeedWrite.failures in
    let device : MutBor g.row.W.Denot =
    record { ref_ptr = c.args.device.ref_ptr; ghost_name = c.printer-1.given; now = c.args.device.now } in
    let waiting : Waiting = record { bytes = c.new.result; has_failed = false } in
    on_err_weaker c.end.result
    (λ failed. (ended_err contents failures device waiting c.args.tables.now.contents c.args.token.now c.new.ensures refl
    c.list.new.lister c.end.new.self c.device-2-1.given.0
    c.in_ok-list.ensures.list c.end.ensures.prints c.end.ensures.none (search rules) failed).1)
    c.end.ensures.err
