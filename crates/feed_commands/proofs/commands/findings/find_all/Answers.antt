use Rattle.feed_commands.proofs.FindingsLemmas.{starts_with_none, one_more, all_taken, repeats_fit, tokenless_fit, older_fit, misnamed_fit, stops_at}
use Rattle.feed_commands.proofs.commands.findings.find_all.Goals as goal

pub lines-init : goal.lines-init
lines-init c =
    starts_with_none c.args.bytes.now _ c.new-reader.ensures.lines c.new-reader.ensures.seen c.new-reader.ensures.has_token c.new-reader.ensures.repeats c.new-reader.ensures.tokenless c.new-reader.ensures.older c.new-reader.ensures.misnamed

pub read-requires-clause-repeats : goal.read-requires-clause-repeats
read-requires-clause-repeats c = repeats_fit c.args.bytes.now c.lines.rest.now c.lines.reader c.lines.invariant

pub read-requires-clause-tokenless : goal.read-requires-clause-tokenless
read-requires-clause-tokenless c = tokenless_fit c.args.bytes.now c.lines.rest.now c.lines.reader c.lines.invariant

pub read-requires-clause-older : goal.read-requires-clause-older
read-requires-clause-older c = older_fit c.args.bytes.now c.lines.rest.now c.lines.reader c.lines.invariant

pub read-requires-clause-misnamed : goal.read-requires-clause-misnamed
read-requires-clause-misnamed c = misnamed_fit c.args.bytes.now c.lines.rest.now c.lines.reader c.lines.invariant

pub lines-preserved : goal.lines-preserved
lines-preserved c =
    one_more c.args.bytes.now c.lines.rest.now c.in-Some.line.now c.in-Some.behind.now c.lines.reader c.read.new.self c.lines.invariant c.in-Some.ensures.some.0 c.in-Some.ensures.some.1 c.in-Ok.ensures.ok

pub returns-in-Err-clause-err : goal.returns-in-Err-clause-err
returns-in-Err-clause-err c =
    λ ne. stops_at c.args.bytes.now c.lines.rest.now c.in-Some.line.now c.in-Some.behind.now c.lines.reader _ c.lines.invariant c.in-Some.ensures.some.0 c.in-Some.ensures.some.1 (c.in-Err.ensures.err ne)

pub returns-clause-ok : goal.returns-clause-ok
returns-clause-ok c = all_taken c.args.bytes.now c.lines.rest.now c.lines.reader c.lines.invariant c.in_default.ensures.none
