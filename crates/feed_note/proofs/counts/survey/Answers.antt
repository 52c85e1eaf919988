use Rattle.std.proofs.Common.{ap, ◌+◌, [], ◌∷◌, ◌++◌}
use Rattle.feed_note.proofs.ReadSoFar.{more, stops}
use Rattle.feed_note.proofs.Counting.{counts_more, counted}
use Rattle.feed_note.specs.declared.counts.Counts.{Counts}
use Rattle.feed_note.proofs.counts.survey.Goals as goal

pub lines-preserved : goal.lines-preserved
lines-preserved c =
    let so_far = c.lines.invariant in
    let takes = rw c.in-Ok-Some.field-0-is at c.in-Ok-Some.ensures.some in
    record {
      notes = so_far.notes ++ c.in-Ok-Some.note ∷ [];
      so_far = more c.args.bytes.now c.lines.rest.now c.in-Ok-Some.behind.now so_far.notes c.in-Ok-Some.note so_far.so_far takes;
      counts = counts_more so_far.notes c.in-Ok-Some.note c.lines.counts c.add.new.self so_far.counts c.add.ensures;
    }

pub returns-in-Ok-None-clause-ok : goal.returns-in-Ok-None-clause-ok
returns-in-Ok-None-clause-ok c =
    let so_far = c.lines.invariant in
    counted c.args.bytes.now c.lines.rest.now so_far.notes c.lines.counts so_far.so_far so_far.counts (rw c.in-Ok-None.field-0-is at c.in-Ok-None.ensures.none)

pub returns-in-Err-clause-err : goal.returns-in-Err-clause-err
returns-in-Err-clause-err c = λ ne. stops c.args.bytes.now c.lines.rest.now c.lines.invariant.notes (c.lines.counts.lines + 1) _ c.lines.invariant.so_far (ap (λ (k : Counts). k.lines + 1) c.lines.invariant.counts) (c.in-Err.ensures.err ne)
