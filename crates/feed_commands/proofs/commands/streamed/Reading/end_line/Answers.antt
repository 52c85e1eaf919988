use Rattle.std.proofs.Common.{rules, ◌≡◌, ◌++◌}
use Rattle.std.proofs.lemmas.Result.{err_from_is_err_and}
use Rattle.feed_commands.proofs.StreamedLemmas.{stops_ended, taken_line}
use Rattle.feed_commands.proofs.commands.streamed.Reading.end_line.Goals as goal

pub returns-in_err-take-clause-err : goal.returns-in_err-take-clause-err
returns-in_err-take-clause-err c verbose text behind h =
    let p = err_from_is_err_and c.from_residual.result c.from_residual.ensures.1 in
    let line_is : c.as_slice.result.now ≡ c.args.self.now.left.items ++ c.args.end.now = search rules in
    rw (p.1, p.2) (λ other.
    let so = c.in_err-take.ensures.err other in
    stops_ended verbose text c.args.self.now h c.args.end.now c.requires.unbroken c.as_slice.result.now line_is behind _ _ so.1 so.0)

pub returns-clause-ok : goal.returns-clause-ok
returns-clause-ok c verbose text h =
    let line_is : c.as_slice.result.now ≡ c.args.self.now.left.items ++ c.args.end.now = search rules in
    taken_line verbose text c.args.self.now h c.args.end.now c.requires.unbroken c.as_slice.result.now line_is _ c.clear.ensures.items c.in_ok-take.ensures.ok
