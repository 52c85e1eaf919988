use Rattle.std.proofs.Common.{rules, ap, ◌∙◌, Some}
use Rattle.feed_records.specs.Connections.{status_in}
use Rattle.feed_records.proofs.EndedLines.{tail_is}
use Rattle.feed_records.proofs.Openings.{status_hit, status_miss, status_none}
use Rattle.feed_records.proofs.connections.find_status.Goals as goal

pub returns-then-ends_head_line-clause-some : goal.returns-then-ends_head_line-clause-some
returns-then-ends_head_line-clause-some c =
    c.bytes.invariant ∙ status_hit c.bytes.rest.now (search rules) ∙ ap Some (tail_is 5 c.bytes.rest.now)

pub bytes-preserved : goal.bytes-preserved
bytes-preserved c =
    c.bytes.invariant ∙ status_miss c.bytes.rest.now (search rules) ∙ ap status_in (tail_is 1 c.bytes.rest.now)

pub returns-clause-none : goal.returns-clause-none
returns-clause-none c = c.bytes.invariant ∙ status_none c.bytes.rest.now (search rules)
