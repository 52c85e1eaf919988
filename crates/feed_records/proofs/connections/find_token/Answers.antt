use Rattle.std.proofs.Common.{rules, ap, ◌∙◌, Some}
use Rattle.feed_records.specs.Connections.{since_in}
use Rattle.feed_records.proofs.EndedLines.{tail_is}
use Rattle.feed_records.proofs.Openings.{since_hit, since_miss, since_none}
use Rattle.feed_records.proofs.connections.find_token.Goals as goal

pub returns-then-says_token-clause-some : goal.returns-then-says_token-clause-some
returns-then-says_token-clause-some c =
    c.bytes.invariant ∙ since_hit c.bytes.rest.now (search rules) ∙ ap Some (tail_is 19 c.bytes.rest.now)

pub bytes-preserved : goal.bytes-preserved
bytes-preserved c =
    c.bytes.invariant ∙ since_miss c.bytes.rest.now (search rules) ∙ ap since_in (tail_is 1 c.bytes.rest.now)

pub returns-clause-none : goal.returns-clause-none
returns-clause-none c = c.bytes.invariant ∙ since_none c.bytes.rest.now (search rules)
