use Rattle.std.proofs.Common.{rules, ap, sym, ◌∙◌, codes, ◌==◌}
use Rattle.std.specs.List.{starts_with}
use Rattle.feed_records.specs.Connections.{is_success}
use Rattle.feed_records.proofs.EndedLines.{tail_is}
use Rattle.feed_records.proofs.Openings.{success_hit, success_miss, success_none}
use Rattle.feed_records.proofs.connections.succeeds.Goals as goal

pub returns-then-rest-eq32 : goal.returns-then-rest-eq32
returns-then-rest-eq32 c =
    c.starts_with.ensures.value ∙ ap (λ t. starts_with (λ x y. x == y) t (codes "200")) (sym (tail_is 1 c.bytes.rest.now))
    ∙ sym (c.bytes.invariant ∙ success_hit c.bytes.rest.now (search rules))

pub bytes-preserved : goal.bytes-preserved
bytes-preserved c = c.bytes.invariant ∙ success_miss c.bytes.rest.now (search rules) ∙ ap is_success (tail_is 1 c.bytes.rest.now)

pub returns : goal.returns
returns c = sym (c.bytes.invariant ∙ success_none c.bytes.rest.now (search rules))
