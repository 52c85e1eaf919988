use Rattle.std.proofs.Common.{ap₂, ◌∙◌, ◌++◌}
use Rattle.feed_commands.proofs.commands.findings.findings_lines.Goals as goal

pub returns : goal.returns
returns c =
    c.in_ok-push_str-3.ensures.bytes
    ∙ ap₂ (λ a b. a ++ b)
    (c.in_ok-push_str-2.ensures.bytes
    ∙ ap₂ (λ a b. a ++ b)
    (c.in_ok-push_str.ensures.bytes ∙ ap₂ (λ a b. a ++ b) c.in_ok-text.ensures (c.as_str.ensures.value ∙ c.in_ok-line.ensures))
    (c.as_str-2.ensures.value ∙ c.in_ok-line-2.ensures))
    (c.as_str-3.ensures.value ∙ c.in_ok-line-3.ensures)
