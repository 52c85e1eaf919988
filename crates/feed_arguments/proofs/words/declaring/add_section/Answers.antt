use Rattle.std.proofs.Common.{ap, subst, IfOk, ◌∙◌, ◌≡◌}
use Rattle.clap.specs.Words.{app_of}
use Rattle.clap.specs.Simple.{app_of_fields}
use Rattle.feed_arguments.proofs.words.declaring.add_section.Goals as goal

pub returns : goal.returns
returns c =
    λ app rules is e.
    let before : app_of c.in_ok-command.field-0 ≡ app =
    subst (λ r. IfOk r (λ k. app_of k ≡ app)) c.in_ok-command.was is in
    c.add_options.ensures app rules (ap app_of_fields c.next_help_heading-command.ensures ∙ before) e
