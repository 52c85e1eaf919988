use Rattle.std.proofs.Common.{ap, ◌∙◌}
use Rattle.clap.specs.Simple.{app_of_fields}
use Rattle.feed_arguments.proofs.words.line.command.Goals as goal

pub returns : goal.returns
returns c = λ rules e.
    c.add_options.ensures _ rules (ap app_of_fields c.about.ensures ∙ c.new.ensures.app) e
