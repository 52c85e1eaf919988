-- The command so far, with the options that are left, is the one with all.
use Rattle.std.proofs.Common.{◌≡◌, fold, map, drop}
use Rattle.clap.specs.Words.{app_of, with_rule}
use Rattle.feed_arguments.specs.Declaring.{rule_by}
use Rattle.feed_arguments.proofs.words.declaring.add_options.Given as goal

abbrev pub invariant-loop-declared : goal.invariant-loop-declared
invariant-loop-declared l =
    fold with_rule (app_of l.command) (map rule_by (drop l.declared-index l.options))
    ≡ fold with_rule (app_of l.initial.command) (map rule_by l.options)
