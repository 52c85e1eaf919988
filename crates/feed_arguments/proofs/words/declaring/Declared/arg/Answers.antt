use Rattle.std.proofs.lemmas.Result.{IfOk-weaker}
use Rattle.feed_arguments.proofs.DeclaringLemmas.{excludes_is, free_is, needs_is, replaces_is, unless_is}
use Rattle.feed_arguments.proofs.words.declaring.Declared.arg.Goals as goal

pub returns-in-Free : goal.returns-in-Free
returns-in-Free c = free_is c.args.self _ c.in-Free.is c.untied-option.ensures.rule c.untied-option.ensures.local

pub returns-in-Needs : goal.returns-in-Needs
returns-in-Needs c =
    IfOk-weaker c.requires_arg.result _ _
    (λ option adds. needs_is c.args.self c.untied-option.result option _ c.in-Needs.is c.untied-option.ensures.rule
    c.untied-option.ensures.local adds)
    c.requires_arg.ensures

pub returns-in-Unless : goal.returns-in-Unless
returns-in-Unless c =
    IfOk-weaker c.required_unless_present.result _ _
    (λ option adds. unless_is c.args.self c.untied-option.result option _ c.in-Unless.is c.untied-option.ensures.rule
    c.untied-option.ensures.local adds)
    c.required_unless_present.ensures

pub returns-in-Excludes : goal.returns-in-Excludes
returns-in-Excludes c =
    IfOk-weaker c.conflicts_with.result _ _
    (λ option adds. excludes_is c.args.self c.untied-option.result option _ c.in-Excludes.is
    c.untied-option.ensures.rule c.untied-option.ensures.local adds)
    c.conflicts_with.ensures

pub returns-in-Replaces : goal.returns-in-Replaces
returns-in-Replaces c =
    IfOk-weaker c.replacing.result _ _
    (λ option adds. replaces_is c.args.self c.untied-option.result option _ _ c.in-Replaces.is
    c.untied-option.ensures.rule c.untied-option.ensures.local adds)
    c.replacing.ensures
