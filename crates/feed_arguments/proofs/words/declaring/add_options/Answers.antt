use Rattle.std.proofs.Common.{◌≡◌, ◌∙◌, ap, ap₂, sym, subst, IfOk, List, fold, map, drop, length, rules, ◌<◌, ◌≤◌, ◌+◌}
use Rattle.std.proofs.lemmas.List.{at_drop_all, at_drop_more}
use Rattle.clap.specs.Words.{app_of, with_rule}
use Rattle.feed_arguments.specs.Declaring.{rule_by}
use Rattle.feed_arguments.specs.declared.words.declaring.Declared.{Declared}
use Rattle.feed_arguments.proofs.words.declaring.add_options.Goals as goal

pub loop-declared-preserved : goal.loop-declared-preserved
loop-declared-preserved c =
    let left : List Declared = drop (c.loop-declared.declared-index + 1) c.args.options.now in
    let so_far = app_of c.loop-declared.command in
    let is_left : c.loop-declared.declared-index < length c.args.options.now = search rules in
    let one_more = c.in_ok-command-2.ensures.shape c.in_ok-option.ensures.local
    ∙ ap (with_rule so_far) c.in_ok-option.ensures.rule in
    ap (λ app. fold with_rule app (map rule_by left)) one_more
    ∙ sym (at_drop_more (λ options. fold with_rule so_far (map rule_by options)) c.args.options.now
    c.loop-declared.declared-index _ is_left)
    ∙ c.loop-declared.invariant

pub returns : goal.returns
returns c =
    λ app rules is e.
    let before : app_of c.in_ok-command.command ≡ app =
    subst (λ r. IfOk r (λ k. app_of k ≡ app)) c.in_ok-command.was is in
    let so_far = app_of c.loop-declared.command in
    let are_all : length c.args.options.now ≤ c.loop-declared.declared-index = search in
    sym (at_drop_all (λ options. fold with_rule so_far (map rule_by options)) c.args.options.now
    c.loop-declared.declared-index are_all)
    ∙ c.loop-declared.invariant ∙ ap₂ (fold with_rule) before e
