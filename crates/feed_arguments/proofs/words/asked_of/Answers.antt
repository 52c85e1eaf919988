use Rattle.std.proofs.Common.{rules, ap, sym, subst, ◌≡◌, ◌∙◌, codes, map, option_map, Some}
use Rattle.std.proofs.lemmas.Result.{err_from_is_err_and}
use Rattle.clap.specs.Words.{is_simple, kind_of, subcommand_of, subcommand_rows_of, takes}
use Rattle.feed_arguments.specs.Words.{AsksAt, RefusesBy, command_line}
use Rattle.feed_arguments.proofs.WordsLemmas.{line_is_simple, live_is_not_taken, refused_by}
use Rattle.feed_arguments.proofs.words.asked_of.Goals as goal

pub returns-in_err-matches-clause-err : goal.returns-in_err-matches-clause-err
returns-in_err-matches-clause-err c =
    λ is.
    let words = map (λ word. word.now) c.args.words.now in
    let p = err_from_is_err_and c.from_residual.result c.from_residual.ensures.1 in
    rw (p.1, p.2) (refused_by words (kind_of c.in_err-matches.field-0.0)
    (λ taken. c.in_err-matches.ensures.passes (ap (λ a. takes a words) is ∙ taken)))

pub returns-in-Some-clause-ok : goal.returns-in-Some-clause-ok
returns-in-Some-clause-ok c =
    λ is.
    let words = map (λ word. word.now) c.args.words.now in
    let found = c.in_ok-matches.ensures.ok.2 (ap is_simple is ∙ line_is_simple) in
    let entered : subcommand_rows_of c.in_ok-matches.matches ≡ subcommand_of command_line words =
    found.1 ∙ ap (λ a. subcommand_of a words) is in
    subst (λ e. AsksAt e c.in-Some.request) entered c.in-Some.ensures.some

pub returns-clause-err : goal.returns-clause-err
returns-clause-err c =
    λ is.
    let words = map (λ word. word.now) c.args.words.now in
    let found = c.in_ok-matches.ensures.ok.2 (ap is_simple is ∙ line_is_simple) in
    let entered : subcommand_rows_of c.in_ok-matches.matches ≡ subcommand_of command_line words =
    found.1 ∙ ap (λ a. subcommand_of a words) is in
    subst (RefusesBy words) (sym c.in_ok-error-in-None.ensures) (λ taken asked asks.
    let is_live = c.request_entered.ensures.none (search rules) asked (subst (λ e. AsksAt e asked) (sym entered) asks)
    in
    live_is_not_taken words (subst (λ e. option_map (λ p. p.0) e ≡ Some (codes "live")) entered is_live) taken)
