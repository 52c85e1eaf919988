use Rattle.std.proofs.Common.{rules, ap, sym, ◌≡◌, ◌∙◌, List, Some, option_map}
use Rattle.std.proofs.lemmas.Option.{IfSome_then}
use Rattle.clap.specs.Words.{Row, Text, found_of, rows_of, subcommand_name_of, subcommand_rows_of}
use Rattle.feed_arguments.proofs.WordsLemmas.{asked_by, mapped, pair_of}
use Rattle.feed_arguments.proofs.words.asked.request_entered.Goals as goal

pub returns-clause-some : goal.returns-clause-some
returns-clause-some c =
    let m = c.args.matches.now in
    let name = c.in_ok-name.name.now in
    let rows = rows_of (found_of c.in_ok-name.options.now) in
    let named : Some name ≡ subcommand_name_of m = c.in_ok-name.ensures.name in
    let held : Some rows ≡ option_map (λ p. p.1) (subcommand_rows_of m) = c.in_ok-name.ensures.rows in
    let first : option_map (λ (p : Text × List Row). p.0) (subcommand_rows_of m) ≡ Some name =
    mapped (λ (p : Text × List Row). p.0) _ _ ∙ sym named in
    let is = pair_of (subcommand_rows_of m) name rows first (sym held) in
    IfSome_then c.request_named.result c.request_named.ensures.some
    (λ request by_it. record { name = name; rows = rows; is = is; by = by_it })

pub returns-clause-none : goal.returns-clause-none
returns-clause-none c =
    let m = c.args.matches.now in
    let name = c.in_ok-name.name.now in
    let rows = rows_of (found_of c.in_ok-name.options.now) in
    let named : Some name ≡ subcommand_name_of m = c.in_ok-name.ensures.name in
    let held : Some rows ≡ option_map (λ p. p.1) (subcommand_rows_of m) = c.in_ok-name.ensures.rows in
    let first : option_map (λ (p : Text × List Row). p.0) (subcommand_rows_of m) ≡ Some name =
    mapped (λ (p : Text × List Row). p.0) _ _ ∙ sym named in
    let is = pair_of (subcommand_rows_of m) name rows first (sym held) in
    λ e request asks. first ∙ ap Some (c.request_named.ensures.none (search rules) request
    (asked_by _ name rows request is asks)).0
