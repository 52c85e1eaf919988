use Rattle.std.proofs.Common.{rules, ◌≡◌, sym, subst, Some}
use Rattle.std.proofs.lemmas.Option.{IfSome_then}
use Rattle.clap.specs.Words.{found_of, rows_of}
use Rattle.feed_arguments.specs.Live.{IsOf, IsOfUrl}
use Rattle.feed_arguments.proofs.words.followed.feed_followed.Goals as goal

pub returns-in-Some-clause-some : goal.returns-in-Some-clause-some
returns-in-Some-clause-some c =
    let rows = rows_of (found_of c.args.matches.now) in
    IfSome_then c.followed_by_url.result c.followed_by_url.ensures.some
    (λ f is. subst (λ url. IsOf rows url f.contest.now f.upstream) (sym c.in-Some.ensures) is)

pub returns-in-Some-clause-none : goal.returns-in-Some-clause-none
returns-in-Some-clause-none c =
    let rows = rows_of (found_of c.args.matches.now) in
    λ none name upstream is. c.followed_by_url.ensures.none none name upstream
    (subst (λ url. IsOf rows url name upstream) c.in-Some.ensures is)
