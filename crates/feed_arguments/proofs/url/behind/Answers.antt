use Rattle.std.proofs.Common.{rules, ◌≡◌, refl, sym, ap, ◌∙◌, ◌∷◌, ◌++◌, List, ℕ, None, Some, lit<, map}
use Rattle.std.specs.Char.{to_ascii_lowercase}
use Rattle.std.proofs.lemmas.Str.Pattern.{split_parts, split_after, strip_prefix_char}
use Rattle.feed_arguments.proofs.AddressLemmas.{not_in}
use Rattle.feed_arguments.proofs.url.behind.Goals as goal

pub returns-in_err-written-clause-none : goal.returns-in_err-written-clause-none
returns-in_err-written-clause-none c =
    λ _ rest is. not_in 58 c.args.text.now is.written (47 ∷ 47 ∷ rest)
    (split_parts 58 c.args.text.now None c.in_err-written.ensures.cases (lit< tt)) is.is

pub returns-then-not-eq_ignore_ascii_case-clause-none : goal.returns-then-not-eq_ignore_ascii_case-clause-none
returns-then-not-eq_ignore_ascii_case-clause-none c =
    λ _ rest is.
    let cut = split_after 58 c.args.text.now is.written (47 ∷ 47 ∷ rest)
    (Some (c.in_ok-written.written, c.in_ok-written.slashes)) c.in_ok-written.ensures.cases (lit< tt) is.is is.letters in
    let same = ap (map to_ascii_lowercase) cut.0 ∙ is.same in
    let test = c.eq_ignore_ascii_case.ensures.test.1 same in
    absurd (cc)

pub returns-in_err-slashed-clause-none : goal.returns-in_err-slashed-clause-none
returns-in_err-slashed-clause-none c =
    λ _ rest is.
    let cut = split_after 58 c.args.text.now is.written (47 ∷ 47 ∷ rest)
    (Some (c.in_ok-written.written, c.in_ok-written.slashes)) c.in_ok-written.ensures.cases (lit< tt) is.is is.letters in
    strip_prefix_char 47 c.in_ok-written.slashes.now None c.in_err-slashed.ensures.cases (lit< tt) (47 ∷ rest) cut.1

pub returns-in_err-rest-clause-none : goal.returns-in_err-rest-clause-none
returns-in_err-rest-clause-none c =
    λ _ rest is.
    let cut = split_after 58 c.args.text.now is.written (47 ∷ 47 ∷ rest)
    (Some (c.in_ok-written.written, c.in_ok-written.slashes)) c.in_ok-written.ensures.cases (lit< tt) is.is is.letters in
    let slash = strip_prefix_char 47 c.in_ok-written.slashes.now (Some c.in_ok-slashed.slashed)
    c.in_ok-slashed.ensures.cases (lit< tt) in
    let left : c.in_ok-slashed.slashed.now ≡ 47 ∷ rest = cc in
    strip_prefix_char 47 c.in_ok-slashed.slashed.now None c.in_err-rest.ensures.cases (lit< tt) rest left

pub returns-clause-some : goal.returns-clause-some
returns-clause-some c =
    let cut = split_parts 58 c.args.text.now (Some (c.in_ok-written.written, c.in_ok-written.slashes))
    c.in_ok-written.ensures.cases (lit< tt) in
    let first = strip_prefix_char 47 c.in_ok-written.slashes.now (Some c.in_ok-slashed.slashed)
    c.in_ok-slashed.ensures.cases (lit< tt) in
    let second = strip_prefix_char 47 c.in_ok-slashed.slashed.now (Some c.in_ok-rest.rest)
    c.in_ok-rest.ensures.cases (lit< tt) in
    record {
      written = c.in_ok-written.written.now;
      is = cut.0 ∙ ap (λ l. c.in_ok-written.written.now ++ 58 ∷ l) (first ∙ ap (λ l. 47 ∷ l) second);
      same = c.eq_ignore_ascii_case.ensures.test.0 (search rules);
      letters = cut.1;
    }
