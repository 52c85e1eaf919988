use Rattle.std.proofs.Common.{rules, ◌≡◌, inl, inr, true, false, lit<}
use Rattle.std.proofs.lemmas.Str.Pattern.{contains_char}
use Rattle.feed_arguments.proofs.url.is_plain.Goals as goal

pub returns-then-contains-clause-no : goal.returns-then-contains-clause-no
returns-then-contains-clause-no c =
    λ _. inl ((contains_char 63 c.args.rest.now c.contains.result c.contains.ensures.cases (lit< tt)).0 (search rules))

pub returns-then-contains-2-clause-no : goal.returns-then-contains-2-clause-no
returns-then-contains-2-clause-no c =
    λ _. inr ((contains_char 35 c.args.rest.now c.contains-2.result c.contains-2.ensures.cases (lit< tt)).0 (search rules))

pub returns-clause-yes : goal.returns-clause-yes
returns-clause-yes c =
    let first = contains_char 63 c.args.rest.now c.contains.result c.contains.ensures.cases (lit< tt) in
    let second = contains_char 35 c.args.rest.now c.contains-2.result c.contains-2.ensures.cases (lit< tt) in
    λ _. record {
      no_query = λ i inside e. let has = first.1 i inside e in absurd (cc);
      no_fragment = λ i inside e. let has = second.1 i inside e in absurd (cc);
    }
