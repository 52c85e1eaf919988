use Rattle.std.proofs.Common.{rules, refl, inl, inr, lit<}
use Rattle.std.proofs.lemmas.Str.Pattern.{contains_char}
use Rattle.feed_arguments.proofs.url.fault_of_server.Goals as goal

pub returns-then-contains : goal.returns-then-contains
returns-then-contains c =
    inl (refl, (contains_char 64 c.args.server.now c.contains.result c.contains.ensures.cases (lit< tt)).0 (search rules))

pub returns-else-contains : goal.returns-else-contains
returns-else-contains c =
    let has = contains_char 64 c.args.server.now c.contains.result c.contains.ensures.cases (lit< tt) in
    inr (refl, λ i inside e. let yes = has.1 i inside e in absurd (cc))
