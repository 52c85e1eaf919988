use Rattle.std.proofs.Common.{refl, inl, inr, None, Some, lit<}
use Rattle.std.proofs.lemmas.Str.Pattern.{strip_suffix_char}
use Rattle.feed_arguments.proofs.url.without_end.Goals as goal

pub returns-in-Some : goal.returns-in-Some
returns-in-Some c = inl (strip_suffix_char 47 c.args.path.now (Some c.in-Some.path) c.in-Some.ensures.cases (lit< tt))

pub returns-in-None : goal.returns-in-None
returns-in-None c = inr (refl, strip_suffix_char 47 c.args.path.now None c.in-None.ensures.cases (lit< tt))
