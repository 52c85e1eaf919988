use Rattle.std.proofs.Common.{rules, ◌≡◌, refl, sym, ap, ◌∙◌, subst, ◌∷◌, ◌++◌, None, Some, lit<, drop, take}
use Rattle.std.proofs.lemmas.List.{take-append-drop}
use Rattle.std.proofs.lemmas.Str.Pattern.{find_char, drop_at_char, NoCharPasses-char}
use Rattle.feed_arguments.specs.FeedUrl.{Lacks}
use Rattle.feed_arguments.proofs.url.cut.Goals as goal

pub returns-in_err-at-clause-none : goal.returns-in_err-at-clause-none
returns-in_err-at-clause-none c =
    λ _. find_char 47 c.args.rest.now None c.in_err-at.ensures.cases (lit< tt)

pub returns-clause-some : goal.returns-clause-some
returns-clause-some c =
    let found = c.in_ok-at.ensures.cases in
    let at = c.in_ok-at.at in
    let later = drop found.0 c.args.rest.now in
    let front = c.split_at.ensures.front in
    let back = c.split_at.ensures.back in
    record {
      is = sym (take-append-drop at c.args.rest.now) ∙ (λ k. sym front k ++ sym back k);
      before = subst (Lacks 47) (sym front) (λ i inside. NoCharPasses-char 47 _ i found.1.0 (lit< tt) inside);
      rooted = (later, back ∙ drop_at_char 47 c.args.rest.now at found.0 found.1.1 (lit< tt));
    }
