use Rattle.std.proofs.Common.{rules, ◌≡◌, refl, sym, ap, ◌∙◌, subst, ◌++◌, ◌∷◌, [], None, Some, lit<}
use Rattle.std.proofs.lemmas.Str.Pattern.{strip_prefix_char, strip_suffix_char}
use Rattle.feed_arguments.proofs.AddressLemmas.{same_cut}
use Rattle.feed_arguments.proofs.UrlLemmas.{lacks_nil}
use Rattle.feed_arguments.specs.Listening.{IsV6}
use Rattle.feed_arguments.proofs.listening.in_brackets.Goals as goal

pub returns-in_err-opened-clause-none : goal.returns-in_err-opened-clause-none
returns-in_err-opened-clause-none c =
    λ _ address is. strip_prefix_char 91 c.args.written.now None c.in_err-opened.ensures.cases (lit< tt)
    (address ++ 93 ∷ []) is.0

pub returns-in_err-address-clause-none : goal.returns-in_err-address-clause-none
returns-in_err-address-clause-none c =
    let opened = strip_prefix_char 91 c.args.written.now (Some c.in_ok-opened.opened) c.in_ok-opened.ensures.cases
    (lit< tt) in
    λ _ address is.
    let rest : c.in_ok-opened.opened.now ≡ address ++ 93 ∷ [] = cc in
    strip_suffix_char 93 c.in_ok-opened.opened.now None c.in_err-address.ensures.cases (lit< tt) address rest

pub returns-then-is_v6-clause-some : goal.returns-then-is_v6-clause-some
returns-then-is_v6-clause-some c =
    let opened = strip_prefix_char 91 c.args.written.now (Some c.in_ok-opened.opened) c.in_ok-opened.ensures.cases
    (lit< tt) in
    let closed = strip_suffix_char 93 c.in_ok-opened.opened.now (Some c.in_ok-address.address)
    c.in_ok-address.ensures.cases (lit< tt) in
    (opened ∙ ap (λ l. 91 ∷ l) closed, c.is_v6.ensures.yes (search rules))

pub returns-else-is_v6-clause-none : goal.returns-else-is_v6-clause-none
returns-else-is_v6-clause-none c =
    let opened = strip_prefix_char 91 c.args.written.now (Some c.in_ok-opened.opened) c.in_ok-opened.ensures.cases
    (lit< tt) in
    let closed = strip_suffix_char 93 c.in_ok-opened.opened.now (Some c.in_ok-address.address)
    c.in_ok-address.ensures.cases (lit< tt) in
    λ _ address is.
    let rest : c.in_ok-opened.opened.now ≡ address ++ 93 ∷ [] = cc in
    let same = (same_cut 93 address [] c.in_ok-address.address.now [] (sym rest ∙ closed) (lacks_nil 93) (lacks_nil 93)).0 in
    c.is_v6.ensures.no (search rules) (subst IsV6 same is.1)
