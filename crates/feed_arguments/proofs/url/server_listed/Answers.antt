use Rattle.std.proofs.Common.{rules, ◌≡◌, refl, sym, ◌∙◌, true, false}
use Rattle.std.specs.Prelude.{codes}
use Rattle.std.proofs.lemmas.Str.Pattern.{contains_text}
use Rattle.feed_arguments.proofs.url.server_listed.Goals as goal

pub returns-then-not-contains-clause-err : goal.returns-then-not-contains-clause-err
returns-then-not-contains-clause-err c = (
  c.address_of.ensures.none (search rules),
  λ has.
      let yes = (contains_text c.contains.result (codes "://") c.args.part.now c.contains.ensures.cases).1 has in
      absurd (cc),
)

pub returns-in-Err-clause-err : goal.returns-in-Err-clause-err
returns-in-Err-clause-err c =
    let has = (contains_text c.contains.result (codes "://") c.args.part.now c.contains.ensures.cases).0 (search rules) in
    (c.address_of.ensures.none (search rules), has, c.in-Err.ensures.err)
