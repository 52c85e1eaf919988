use Rattle.std.proofs.Common.{rules, arith}
use Rattle.std.proofs.lemmas.Grind.{common_steps}
use Rattle.json.specs.Text.{short_escape}
use Rattle.feed_text.proofs.escapes.short_meaning.Goals as goal

pub returns-in-34-clause-meaning : goal.returns-in-34-clause-meaning
unfolding short_escape
returns-in-34-clause-meaning c = first_of (search rules, grind (arith, common_steps))

pub returns-in-98-clause-meaning : goal.returns-in-98-clause-meaning
unfolding short_escape
returns-in-98-clause-meaning c = first_of (search rules, grind (arith, common_steps))

pub returns-in-102-clause-meaning : goal.returns-in-102-clause-meaning
unfolding short_escape
returns-in-102-clause-meaning c = first_of (search rules, grind (arith, common_steps))

pub returns-in-110-clause-meaning : goal.returns-in-110-clause-meaning
unfolding short_escape
returns-in-110-clause-meaning c = first_of (search rules, grind (arith, common_steps))

pub returns-in-114-clause-meaning : goal.returns-in-114-clause-meaning
unfolding short_escape
returns-in-114-clause-meaning c = first_of (search rules, grind (arith, common_steps))

pub returns-in-116-clause-meaning : goal.returns-in-116-clause-meaning
unfolding short_escape
returns-in-116-clause-meaning c = first_of (search rules, grind (arith, common_steps))

pub returns-in_default-clause-meaning : goal.returns-in_default-clause-meaning
unfolding short_escape
returns-in_default-clause-meaning c = first_of (search rules, grind (arith, common_steps))
