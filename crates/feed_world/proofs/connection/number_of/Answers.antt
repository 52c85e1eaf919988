use Rattle.std.proofs.Common.{sym, ap, ◌∙◌, ℕ, Result, Ok, Err}
use Rattle.std.proofs.lemmas.Fmt.{parse-decimal}
use Rattle.feed_world.proofs.connection.number_of.Goals as goal

abbrev number_or_none : {E : Type 0} → Result ℕ E → ℕ
number_or_none (Ok n) = n
number_or_none (Err e) = 0

pub returns-in-Ok : goal.returns-in-Ok
returns-in-Ok c = λ k small e. ap number_or_none (sym c.in-Ok.is ∙ parse-decimal 64 k c.args.token.now c.parse.result small small e c.parse.ensures.value.0)

pub returns-in-Err : goal.returns-in-Err
returns-in-Err c = λ k small e. let both = sym c.in-Err.is ∙ parse-decimal 64 k c.args.token.now c.parse.result small small e c.parse.ensures.value.0 in absurd (cc)
