use Rattle.std.proofs.Common.{◌≡◌, ◌∙◌, true, ap, ap₂, subst, IfOk}
use Rattle.std.proofs.lemmas.Result.{IfOk-weaker}
use Rattle.clap.specs.Words.{App, app_of, with_subcommand}
use Rattle.feed_arguments.proofs.WordsLemmas.{no_globals}
use Rattle.feed_arguments.proofs.words.line.with_command.Goals as goal

pub returns : goal.returns
returns c =
    λ app sub above below plain.
    let above_is : app_of c.in-Ok-above.above ≡ app =
    subst (λ r. IfOk r (λ k. app_of k ≡ app)) c.in-Ok-above.is above in
    let below_is : app_of c.in-Ok.below ≡ sub = subst (λ r. IfOk r (λ k. app_of k ≡ sub)) c.in-Ok.is below in
    let is_plain : (app_of c.in-Ok.below).top.is_plain ≡ true = ap (λ (s : App). s.top.is_plain) below_is
    ∙ plain in
    IfOk-weaker c.subcommand.result _ _ (λ command h. h.shape (no_globals _ _ _ _ is_plain)
    ∙ ap₂ (λ (x y : App). with_subcommand x y.top) above_is below_is) c.subcommand.ensures
