use Rattle.std.proofs.Common.{◌≡◌, ◌++◌, subst, inr}
use Rattle.std.proofs.lemmas.Result.{err_from_is_err_and}
use Rattle.feed_follow.specs.HeadRead.{IsHeadRead, IsNoHead, IsUnfinished}
use Rattle.feed_follow.specs.Keeping.{kept_bytes}
use Rattle.feed_follow.proofs.follower.look_further.Goals as goal

pub returns-in_err-whole-clause-err : goal.returns-in_err-whole-clause-err
returns-in_err-whole-clause-err c =
    let p = err_from_is_err_and c.from_residual-in_err-whole.result
    c.from_residual-in_err-whole.ensures.1 in
    let looked : c.deref.result.now ≡ kept_bytes c.args.kept.now ++ c.args.bytes.now = cc
    (c.deref.ensures.value, c.in_ok-head.ensures, c.take.ensures.value) in
    rw (p.1, p.2)
    (inr (subst (λ t. IsNoHead c.args.had_token t c.in_err-whole.field-0.0) looked
    c.in_err-whole.ensures.err))

pub returns-in-Some-clause-whole : goal.returns-in-Some-clause-whole
returns-in-Some-clause-whole c =
    let looked : c.deref.result.now ≡ kept_bytes c.args.kept.now ++ c.args.bytes.now = cc
    (c.deref.ensures.value, c.in_ok-head.ensures, c.take.ensures.value) in
    let read = rw c.in-Some.is at c.in_ok-whole.ensures.whole in
    subst (λ t. IsHeadRead c.args.had_token t c.in-Some.whole) looked read

pub returns-in-None-clause-unfinished : goal.returns-in-None-clause-unfinished
returns-in-None-clause-unfinished c =
    let looked : c.deref.result.now ≡ kept_bytes c.args.kept.now ++ c.args.bytes.now = cc
    (c.deref.ensures.value, c.in_ok-head.ensures, c.take.ensures.value) in
    subst IsUnfinished looked (rw c.in-None.is at c.in_ok-whole.ensures.unfinished)
