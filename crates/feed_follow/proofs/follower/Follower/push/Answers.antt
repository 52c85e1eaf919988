use Rattle.std.proofs.Common.{◌≢◌, ◌++◌, List, ℕ, refl, sym, subst}
use Rattle.std.proofs.lemmas.Result.{err_from_is_err_and}
use Rattle.feed_node.specs.Mirroring.{MirrorState}
use Rattle.feed_follow.specs.declared.fault.Progress.{Progress}
use Rattle.feed_follow.specs.declared.fault.Progress.TheVariants.{Head, Body, Done, TokenRefused}
use Rattle.feed_follow.specs.Standing.{token_refused}
use Rattle.feed_follow.specs.Follower.{FollowerState, FollowsAt, GoesOn, GoesOnOrRefuses}
use Rattle.feed_follow.proofs.follower.Follower.push.Goals as goal

-- a push that refuses nothing goes on
going_on : (start : MirrorState) (bytes : List ℕ) (follower : FollowerState) (mirror : MirrorState)
    (answer : Progress) → answer ≢ TokenRefused
    → GoesOnOrRefuses start bytes follower mirror answer → GoesOn start bytes follower mirror answer
going_on start bytes follower mirror Head not h = h
going_on start bytes follower mirror Body not h = h
going_on start bytes follower mirror Done not h = h
going_on start bytes follower mirror TokenRefused not h = absurd (not refl)

pub returns-in_err-progress-clause-err : goal.returns-in_err-progress-clause-err
returns-in_err-progress-clause-err c start before standing f =
    let p = err_from_is_err_and c.from_residual.result c.from_residual.ensures.1 in
    rw (p.1, p.2) (c.in_err-progress.ensures.err start before standing f)

pub returns-in-TokenRefused-clause-ok : goal.returns-in-TokenRefused-clause-ok
returns-in-TokenRefused-clause-ok c start before standing f =
    let bytes = before ++ c.args.piece.now in
    let follower = c.push_keeping_token.new.self in
    let cut = c.push_keeping_token.new.mirror in
    let both = subst (GoesOnOrRefuses start bytes follower cut) c.in-TokenRefused.is
    (c.in_ok-progress.ensures.ok start before standing f) in (
      token_refused,
      refl,
      subst (FollowsAt start bytes token_refused follower) (sym c.refused.ensures) both.1,
    )

pub returns-in_default-clause-ok : goal.returns-in_default-clause-ok
returns-in_default-clause-ok c start before standing f =
    going_on start (before ++ c.args.piece.now) c.push_keeping_token.new.self
    c.push_keeping_token.new.mirror c.in_ok-progress.progress c.in_default.not-TokenRefused
    (c.in_ok-progress.ensures.ok start before standing f)
