use Rattle.std.proofs.Common.{◌++◌, sym, ap, subst}
use Rattle.feed_node.specs.Mirroring.{cut_off}
use Rattle.feed_follow.specs.Following.{Fails}
use Rattle.feed_follow.specs.Follower.{FollowerState, FollowsAt, GoesOnOrRefuses}
use Rattle.feed_follow.specs.Keeping.{follower_of}
use Rattle.feed_follow.proofs.follower.Follower.push_keeping_token.Goals as goal

pub returns-in-Ok-clause-ok : goal.returns-in-Ok-clause-ok
returns-in-Ok-clause-ok c start before standing f =
    let follows = subst (λ s. FollowsAt start before standing s c.args.mirror.now)
    (sym c.self.view_is) f in
    subst (λ a. GoesOnOrRefuses start (before ++ c.args.piece.now)
    (follower_of c.self.inside.had_token c.read_part.new.kept c.in-Ok.part)
    c.read_part.new.mirror a) (sym c.progress-in-Ok.ensures)
    (c.in-Ok.ensures.ok start before standing follows)

pub returns-in-Err-clause-err : goal.returns-in-Err-clause-err
returns-in-Err-clause-err c start before standing f =
    let follows = subst (λ s. FollowsAt start before standing s c.args.mirror.now)
    (sym c.self.view_is) f in
    subst (λ m. Fails start c.args.self.now.had_token before c.args.piece.now m c.in-Err.fault)
    (sym c.close.ensures.cut)
    (subst (λ h. Fails start h before c.args.piece.now
    (cut_off c.read_part.new.mirror) c.in-Err.fault)
    (ap (λ (s : FollowerState). s.had_token) c.self.view_is)
    (c.in-Err.ensures.err start before standing follows))
