use Rattle.std.proofs.Common.{◌≡◌, ◌∙◌, ap, sym, subst, Bool}
use Rattle.std.specs.Prelude.{IfErr, is_some}
use Rattle.feed_follow.specs.Following.{Fails}
use Rattle.feed_hub.specs.Upstream.{IsFollowing}
use Rattle.feed_live.specs.Relaying.{following_mirror, followed_by}
use Rattle.feed_live.proofs.source.Source.push.Goals as goal

pub returns-in-None-clause-err : goal.returns-in-None-clause-err
returns-in-None-clause-err c =
    λ start before standing following.
    let same : c.change-mirror.result.now ≡ followed_by c.args.self.now = c.change-mirror.ensures.mirror ∙ sym (ap (λ k. following_mirror k c.args.self.now.answers.shown.mirror) c.in-None.is) in
    subst (λ k. IfErr c.take-in-None.result (λ fault. (had_token : Bool) × (had_token ≡ is_some start.since) × Fails start had_token before c.args.line.now (following_mirror k c.take-in-None.new.mirror) fault)) (sym c.in-None.is)
    (c.take-in-None.ensures.err start before standing (subst (λ m. IsFollowing start before standing c.args.self.now.upstream.follower m) (sym same) following))
