use Rattle.std.proofs.Common.{◌≡◌, ◌≢◌, sym, ◌∙◌, subst}
use Rattle.std.specs.Prelude.{Ok}
use Rattle.feed_follow.specs.declared.follower.Part.{Part}
use Rattle.feed_follow.specs.declared.follower.Part.TheVariants.{Head, Done}
use Rattle.feed_follow.specs.Feeding.{BodyGoesOn}
use Rattle.feed_follow.specs.Keeping.{kept_bytes}
use Rattle.feed_follow.proofs.BodyLemmas.{rest_stays}
use Rattle.feed_follow.proofs.PushLemmas.{head_ok, head_err, body_ok, body_err}
use Rattle.feed_follow.proofs.follower.read_part.Goals as goal

no_head : (part : Part) → part ≡ Done → part ≢ Head
no_head part is e = let same : Done ≡ Head = sym is ∙ e in cc

pub returns-in-Head-clause-ok : goal.returns-in-Head-clause-ok
returns-in-Head-clause-ok c start before standing f =
    head_ok start before standing c.args.had_token (kept_bytes c.args.kept.now) c.args.part
    c.args.mirror.now f c.read_head.result c.args.piece.now (kept_bytes c.read_head.new.kept)
    c.read_head.new.mirror
    c.in-Head.is c.read_head.ensures.ok

pub returns-in-Head-clause-err : goal.returns-in-Head-clause-err
returns-in-Head-clause-err c start before standing f =
    head_err start before standing c.args.had_token (kept_bytes c.args.kept.now) c.args.part
    c.args.mirror.now f c.read_head.result c.args.piece.now (kept_bytes c.read_head.new.kept)
    c.read_head.new.mirror
    c.in-Head.is c.read_head.ensures.err

pub returns-in-Done-clause-ok : goal.returns-in-Done-clause-ok
returns-in-Done-clause-ok c start before standing f =
    let mirror = c.args.mirror.now in
    let kept = kept_bytes c.args.kept.now in
    let stays = rest_stays Done c.args.piece.now mirror (λ left e. cc) (λ at e. cc) (λ e. cc) in
    body_ok start before standing c.args.had_token kept c.args.part mirror f
    (Ok Done) c.args.piece.now kept mirror
    (no_head c.args.part c.in-Done.is) c.requires.going
    (subst (λ part. BodyGoesOn part c.args.piece.now mirror mirror Done)
    (sym c.in-Done.is) stays)

pub returns-in_default-clause-ok : goal.returns-in_default-clause-ok
returns-in_default-clause-ok c start before standing f =
    body_ok start before standing c.args.had_token (kept_bytes c.args.kept.now) c.args.part
    c.args.mirror.now f c.feed_body.result c.args.piece.now
    (kept_bytes c.args.kept.now) c.feed_body.new.mirror
    c.in_default.not-Head c.requires.going c.feed_body.ensures.ok

pub returns-in_default-clause-err : goal.returns-in_default-clause-err
returns-in_default-clause-err c start before standing f =
    body_err start before standing c.args.had_token (kept_bytes c.args.kept.now) c.args.part
    c.args.mirror.now f c.feed_body.result c.args.piece.now
    (kept_bytes c.args.kept.now) c.feed_body.new.mirror
    c.in_default.not-Head c.requires.going c.feed_body.ensures.err

pub returns-in_default-clause-done : goal.returns-in_default-clause-done
returns-in_default-clause-done c = λ is. absurd (c.in_default.not-Done is)
