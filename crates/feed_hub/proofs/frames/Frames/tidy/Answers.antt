use Rattle.std.proofs.Common.{◌≡◌, ◌<◌, ◌∙◌, sym, subst, length, get_or}
use Rattle.std.proofs.lemmas.Grind.{get_or_picked}
use Rattle.feed_hub.proofs.frames.Frames.tidy.Goals as goal

pub returns-clause-kept : goal.returns-clause-kept
returns-clause-kept c =
    λ frame has.
    let kept = c.retain.ensures.filtered in
    let found = (get_or_picked kept.0 c.args.self.now.kept.items has.0 frame
    (subst (λ frames. has.0 < length frames) kept.4 has.1)).1 in (
      found.0,
      found.1,
      sym found.2 ∙ subst (λ frames. get_or frames has.0 frame ≡ frame) kept.4 has.2,
    )
