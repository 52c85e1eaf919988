use Rattle.std.proofs.Common.{refl}
use Rattle.feed_arguments.proofs.words.live.live.Goals as goal

pub returns : goal.returns
returns c =
    let followed = c.add_section-live.ensures _ _ (c.command-live.ensures _ refl) refl in
    let served = c.add_section-live-2.ensures _ _ followed c.screens.ensures.rules in
    let kept = c.add_section-live-3.ensures _ _ served refl in
    c.add_section.ensures _ _ kept refl
