use Rattle.std.proofs.Common.{refl, sym, ap, ◌∙◌}
use Rattle.feed_text.specs.Ascii.{right_brace}
use Rattle.feed_text.specs.Reading.{behind_first}
use Rattle.feed_text.proofs.Windows.{plain_member, plain_members, same_item, more_members, no_more_members, value_end}
use Rattle.feed_text.proofs.value.+value.Goals as goal

pub pass_item-pass_to-requires-clause-rest : goal.pass_item-pass_to-requires-clause-rest
pass_item-pass_to-requires-clause-rest t c = value_end c.args.levels c.args.seen.text.now c.after_unquoted.result c.after_unquoted.ensures

pub to_brace-loop-value-smaller-in-Some-pass_spaced_and : goal.to_brace-loop-value-smaller-in-Some-pass_spaced_and
to_brace-loop-value-smaller-in-Some-pass_spaced_and t c =
    let text = c.loop-value.seen.text.now in
    let more = c.in-Some-pass_spaced_and.more.text.now in
    (more_members c.args.levels text _ more refl (plain_members c.args.levels text c.in-Some.value.text.now more c.in-Some.ensures.text c.in-Some-pass_spaced_and.ensures.text)).1

pub to_brace-loop-value-preserved-in-Some-pass_spaced_and : goal.to_brace-loop-value-preserved-in-Some-pass_spaced_and
to_brace-loop-value-preserved-in-Some-pass_spaced_and t c =
    let text = c.loop-value.seen.text.now in
    let more = c.in-Some-pass_spaced_and.more.text.now in
    ((more_members c.args.levels text _ more refl (plain_members c.args.levels text c.in-Some.value.text.now more c.in-Some.ensures.text c.in-Some-pass_spaced_and.ensures.text)).0 ∙ c.loop-value.invariant.0, c.in-Some-pass_spaced_and.ensures.mask)

pub to_brace-returns-in_default-pass_mark : goal.to_brace-returns-in_default-pass_mark
to_brace-returns-in_default-pass_mark t c =
    let text = c.loop-value.seen.text.now in
    let whole = c.pass_item-after.ensures.rest ∙ same_item c.args.levels c.pass_space.result.text.now c.in-Some.value.text.now c.pass_space.ensures.text ∙ sym (plain_member c.args.levels text c.in-Some.value.text.now c.in-Some.ensures.text) in
    let white = c.skip_white_space-in_default-pass_mark.ensures in
    ap (behind_first right_brace) white ∙ no_more_members c.args.levels text _ whole c.in_default-pass_mark.ensures.text ∙ c.loop-value.invariant.0

pub to_brace-loop-value-smaller : goal.to_brace-loop-value-smaller
to_brace-loop-value-smaller t c =
    let text = c.loop-value.seen.text.now in
    let whole = c.pass_item-after.ensures.rest ∙ same_item c.args.levels c.pass_space.result.text.now c.in-Some.value.text.now c.pass_space.ensures.text ∙ sym (plain_member c.args.levels text c.in-Some.value.text.now c.in-Some.ensures.text) in
    (more_members c.args.levels text _ c.in-Some-pass_mark.more.text.now whole c.in-Some-pass_mark.ensures.text).1

pub to_brace-loop-value-preserved : goal.to_brace-loop-value-preserved
to_brace-loop-value-preserved t c =
    let text = c.loop-value.seen.text.now in
    let whole = c.pass_item-after.ensures.rest ∙ same_item c.args.levels c.pass_space.result.text.now c.in-Some.value.text.now c.pass_space.ensures.text ∙ sym (plain_member c.args.levels text c.in-Some.value.text.now c.in-Some.ensures.text) in
    ((more_members c.args.levels text _ c.in-Some-pass_mark.more.text.now whole c.in-Some-pass_mark.ensures.text).0 ∙ c.loop-value.invariant.0, c.in-Some-pass_mark.ensures.mask)
