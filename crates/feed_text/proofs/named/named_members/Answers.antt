use Rattle.feed_text.proofs.FourNames.{reads_none, reads_first, reads_all, reads_on, reads_more}
use Rattle.feed_text.proofs.named.named_members.Goals as goal

pub returns-in-Some : goal.returns-in-Some
returns-in-Some c = reads_none c.args.levels c.args.text.now c.in-Some.end.now c.none-found.result c.in-Some.ensures c.none-found.ensures.last c.none-found.ensures.plain

pub loop-after-init : goal.loop-after-init
loop-after-init c = reads_first c.args.levels c.args.text.now c.none-found.result c.in_default.ensures c.none-found.ensures.last c.none-found.ensures.plain

pub returns-in-Some-after_byte : goal.returns-in-Some-after_byte
returns-in-Some-after_byte c =
    reads_all c.args.levels c.args.text.now c.loop-after.rest.now c.in_ok-after_mark.field-0.now c.in_ok-after.after.now c.loop-after.found c.take_member.new.self c.loop-after.invariant c.in_ok-after_mark.ensures c.in_ok-after.ensures c.in-Some-after_byte.end.now c.in-Some-after_byte.ensures

pub loop-after-smaller : goal.loop-after-smaller
loop-after-smaller c =
    reads_on c.args.levels c.args.text.now c.loop-after.rest.now c.in_ok-after_mark.field-0.now c.in_ok-after.after.now c.loop-after.found c.take_member.new.self c.loop-after.invariant c.in_ok-after_mark.ensures c.in_ok-after.ensures c.in_ok-rest.rest.now c.in_ok-rest.ensures

pub loop-after-preserved : goal.loop-after-preserved
loop-after-preserved c =
    reads_more c.args.levels c.args.text.now c.loop-after.rest.now c.in_ok-after_mark.field-0.now c.in_ok-after.after.now c.loop-after.found c.take_member.new.self c.loop-after.invariant c.in_ok-after_mark.ensures c.in_ok-after.ensures c.in_ok-rest.rest.now c.in_ok-rest.ensures
