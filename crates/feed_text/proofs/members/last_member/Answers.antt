use Rattle.std.proofs.Common.{◌≡◌, ◌∙◌, None, drop, length, refl, sym, ap, arith}
use Rattle.std.specs.Prelude.{option_map}
use Rattle.feed_text.specs.Members.{member_view, last_spelt}
use Rattle.feed_text.specs.Reading.{pair_and_rest, pair_at, value_at}
use Rattle.feed_text.proofs.Found.{found_member_spelt}
use Rattle.feed_text.proofs.LastMember.{members_left, object_left, object_left_spelt, next_spelt, next_shorter, next_same, or_else_none, this_spelt, last_found}
use Rattle.feed_text.proofs.members.last_member.Goals as goal
use Rattle.feed_text.proofs.members.last_member.Goals.{then-branch, else-branch}

pub loop-member-init : goal.loop-member-init
loop-member-init c =
    let behind : c.in-Some.rest.now ≡ drop 1 c.args.object.now = grind arith in
    record {
      left = rw behind (object_left_spelt c.args.object.now c.requires);
      same = rw behind (or_else_none (last_spelt c.args.key.now (members_left (length c.args.object.now) (drop 1 c.args.object.now))));
    }

pub says-requires : goal.says-requires
says-requires c = (this_spelt (length c.args.object.now) c.loop-member.rest.now c.in-Some-next_member.after.now (member_view c.in-Some-next_member.member) c.in-Some-next_member.ensures c.loop-member.invariant.left).encoding

pub loop-member-smaller : goal.loop-member-smaller
loop-member-smaller c = next_shorter (length c.args.object.now) c.loop-member.rest.now c.in-Some-next_member.after.now c.after_comma-rest.result.now (member_view c.in-Some-next_member.member) c.in-Some-next_member.ensures c.after_comma-rest.ensures

pub loop-member-preserved : goal.loop-member-preserved
loop-member-preserved c =
    let levels = length c.args.object.now in
    let y = member_view c.in-Some-next_member.member in
    let same = next_same levels c.loop-member.rest.now c.in-Some-next_member.after.now c.after_comma-rest.result.now y c.in-Some-next_member.ensures c.after_comma-rest.ensures c.args.key.now (option_map member_view c.loop-member.found) in
    record {
      left = next_spelt levels c.loop-member.rest.now c.in-Some-next_member.after.now c.after_comma-rest.result.now y c.in-Some-next_member.ensures c.after_comma-rest.ensures c.loop-member.invariant.left;
      same = elim c.if-branch.branch [
        | then-branch w ↦ same (option_map member_view c.if-branch.found) _ (ap (option_map member_view) w.found-is ∙ rw (sym c.in_ok-says.ensures ∙ w.if-branch.true) refl) c.loop-member.invariant.same
        | else-branch w ↦ same (option_map member_view c.if-branch.found) _ (ap (option_map member_view) w.found-is ∙ rw (sym c.in_ok-says.ensures ∙ w.if-branch.false) refl) c.loop-member.invariant.same
      ];
    }

pub returns-clause-member : goal.returns-clause-member
returns-clause-member c =
    let x = c.args.object.now in
    let levels = length x in
    let none : pair_and_rest (pair_at (value_at levels) c.loop-member.rest.now) ≡ None = sym c.in_default-next_member.ensures in
    (members_left levels (drop 1 x), object_left x c.requires, last_found levels c.args.key.now c.loop-member.rest.now (option_map member_view c.loop-member.found) _ none c.loop-member.invariant.same)

pub returns-clause-spelt : goal.returns-clause-spelt
returns-clause-spelt c =
    let x = c.args.object.now in
    let levels = length x in
    let none : pair_and_rest (pair_at (value_at levels) c.loop-member.rest.now) ≡ None = sym c.in_default-next_member.ensures in
    found_member_spelt member_view c.args.key.now (members_left levels (drop 1 x)) c.loop-member.found (object_left_spelt x c.requires) (last_found levels c.args.key.now c.loop-member.rest.now (option_map member_view c.loop-member.found) _ none c.loop-member.invariant.same)
