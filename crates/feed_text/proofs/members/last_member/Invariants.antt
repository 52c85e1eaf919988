use Rattle.std.proofs.Common.{◌≡◌, drop, length, option_map}
use Rattle.feed_text.specs.Members.{member_view, AreMemberSpellings, last_spelt}
use Rattle.feed_text.proofs.LastMember.{members_left, or_else}
use Rattle.feed_text.proofs.members.last_member.Given as goal

-- the last one of the members, where those left have none, is the one that was found
abbrev pub invariant-loop-member : goal.invariant-loop-member
invariant-loop-member l = record {
  left : AreMemberSpellings (members_left l.levels l.rest);
  same : or_else (last_spelt l.key (members_left l.levels l.rest)) (option_map member_view l.found) ≡ last_spelt l.key (members_left l.levels (drop 1 l.object));
}

abbrev pub decreases-loop-member : goal.decreases-loop-member
decreases-loop-member l = length l.rest
