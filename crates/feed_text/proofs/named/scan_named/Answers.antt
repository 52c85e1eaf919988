use Rattle.std.proofs.Common.{Some}
use Rattle.feed_text.specs.declared.named.NamedMembers.{NamedMembers}
use Rattle.feed_text.proofs.Found.{members_found, found_spelt, within_shallow}
use Rattle.feed_text.proofs.FourNames.{values_spelt}
use Rattle.feed_text.proofs.named.scan_named.Goals as goal

pub returns-then-is_text-clause-members : goal.returns-then-is_text-clause-members
returns-then-is_text-clause-members c =
    let t = c.in_ok-found.ensures in
    record {
      members = t.members;
      held = (members_found (λ (m : NamedMembers). t.members) 101 c.args.line.now (Some c.in_ok-found.found) (c.is_text.ensures.0 c.if-is_text.true) t.read).held;
      last = t.last;
    }

pub returns-then-is_text-clause-spelt : goal.returns-then-is_text-clause-spelt
returns-then-is_text-clause-spelt c =
    let t = c.in_ok-found.ensures in
    values_spelt t.members c.in_ok-found.found (found_spelt (λ (m : NamedMembers). t.members) 101 c.args.line.now (Some c.in_ok-found.found) (c.is_text.ensures.0 c.if-is_text.true) t.read) t.last

pub returns-then-is_text-clause-depth : goal.returns-then-is_text-clause-depth
returns-then-is_text-clause-depth c =
    let t = c.in_ok-found.ensures in
    within_shallow c.args.line.now t.members (members_found (λ (m : NamedMembers). t.members) 101 c.args.line.now (Some c.in_ok-found.found) (c.is_text.ensures.0 c.if-is_text.true) t.read)
