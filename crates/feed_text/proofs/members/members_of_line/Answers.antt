use Rattle.std.proofs.Common.{Bool, cond, List, Some, None, sym, ap, ◌∙◌}
use Rattle.feed_text.specs.Members.{MemberSpelling, member_views}
use Rattle.feed_text.proofs.Found.{Read, members_found, members_not_found, found_spelt}
use Rattle.feed_text.proofs.members.members_of_line.Goals as goal

pub invariant_of-result : goal.invariant_of-result
invariant_of-result c =
    let ms = member_views c.read_members.new.members.items in
    let read : Read (λ (m : List MemberSpelling). m) c.args.levels c.args.line.now (Some ms) = ap (λ (b : Bool). cond b (Some ms) None) (sym c.if-branch.true) ∙ c.in_ok-read_members.ensures in
    found_spelt (λ (m : List MemberSpelling). m) c.args.levels c.args.line.now (Some ms) c.requires read

pub returns-then-branch-clause-found : goal.returns-then-branch-clause-found
returns-then-branch-clause-found c =
    let ms = member_views c.read_members.new.members.items in
    let read : Read (λ (m : List MemberSpelling). m) c.args.levels c.args.line.now (Some ms) = ap (λ (b : Bool). cond b (Some ms) None) (sym c.if-branch.true) ∙ c.in_ok-read_members.ensures in
    members_found (λ (m : List MemberSpelling). m) c.args.levels c.args.line.now (Some ms) c.requires read

pub returns-clause-none : goal.returns-clause-none
returns-clause-none c =
    let ms = member_views c.read_members.new.members.items in
    let read : Read (λ (m : List MemberSpelling). m) c.args.levels c.args.line.now None = ap (λ (b : Bool). cond b (Some ms) None) (sym c.if-branch.false) ∙ c.in_ok-read_members.ensures in
    members_not_found (λ (m : List MemberSpelling). m) c.args.levels c.args.line.now None read
