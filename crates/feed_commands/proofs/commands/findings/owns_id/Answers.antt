use Rattle.std.proofs.Common.{rules, codes, option_map, string_bytes, subst}
use Rattle.feed_text.specs.Members.{member_view}
use Rattle.feed_text.specs.Scan.{HoldsLast}
use Rattle.feed_commands.proofs.FindingsLemmas.{owns_some, owns_none}
use Rattle.feed_commands.proofs.commands.findings.owns_id.Goals as goal

pub returns-in-Some-2 : goal.returns-in-Some-2
returns-in-Some-2 c =
    let found = option_map member_view c.in_ok-member.field-0 in
    owns_some c.args.object.now c.args.id.now found (member_view c.in-Some.member) (string_bytes c.in-Some-2.text) c.eq.result
    (subst (λ t. HoldsLast (codes "id") t found) c.bytes.ensures.text c.in_ok-member.ensures.member) (search rules) (search rules) (search rules)

pub returns-in-None : goal.returns-in-None
returns-in-None c =
    let found = option_map member_view c.in_ok-member.field-0 in
    owns_none c.args.object.now c.args.id.now found (member_view c.in-Some.member)
    (subst (λ t. HoldsLast (codes "id") t found) c.bytes.ensures.text c.in_ok-member.ensures.member) (search rules) (search rules)
