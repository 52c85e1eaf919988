use Rattle.feed_text.proofs.FourNames.{takes_member}
use Rattle.feed_text.proofs.named.NamedMembers.take_member.Goals as goal

pub returns : goal.returns
returns c =
    takes_member c.args.levels c.args.text.now c.in_ok-key.key c.in_ok-key.value.now c.in_ok-item.item c.in_ok-item.is_plain c.args.self.now c.put.new.self c.in_ok-item.rest.now
    c.in_ok-key.ensures c.in_ok-item.ensures.item c.in_ok-item.ensures.plain c.put.ensures
