use Rattle.std.proofs.Common.{◌≡◌, ◌∙◌, ap}
use Rattle.feed_node.specs.Mirroring.{cut_off}
use Rattle.feed_live.specs.Relaying.{servers_of}
use Rattle.feed_live.proofs.source.Source.lost.Goals as goal

pub returns-clause-left : goal.returns-clause-left
returns-clause-left g c =
    let next = c.ask_next.ensures.rest in
    let shown : c.ask_next.new.self.answers.shown.mirror ≡ cut_off c.args.self.now.answers.shown.mirror =
    c.ask_next.ensures.shown ∙ ap cut_off (ap (λ a. a.shown.mirror) c.leave.ensures.answers ∙ c.hear_end.ensures.same.shown ∙ c.lose-2.ensures.same.shown) in
    record {
      servers = ap servers_of next ∙ c.leave.ensures.servers ∙ c.hear_end.ensures.same.servers ∙ c.lose-2.ensures.same.servers;
      exchanges = c.forget_after.ensures.exchanges ∙ c.leave.ensures.exchanges;
      reach = ap (λ s. s.reach) next ∙ c.leave.ensures.away;
      follower = c.ask_next.ensures.follower;
      limits = ap (λ m. m.limits) shown;
      node = ap (λ m. m.node) shown;
      blank = ap (λ b. b.mirror) c.ask_next.ensures.blank ∙ ap (λ a. a.blank.mirror) c.leave.ensures.answers ∙ c.hear_end.ensures.same.blank ∙ c.lose-2.ensures.same.blank;
      body_since = ap (λ s. s.body_since) next ∙ c.leave.ensures.none;
      opened = ap (λ s. s.opened) next ∙ c.leave.ensures.opened ∙ c.hear_end.ensures.same.opened ∙ c.lose-2.ensures.same.opened;
    }
