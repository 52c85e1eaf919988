use Rattle.std.proofs.Common.{◌≡◌, ℕ, List, Option, inl, inr, refl, sym, subst, ◌∙◌, true≢false}
use Rattle.std.specs.Prelude.{Bool, true, false, ◌↔◌, IsTrue}
use Rattle.feed_settings.specs.declared.framing.Framing.{Framing}
use Rattle.feed_node.specs.States.{NodeState}
use Rattle.feed_answer.specs.Replied.{Replied, RepliesTo, reply_of}
use Rattle.feed_http.specs.HeadReading.{IsEnough}
use Rattle.feed_hub.specs.Answering.{NeedsText, TellsText}
use Rattle.feed_hub.proofs.answering.Answering.makes_text.Goals as goal

told : (head contest : List ℕ) (node : NodeState) (asked own : Framing) (opening : Option (List ℕ)) (reply : Replied) (makes : Bool)
    → IsEnough head → RepliesTo head contest node asked 0 reply → IsTrue makes ↔ NeedsText own opening reply → TellsText head contest node asked own opening makes
told head contest node asked own opening reply true enough replies is = (enough, record { reply = reply; replies = replies; holds = is.0 refl })
told head contest node asked own opening reply false enough replies is =
    inr record { reply = reply; replies = replies; holds = λ needs. let no : false ≡ true = is.1 needs in absurd (true≢false (sym no)) }

pub returns-then-is_needed : goal.returns-then-is_needed
returns-then-is_needed c = inl (c.is_needed.ensures.needed c.if-is_needed.true)

pub returns : goal.returns
returns c =
    told c.args.head.now c.args.contest.now c.args.self.now.mirror.node c.args.framing c.args.self.now.framing c.args.self.now.opening (reply_of c.in_ok-reply.reply) c.needs_text.result
    (c.is_needed.ensures.enough (λ t. true≢false (sym t ∙ c.if-is_needed.false)))
    (subst (λ node. RepliesTo c.args.head.now c.args.contest.now node c.args.framing 0 (reply_of c.in_ok-reply.reply)) c.node.ensures c.in_ok-reply.ensures.ok) c.needs_text.ensures
