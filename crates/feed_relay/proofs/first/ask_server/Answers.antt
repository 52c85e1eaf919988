use Rattle.std.proofs.Common.{rules, ◌≡◌, ap, ◌∙◌, subst, inr, ◌++◌, ◌∷◌, [], arith, append_assoc}
use Rattle.feed_http.specs.declared.fault.Followed.TheVariants.{TokenRefused}
use Rattle.feed_relay.specs.Dialing.{dialer_of}
use Rattle.feed_relay.specs.First.{dialing, attempt_at, Attempts}
use Rattle.feed_relay.specs.declared.first.AttemptEnd.TheVariants.{Followed}
use Rattle.feed_relay.proofs.first.ask_server.Goals as goal

pub returns-clause-asked : goal.returns-clause-asked
returns-clause-asked g c =
    let dialer = dialer_of g.D.Dial g.D.Reader.FeedRead g.D.Writer.FeedWrite in
    let first = attempt_at c.args.asked.now.number c.try_server-outcome.result in
    let again = attempt_at c.args.asked.now.number c.try_server-again.result in
    let start = dialing c.args.mirror.now c.args.dial.now in
    let middle = dialing c.try_server-outcome.new.mirror c.try_server-outcome.new.dial in
    let is : c.try_server-outcome.result ≡ Followed TokenRefused = search rules in (
      first ∷ again ∷ [],
      c.push_reserved-2.ensures.items ∙ ap (λ l. l ++ again ∷ []) c.push_reserved.ensures.items ∙ append_assoc c.args.attempts.now.items (first ∷ []) (again ∷ []),
      omega arith,
      (
        search rules,
        inr (
          middle,
          ap (λ o. attempt_at c.args.asked.now.number o ∷ again ∷ []) is,
          subst (λ o. Attempts dialer c.args.asked.now.number c.args.asked.now.server.now c.args.most_reads start o middle) is c.try_server-outcome.ensures.tried,
          c.try_server-again.ensures.tried,
        ),
      ),
    )
