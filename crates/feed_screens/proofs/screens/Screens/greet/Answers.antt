use Rattle.std.proofs.Common.{◌≡◌, ap, arith, ◌∙◌, sym, subst, Some, []}
use Rattle.feed_device.specs.Sockets.{IsSocket, opened}
use Rattle.feed_screens.specs.Serving.{asks}
use Rattle.feed_hub.specs.declared.seats.Key.{Key}
use Rattle.feed_screens.proofs.screens.Screens.greet.Goals as goal

same_key : {a b : Key} → Some a ≡ Some b → b ≡ a
same_key e = cc

pub returns-in-Ok-clause-greeted : goal.returns-in-Ok-clause-greeted
returns-in-Ok-clause-greeted g c =
    let made = c.in-Ok.ensures.ok in
    λ nodes contest fresh.
    record {
      stands = asks made.asking made.seat (subst (λ h. IsSocket (g.S.Sockets.socket c.args.sockets.now c.args.at) (opened h [])) (sym made.head) fresh);
      is_new = λ key is. ap (λ k. k.generation) (same_key is) ∙ made.generation;
      next = λ key is. let same = ap (λ k. k.generation) (same_key is) in omega (arith, made.generation, made.next);
      kept = omega (arith, made.next);
      broadcast = c.open.ensures.broadcast;
      others = λ key below. c.in-Ok.ensures.others key (λ e. let same = ap (λ k. k.generation) e in absurd (omega (arith, made.generation)));
    }
