use Rattle.std.proofs.Common.{[], ◌∷◌, ◌++◌, ◌≡◌, refl, sym, ap, subst, arith, length-append}
use Rattle.feed_http.specs.Live.{intake_of, Accepts, accepts_none, accepts_one}
use Rattle.feed_http.proofs.LiveLemmas.{next_taken}
use Rattle.feed_http.proofs.live.take_turn.Goals as goal

pub batches-init : goal.batches-init
batches-init c = record { taken = ([], accepts_none, refl, refl); within = omega arith }

pub batches-preserved : goal.batches-preserved
batches-preserved c =
    let (earlier, accepted, split, many) = c.batches.invariant.taken in
    let batch = c.in-Some.batch in
    let later : c.batches.input.items ≡ batch ∷ c.pop_front.new.self.items = c.in-Some.ensures.items in
    record {
      taken = (
        earlier ++ batch.items ∷ [],
        subst (Accepts c.args.primary.now (earlier ++ batch.items ∷ [])) (sym c.in_ok-commit.ensures.ok) (accepts_one earlier c.batches.primary batch.items accepted c.in_ok-commit.ensures.accepted),
        next_taken (intake_of c.args.primary.now c.args.input.now.items).batches earlier (intake_of c.batches.primary c.batches.input.items).batches batch.items (intake_of c.batches.primary c.pop_front.new.self.items).batches split (ap (λ l. (intake_of c.batches.primary l).batches) later),
        omega (arith, length-append earlier (batch.items ∷ []), many),
      );
      within = omega arith;
    }
