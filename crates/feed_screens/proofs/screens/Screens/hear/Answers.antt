use Rattle.std.proofs.Common.{◌≡◌, ◌≢◌, ◌∙◌, ◌⊎◌, ℕ, List, [], length, inl, inr, true, false, true≢false, sym, subst}
use Rattle.std.specs.Prelude.{◌==◌, Contains}
use Rattle.std.proofs.lemmas.Bool.Decides.{eqb_tells}
use Rattle.std.proofs.lemmas.List.{nil_from_length}
use Rattle.feed_screens.proofs.ServingLemmas.{hears_none}
use Rattle.feed_screens.specs.Waiting.{HasRoom, IsAnotherNext, LacksRoom}
use Rattle.feed_screens.proofs.screens.Screens.hear.Goals as goal

none_of : (bytes : List ℕ) → (length bytes == 0) ≡ true → bytes ≡ []
none_of bytes is = by (eqb_tells (length bytes) 0)
  where
    by : (((length bytes == 0) ≡ true) × (length bytes ≡ 0)) ⊎ (((length bytes == 0) ≡ false) × (length bytes ≢ 0)) → bytes ≡ []
    by (inl (_, none)) = nil_from_length bytes none
    by (inr (wrong, _)) = absurd (true≢false (sym is ∙ wrong))

pub returns-in-0-clause-serving : goal.returns-in-0-clause-serving
returns-in-0-clause-serving c =
    λ nodes sockets among keyed serves.
    hears_none c.hear_once.new.self sockets c.args.keyed.at c.parts.rest.now c.in_ok-taken.taken c.in-0.is
    (c.in_ok-taken.ensures.serving nodes sockets (subst (λ m. Contains nodes m.node) (sym c.parts.invariant.mirror) among) (c.parts.invariant.keys c.args.keyed.at ∙ keyed) (c.parts.invariant.serving nodes sockets among keyed serves))

pub returns-then-has_no_room-clause-turns : goal.returns-then-has_no_room-clause-turns
unfolding LacksRoom
returns-then-has_no_room-clause-turns c =
    λ turned. subst (λ s. HasRoom s → IsAnotherNext s.conns c.args.keyed.at) c.parts.invariant.comes (c.has_no_room.ensures c.if-has_no_room.true).1

pub returns-then-has_no_room-clause-waits : goal.returns-then-has_no_room-clause-waits
unfolding LacksRoom
returns-then-has_no_room-clause-waits c =
    λ waits has_room.
    inr (subst (λ s. HasRoom s → IsAnotherNext s.conns c.args.keyed.at) c.parts.invariant.comes (c.has_no_room.ensures c.if-has_no_room.true).1 has_room)
