-- Who is shut once it was written to.
use Rattle.std.proofs.Common.{◌≡◌, ◌≢◌, refl, inl, inr, subst, ℕ, Bool, List, [], ◌∷◌, Some}
use Rattle.std.specs.Prelude.{◌⊎◌}
use Rattle.feed_node.specs.States.{NodeState}
use Rattle.feed_hub.specs.declared.hub.Hub.{Hub}
use Rattle.feed_hub.specs.declared.seats.Key.{Key}
use Rattle.feed_hub.specs.Hub.{prefix_at}
use Rattle.feed_hub.specs.Seats.{seat_at}
use Rattle.feed_screens.specs.Serving.{GetsNext, IsAtEndThen, ReachesEnd, pending, next}

pub same_key : {a b : Key} → Some (Some a) ≡ Some (Some b) → a ≡ b
same_key e = cc

nothing_or_some : (bytes : List ℕ) → (bytes ≡ []) ⊎ (bytes ≢ [])
nothing_or_some [] = inl refl
nothing_or_some (b ∷ rest) = inr (λ (e : (b ∷ rest) ≡ []). absurd (cc))

-- what was pending, or came next, was taken, and then it is at its end
pub reaches : (old got : Hub) (node : NodeState) (now : ℕ) (key : Key) → (prefix_at old key ≢ [] → got ≡ old)
    → (prefix_at old key ≡ [] → (has_room : Bool) × GetsNext old node has_room now key (seat_at got.seats.slab key))
    → got.broadcast ≡ old.broadcast → IsAtEndThen got node now key → ReachesEnd old node now key
reaches old got node now key stays gets log end = by (nothing_or_some (prefix_at old key))
  where
    by : (prefix_at old key ≡ []) ⊎ (prefix_at old key ≢ []) → ReachesEnd old node now key
    by (inl none) = let (has_room, gotten) = gets none in next has_room got gotten log end
    by (inr some) = pending (subst (λ h. IsAtEndThen h node now key) (stays some) end)
