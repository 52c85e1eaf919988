-- What a mirror asks of another node, as an event of a world.
use Rattle.std.proofs.Common.{◌≡◌, refl, sym, ap, ◌∙◌, subst, arith, ℕ, suc, ◌+◌, ◌<◌, ◌≤◌, Bool, true, false, not, ◌&&◌, nat_le, leb-true, eqb-true, List, ◌∷◌, ◌++◌, length, length-append, Option, Some, inl, inr, IfSome, Result, Ok, Err, IfOk, IfErr, slice_get, get_or, slice_set}
use Rattle.std.proofs.lemmas.Bool.{le-leb}
use Rattle.std.proofs.lemmas.Option.{slice_get-get_or}
use Rattle.std.specs.Prelude.{IsTrue, ◌⊎◌, ◌≢◌, ◌==◌, if◌then◌else◌}
use Rattle.feed_node.specs.Log.{PrimaryState}
use Rattle.feed_node.specs.States.{NodeState}
use Rattle.feed_world.specs.Log.{numbered}
use Rattle.feed_world.specs.declared.event.Asks.{Asks}
use Rattle.feed_world.specs.declared.event.Asks.TheVariants.{ForConnection, ForCommit}
use Rattle.feed_world.specs.declared.event.Event.TheVariants.{Connect}
use Rattle.feed_world.specs.declared.event.Reply.{Reply}
use Rattle.feed_world.specs.declared.event.WorldFault.{WorldFault}
use Rattle.feed_world.specs.declared.event.WorldFault.TheVariants.{NoNode, Memory}
use Rattle.feed_world.specs.Position.{Position, IsPlaceOfLog, node_where}
use Rattle.feed_world.specs.States.{FollowingMirror, IsMirror, AreNodes, Moves, RefusesMove, NodesMove, IsAsked, IsFramedAs, BreaksConnect, all_shown, event_asking, node_asked, mirror_asks}
use Rattle.feed_world.specs.Step.{Move, Outcome, outcome, at_node, is_free, EventIsRefused}
use Rattle.feed_world.specs.World.{Mirror, World, is_other, place_at}
use Rattle.feed_world.proofs.Moved.{Keeps, LeadsTo, keeps_connect, keeps_serve, same_length, mirror_of, IsShown, shown, within, nobody, at, leads, event_moves, refusal_broke, move_fails}

abbrev act : World → Asks → Mirror → Result Move WorldFault
act w asks m = mirror_asks asks m (place_at w (node_asked asks m.upstream))

-- the node that a mirror asks is another one
abbrev AsksOther : World → ℕ → Asks → Type 0
AsksOther w i (ForConnection j back framing) = is_other w i j ≡ true
AsksOther w i ForCommit = Unit {0}

is_event : (w : World) (number : ℕ) (asks : Asks) → AsksOther w number asks → IsFramedAs w.framing asks
    → at_node w number (act w asks) ≡ outcome w (event_asking asks number)
is_event w number (ForConnection j back framing) other framed =
    ap (λ q. at_node w number (act w (ForConnection j back q))) framed
    ∙ ap (λ b. if b then at_node w number (act w (ForConnection j back w.framing)) else Err NoNode) (sym other)
is_event w number ForCommit other framed = refl

keeps : (w : World) (number : ℕ) (asks : Asks) → AsksOther w number asks → IsFramedAs w.framing asks → Keeps w number (act w asks)
keeps w number (ForConnection j back framing) other framed =
    subst (λ q. Keeps w number (act w (ForConnection j back q))) (sym framed) (keeps_connect w number j back other)
keeps w number ForCommit other framed = keeps_serve w number

abbrev Refuses : Outcome → WorldFault → Type 0
Refuses o fault = (o ≡ Err fault) ⊎ ((fault ≡ Memory) × ¬ (IsTrue (is_free o)))

is_refused : (w : World) (number : ℕ) (asks : Asks) (fault : WorldFault)
    → Refuses (outcome w (event_asking asks number)) fault
    → EventIsRefused w (event_asking asks number) fault
is_refused w number (ForConnection j back framing) fault k = k
is_refused w number ForCommit fault k = k

-- no such mirror, or no other node to connect to
no_node : (w : World) (i j back : ℕ) (b : Bool) → is_other w i j ≡ b
    → at_node w i (act w (ForConnection j back w.framing)) ≡ Err NoNode ⊎ (b ≡ false)
    → outcome w (Connect i j back) ≡ Err NoNode
no_node w i j back true e (inl k) = ap (λ b. if b then at_node w i (act w (ForConnection j back w.framing)) else Err NoNode) e ∙ k
no_node w i j back false e k = ap (λ b. if b then at_node w i (act w (ForConnection j back w.framing)) else Err NoNode) e
no_node w i j back true e (inr k) = absurd (cc)

pub asked_nobody : (w : World) (primary : PrimaryState) (fs : List FollowingMirror)
    → AreNodes w primary fs → (number : ℕ) (asks : Asks)
    → ((place : ℕ) → number ≡ suc place → length fs ≤ place)
    → EventIsRefused w (event_asking asks number) NoNode
asked_nobody w primary fs h number (ForConnection j back framing) k =
    inl (no_node w number j back (is_other w number j) refl
    (inl (nobody w primary fs h number (act w (ForConnection j back w.framing)) k)))
asked_nobody w primary fs h number ForCommit k =
    inl (nobody w primary fs h number (act w ForCommit) k)

-- node j is there, and another than node i
is_there : (w : World) (i j : ℕ) → j ≤ length w.mirrors → j ≢ i → is_other w i j ≡ true
is_there w i j within differ = by (j == i) refl
  where
    by : (b : Bool) → (j == i) ≡ b → (nat_le j (length w.mirrors) && not b) ≡ true
    by true e = absurd (differ (eqb-true j i e))
    by false e = ap (λ b. b && true) (le-leb j (length w.mirrors) within)

-- there is none
is_not_there : (w : World) (i j : ℕ) → (j ≡ i) ⊎ (length w.mirrors + 1 ≤ j) → is_other w i j ≡ true → ⊥
is_not_there w i j out = by (nat_le j (length w.mirrors)) (j == i) refl refl
  where
    by : (a b : Bool) → nat_le j (length w.mirrors) ≡ a → (j == i) ≡ b → (a && not b) ≡ true → ⊥
    by false b e f t = absurd (cc)
    by true true e f t = absurd (cc)
    by true false e f t =
        let within = leb-true j (length w.mirrors) e in
        elim out [
          | inl same ↦ (let differs : ¬ (j ≡ i) = grind (arith, f) in differs same)
          | inr past ↦ absurd (omega arith)
        ]

-- the mirror of the number, between the others
module _ (w : World) (primary : PrimaryState) (fs : List FollowingMirror) (h : AreNodes w primary fs)
    (number place : ℕ) (same : number ≡ suc place) (d : FollowingMirror) (less : place < length fs)
    (f : FollowingMirror) (is : f ≡ get_or fs place d) (early later : List FollowingMirror)
    (size : length early ≡ place) (whole : early ++ f ∷ later ≡ fs) (asks : Asks)
    (j : ℕ) (asked : j ≡ node_asked asks f.upstream) (framed : IsFramedAs w.framing asks) where
  mine : (m : Mirror) → IsMirror w.limits (numbered w.log) m (get_or fs place d) → IsMirror w.limits (numbered w.log) m f
  mine m k = subst (IsMirror w.limits (numbered w.log) m) (sym is) k

  -- the node that it asks, which is there
  module _ (node : NodeState) (there : slice_get (all_shown primary (early ++ f ∷ later)) j ≡ Some node) (differs : j ≢ suc (length early)) where
    shows : IsShown w j node
    shows = shown w primary fs h j node (ap (λ l. slice_get (all_shown primary l) j) (sym whole) ∙ there)

    other : AsksOther w number asks
    other = by asks asked
      where
        by : (a : Asks) → j ≡ node_asked a f.upstream → AsksOther w number a
        by (ForConnection i back framing) e = subst (λ k. is_other w number k ≡ true) e (is_there w number j (within w primary fs h j node (ap (λ l. slice_get (all_shown primary l) j) (sym whole) ∙ there)) (λ q. differs (q ∙ same ∙ ap suc (sym size))))
        by ForCommit e = tt

    -- what holds of each place of that node holds of the one in the world
    at_server : (P : Mirror → Option Position → Type 0)
        → ((m : Mirror) (at : Option Position) → IsPlaceOfLog w.limits (numbered w.log) at
        → node ≡ node_where (numbered w.log) at → IsMirror w.limits (numbered w.log) m f → P m at)
        → (m : Mirror) → IsMirror w.limits (numbered w.log) m (get_or fs place d) → P m (place_at w (node_asked asks m.upstream))
    at_server P k m mirror =
        let i = mine m mirror in
        let s = subst (λ q. IsShown w q node) (asked ∙ ap (node_asked asks) i.upstream) shows in
        k m (place_at w (node_asked asks m.upstream)) s.1 s.0 i

    -- the mirror moved, or following a refusal broke off
    moves_on : (g : FollowingMirror) (reply : Reply) (a : Asks) → AsksOther w number a → IsFramedAs w.framing a
        → Moves w.limits (numbered w.log) (act w a (at w primary fs h number place same d less).0) reply g
        → NodesMove w primary (event_asking a number) reply (slice_set fs place g)
    moves_on g reply a o e moves =
        event_moves w primary (event_asking a number) reply _ (subst (λ q. LeadsTo w q primary reply (slice_set fs place g)) (is_event w number a o e)
        (leads w primary fs h number place same d less (act w a) (subst (λ i. Keeps w i (act w a)) same (keeps w number a o e)) reply g moves))

    one_reply : (g : FollowingMirror) (reply : Reply) (a : Asks) → AsksOther w number a → IsFramedAs w.framing a
        → IsAsked w.limits (numbered w.log) a (at w primary fs h number place same d less).0 number (place_at w (node_asked a (at w primary fs h number place same d less).0.upstream)) reply g
        → NodesMove w primary (event_asking a number) reply (slice_set fs place g)
    one_reply g reply (ForConnection j back framing) o e (inl moves) = moves_on g reply (ForConnection j back framing) o e moves
    one_reply g reply (ForConnection j back framing) o e (inr broke) =
        refusal_broke w primary fs h number place same d less j back reply g o broke.0
        (subst (λ q. BreaksConnect w.limits (numbered w.log) q (at w primary fs h number place same d less).0 j back (place_at w j) g) e broke.1)
    one_reply g reply ForCommit o e moves = moves_on g reply ForCommit o e moves

    pub asked_leads : (new : List FollowingMirror) (g : FollowingMirror) → new ≡ slice_set fs place g
        → (r : Result Reply WorldFault)
        → ((m : Mirror) (at : Option Position) → IsPlaceOfLog w.limits (numbered w.log) at
        → node ≡ node_where (numbered w.log) at → IsMirror w.limits (numbered w.log) m f
        → IfOk r (λ reply. IsAsked w.limits (numbered w.log) asks m number at reply g))
        → IfOk r (λ reply. NodesMove w primary (event_asking asks number) reply new)
    asked_leads new g n r k =
        subst (λ l. IfOk r (λ reply. NodesMove w primary (event_asking asks number) reply l)) (sym n)
        (each r (at_server (λ m at. IfOk r (λ reply. IsAsked w.limits (numbered w.log) asks m number at reply g)) k
        (at w primary fs h number place same d less).0 (at w primary fs h number place same d less).2))
      where
        each : (r : Result Reply WorldFault)
            → IfOk r (λ reply. IsAsked w.limits (numbered w.log) asks (at w primary fs h number place same d less).0 number (place_at w (node_asked asks (at w primary fs h number place same d less).0.upstream)) reply g)
            → IfOk r (λ reply. NodesMove w primary (event_asking asks number) reply (slice_set fs place g))
        each (Ok reply) q = one_reply g reply asks other framed q
        each (Err fault) q = tt

    pub asked_fails : (r : Result Reply WorldFault)
        → ((m : Mirror) (at : Option Position) → IsPlaceOfLog w.limits (numbered w.log) at
        → node ≡ node_where (numbered w.log) at → IsMirror w.limits (numbered w.log) m f
        → IfErr r (λ fault. RefusesMove (mirror_asks asks m at) fault))
        → IfErr r (λ fault. EventIsRefused w (event_asking asks number) fault)
    asked_fails r k =
        each_fault r (move_fails w primary fs h number place same d less (act w asks) r
        (at_server (λ m at. IfErr r (λ fault. RefusesMove (mirror_asks asks m at) fault)) k))
      where
        each_fault : (r : Result Reply WorldFault)
            → IfErr r (λ fault. Refuses (at_node w number (act w asks)) fault)
            → IfErr r (λ fault. EventIsRefused w (event_asking asks number) fault)
        each_fault (Ok reply) e = tt
        each_fault (Err fault) e = is_refused w number asks fault (subst (λ o. Refuses o fault) (is_event w number asks other framed) e)

  -- or there is none: a mirror connected to another node, so it was to connect to one now
  pub asked_none : (j ≡ suc (length early)) ⊎ (length early + length later + 2 ≤ j) → EventIsRefused w (event_asking asks number) NoNode
  asked_none out = by asks asked
    where
      past : (j ≡ number) ⊎ (length w.mirrors + 1 ≤ j)
      past = elim out [
        | inl e ↦ inl (e ∙ ap suc size ∙ sym same)
        | inr e ↦
            let l = same_length w.limits (numbered w.log) w.mirrors fs h.mirrors in
            let a = length-append early (f ∷ later) in
            let b = ap length whole in
            inr (omega (arith, e, l, a, b))
      ]

      there : (m : Mirror) × (slice_get w.mirrors place ≡ Some m) × IsMirror w.limits (numbered w.log) m (get_or fs place d)
      there = mirror_of w.limits (numbered w.log) w.mirrors fs place (get_or fs place d) h.mirrors (slice_get-get_or fs place d less)

      connected : is_other w number f.upstream ≡ true
      connected =
          let k = mine there.0 there.2 in
          ap (is_other w number) k.upstream ∙ ap (λ i. is_other w i there.0.upstream) same
          ∙ subst (λ o. IfSome o (λ m. is_other w (suc place) m.upstream ≡ true)) there.1 (h.others place)

      by : (a : Asks) → j ≡ node_asked a f.upstream → EventIsRefused w (event_asking a number) NoNode
      by (ForConnection i back framing) e = inl (gone (is_other w number i) refl)
        where
          gone : (b : Bool) → is_other w number i ≡ b → outcome w (Connect number i back) ≡ Err NoNode
          gone true t = absurd (is_not_there w number j past (ap (is_other w number) e ∙ t))
          gone false t = ap (λ b. if b then at_node w number (act w (ForConnection i back w.framing)) else Err NoNode) t
      by ForCommit e = absurd (is_not_there w number j past (ap (is_other w number) e ∙ connected))
