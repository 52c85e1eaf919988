-- What screens are owed.
use Rattle.std.proofs.Common.{◌≡◌, ◌≢◌, refl, sym, ap, ◌∙◌, subst, ℕ, zero, suc, ◌+◌, ◌<◌, ◌≤◌, arith, Bool, true, false, cond, List, [], ◌∷◌, length, Option, Some, None}
use Rattle.std.specs.Prelude.{slice_index_or}
use Rattle.std.proofs.lemmas.List.{get_or_default}
use Rattle.std.proofs.lemmas.List.Sums.{sum_by-cons}
use Rattle.feed_screens.specs.declared.screens.Screens.{Screens}
use Rattle.feed_screens.specs.declared.screens.pending.Text.{Text}
use Rattle.feed_screens.specs.declared.screens.pending.TextId.{TextId}
use Rattle.feed_screens.specs.Pending.{is_same_text, is_taker, takers, owed_text_at, IsTextAt}
use Rattle.feed_screens.specs.Owed.{pending_texts, held_at, HasYetToTake, OwesWhatIsKept}
use Rattle.feed_screens.proofs.PendingLemmas.{same_is, is_itself, readers_of_it, readers_none, counted_nothing}

one_more : (id : TextId) (held : Option TextId) (places : List (Option TextId)) → takers id (held ∷ places) ≡ cond (is_taker id held) 1 0 + takers id places
unfolding takers
one_more id held places = sum_by-cons (λ p. cond (is_taker id p) 1 0) held places

none_taken : (id : TextId) → takers id [] ≡ 0
unfolding takers
none_taken id = refl

-- where somebody has it, there is a place
taker_of : (id : TextId) (places : List (Option TextId)) → takers id places ≢ 0 → (place : ℕ) × (owed_text_at places place ≡ Some id)
taker_of id [] some = absurd (some (none_taken id))
taker_of id (None ∷ places) some =
    let found = taker_of id places (λ zero_is. some (omega (arith, one_more id None places, zero_is))) in
    (suc found.0, found.1)
taker_of id (Some held ∷ places) some = by (is_same_text held id) refl (taker_of id places)
  where
    by : (b : Bool) → is_same_text held id ≡ b → (takers id places ≢ 0 → (place : ℕ) × (owed_text_at places place ≡ Some id)) → (place : ℕ) × (owed_text_at (Some held ∷ places) place ≡ Some id)
    by true same later = (zero, ap (λ x. Some x) (same_is held id same))
    by false differs later =
        let one : takers id (Some held ∷ places) ≡ cond false 1 0 + takers id places = one_more id (Some held) places ∙ ap (λ b. cond b 1 0 + takers id places) differs in
        let found = later (λ zero_is. some (omega (arith, one, zero_is))) in
        (suc found.0, found.1)

-- and who has it is one of those
place_of : (id : TextId) (places : List (Option TextId)) (place : ℕ) → owed_text_at places place ≡ Some id → takers id places ≢ 0
place_of id [] place held = absurd (cc)
place_of id (p ∷ places) zero held =
    λ none.
    let one : takers id (p ∷ places) ≡ 1 + takers id places = one_more id p places ∙ ap (λ h. cond (is_taker id h) 1 0 + takers id places) held ∙ ap (λ b. cond b 1 0 + takers id places) (is_itself id) in
    let wrong : 1 ≤ 0 = omega (arith, one, none) in
    absurd (omega (arith, wrong))
place_of id (p ∷ places) (suc n) held =
    λ none.
    let one = one_more id p places in
    place_of id places n held (omega (arith, one, none))

pub owes_what_is_kept : (screens : Screens) → OwesWhatIsKept screens
owes_what_is_kept screens =
    record {
      taken = λ at within d. taken_by (slice_index_or (pending_texts screens) at d) at (record { within = within; is = λ e. get_same at within e d });
      counted = λ place id held none.
          let so = screens.pending.counted id in
          let nothing = readers_none id (pending_texts screens) none in
          place_of id screens.pending.places.items place held (sym so ∙ nothing);
      once = screens.pending.texts.once;
      nobody = λ nobody. counted_nothing (pending_texts screens) screens.pending.places.items screens.pending.texts.read screens.pending.counted (λ at. screens.connected at (nobody at));
    }
  where
    get_same : (at : ℕ) → at < length (pending_texts screens) → (e d : Text) → slice_index_or (pending_texts screens) at e ≡ slice_index_or (pending_texts screens) at d
    get_same at within e d = get_or_default (pending_texts screens) at e d within

    held_by : (id : TextId) → (place : ℕ) × (held_at screens place ≡ Some id) → HasYetToTake screens id
    held_by id found =
        record {
          place = found.0;
          held = found.1;
          connected = λ gone. let wrong : None ≡ Some id = sym (screens.connected found.0 gone) ∙ found.1 in absurd (cc);
        }

    taken_by : (text : Text) (at : ℕ) → IsTextAt (pending_texts screens) text at → HasYetToTake screens text.id
    taken_by text at there =
        let most = readers_of_it (pending_texts screens) text at there in
        let so = screens.pending.counted text.id in
        let some : text.readers ≢ 0 = subst (λ t. t.readers ≢ 0) (there.is text) (screens.pending.texts.read at there.within text) in
        held_by text.id (taker_of text.id screens.pending.places.items (λ none. some (omega (arith, most, so, none))))
