-- Each text that screens have yet to take has as many readers as there are places where one has it.
use Rattle.std.proofs.Common.{◌≡◌, ◌≢◌, refl, sym, ap, ◌∙◌, subst, ℕ, zero, suc, ◌+◌, ◌<◌, ◌≤◌, ◌-◌, ◌^◌, ◌*◌, inl, inr, min, arith, Bool, true, false, cond, List, [], ◌∷◌, ◌++◌, length, Option, Some, None}
use Rattle.std.specs.Prelude.{if◌then◌else◌, slice_index_or, slice_set, remove}
use Rattle.std.proofs.lemmas.List.{get_or_default}
use Rattle.std.proofs.lemmas.List.Sums.{sum_by-set, sum_by-remove, sum_by_push, sum_by-le, count_by-le-length, get_or-le-sum_by}
use Rattle.std.proofs.lemmas.Bool.{eqb-true as number_is, eq-eqb}
use Rattle.feed_screens.specs.declared.screens.pending.Text.{Text}
use Rattle.feed_screens.specs.declared.screens.pending.TextId.{TextId}
use Rattle.feed_screens.specs.declared.screens.pending.TextId.TheVariants.{Opening, Own, Commit}
use Rattle.feed_screens.specs.Pending.{total, is_same_text, is_taker, takers, readers, owed_text_at, text_with_readers, IsTextAt, HasNone, Adds, Removes, HaveReaders, AreCounted}

-- ---- ids

pub same_is : (a b : TextId) → is_same_text a b ≡ true → a ≡ b
unfolding is_same_text
same_is (Opening a) (Opening b) same = ap (λ x. Opening x) (number_is a b same)
same_is (Own a) (Own b) same = ap (λ x. Own x) (number_is a b same)
same_is (Commit a) (Commit b) same = ap (λ x. Commit x) (number_is a b same)
same_is (Opening a) (Own b) same = absurd (cc)
same_is (Opening a) (Commit b) same = absurd (cc)
same_is (Own a) (Opening b) same = absurd (cc)
same_is (Own a) (Commit b) same = absurd (cc)
same_is (Commit a) (Opening b) same = absurd (cc)
same_is (Commit a) (Own b) same = absurd (cc)

pub is_itself : (a : TextId) → is_same_text a a ≡ true
unfolding is_same_text
is_itself (Opening a) = eq-eqb a a refl
is_itself (Own a) = eq-eqb a a refl
is_itself (Commit a) = eq-eqb a a refl

-- ---- sums

-- so many, where this is so
share : ℕ → Bool → ℕ
share n b = if b then n else 0

share_more : (b : Bool) (n m : ℕ) → (b ≡ true → m ≡ n + 1) → share m b ≡ share n b + share 1 b
unfolding share
share_more true n m more = omega (arith, more refl)
share_more false n m more = refl

share_one : (b : Bool) (n : ℕ) → n ≡ 1 → share n b ≡ share 1 b
share_one b n one = ap (λ x. share x b) one

pub text_at_pushed : (places : List (Option TextId)) (at : ℕ) → owed_text_at (places ++ None ∷ []) at ≡ owed_text_at places at
text_at_pushed [] zero = refl
text_at_pushed [] (suc n) = refl
text_at_pushed (p ∷ ps) zero = refl
text_at_pushed (p ∷ ps) (suc n) = text_at_pushed ps n

pub takers_pushed : (id : TextId) (places : List (Option TextId)) → takers id (places ++ None ∷ []) ≡ takers id places
unfolding takers
takers_pushed id places = omega (arith, sum_by_push (λ p. cond (is_taker id p) 1 0) places None)

takers_set : (id : TextId) (places : List (Option TextId)) (at : ℕ) (held next : Option TextId) → at < length places → owed_text_at places at ≡ held
    → takers id (slice_set places at next) + share 1 (is_taker id held) ≡ takers id places + share 1 (is_taker id next)
unfolding takers share
takers_set id places at held next within is =
    subst (λ h. takers id (slice_set places at next) + share 1 (is_taker id h) ≡ takers id places + share 1 (is_taker id next)) is
    (sum_by-set (λ p. cond (is_taker id p) 1 0) places at next None within)

takers_few : (id : TextId) (places : List (Option TextId)) → takers id places ≤ length places
unfolding takers
takers_few id places = count_by-le-length (is_taker id) places

takers_none : (id : TextId) (places : List (Option TextId)) → ((at : ℕ) → owed_text_at places at ≡ None) → takers id places ≡ 0
unfolding takers
takers_none id places none =
    let few : takers id places ≤ length places * 0 = sum_by-le (λ p. cond (is_taker id p) 1 0) 0 places (λ k d within. subst (λ p. cond (is_taker id p) 1 0 ≤ 0) (sym (none k) ∙ get_or_default places k None d within) (omega arith)) in
    omega (arith, few)

-- how many readers a text has of this id
part : TextId → Text → ℕ
part id text = if is_same_text text.id id then text.readers else 0

part_is : (id other : TextId) (text : Text) → text.id ≡ id → part other text ≡ share text.readers (is_same_text id other)
unfolding part share
part_is id other text is = ap (λ x. if is_same_text x other then text.readers else 0) is

readers_pushed : (id other : TextId) (bytes : ℕ) (texts : List Text) → readers other (texts ++ text_with_readers id bytes 1 ∷ []) ≡ readers other texts + share 1 (is_same_text id other)
unfolding readers share
readers_pushed id other bytes texts = sum_by_push (λ text. if is_same_text text.id other then text.readers else 0) texts (text_with_readers id bytes 1)

readers_set : (id other : TextId) (texts : List Text) (text : Text) (at bytes n : ℕ) → IsTextAt texts text at → text.id ≡ id
    → readers other (slice_set texts at (text_with_readers id bytes n)) + share text.readers (is_same_text id other) ≡ readers other texts + share n (is_same_text id other)
unfolding readers share part
readers_set id other texts text at bytes n there is =
    subst (λ x. readers other (slice_set texts at (text_with_readers id bytes n)) + x ≡ readers other texts + share n (is_same_text id other)) (ap (part other) (there.is text) ∙ part_is id other text is)
    (sum_by-set (part other) texts at (text_with_readers id bytes n) text there.within)

readers_gone : (id other : TextId) (texts : List Text) (text : Text) (at : ℕ) → IsTextAt texts text at → text.id ≡ id
    → readers other (remove texts at) + share text.readers (is_same_text id other) ≡ readers other texts
unfolding readers share part
readers_gone id other texts text at there is =
    subst (λ x. readers other (remove texts at) + x ≡ readers other texts) (ap (part other) (there.is text) ∙ part_is id other text is)
    (sum_by-remove (part other) texts at text there.within)

pub readers_of_it : (texts : List Text) (text : Text) (at : ℕ) → IsTextAt texts text at → text.readers ≤ readers text.id texts
unfolding readers part
readers_of_it texts text at there =
    let most : part text.id (slice_index_or texts at text) ≤ readers text.id texts = get_or-le-sum_by (part text.id) texts at text there.within in
    let is : part text.id text ≡ text.readers = ap (λ b. if b then text.readers else 0) (is_itself text.id) in
    subst (λ n. n ≤ readers text.id texts) (ap (part text.id) (there.is text) ∙ is) most

pub readers_none : (id : TextId) (texts : List Text) → HasNone texts id → readers id texts ≡ 0
unfolding readers part
readers_none id texts none =
    let few : readers id texts ≤ length texts * 0 = sum_by-le (part id) 0 texts (λ k d within. nothing (slice_index_or texts k d) (none k within d)) in
    omega (arith, few)
  where
    by : (text : Text) (b : Bool) → is_same_text text.id id ≡ b → text.id ≢ id → (if b then text.readers else 0) ≤ 0
    by text true same differs = absurd (differs (same_is text.id id same))
    by text false same differs = omega (arith)

    nothing : (text : Text) → text.id ≢ id → part id text ≤ 0
    nothing text differs = by text (is_same_text text.id id) refl differs

-- ---- steps

pub counted_more : (id : TextId) (bytes : ℕ) (old new : List Text) (places : List (Option TextId)) (at : ℕ) → Adds id bytes old new → at < length places → owed_text_at places at ≡ None
    → length places < 2 ^ 63 → AreCounted old places → AreCounted new (slice_set places at (Some id))
unfolding share
counted_more id bytes old new places at (inl (none, is)) within free few counted =
    λ other.
    let taken = takers_set other places at None (Some id) within free in
    let more = readers_pushed id other bytes old in
    let so = counted other in
    subst (λ texts. readers other texts ≡ takers other (slice_set places at (Some id))) (sym is)
    (omega (arith, taken, more, so))
counted_more id bytes old new places at (inr counts) within free few counted =
    λ other.
    let taken = takers_set other places at None (Some id) within free in
    let set = readers_set id other old counts.text counts.at counts.text.length counts.readers counts.there counts.id_is in
    let so = counted other in
    let most : counts.text.readers ≤ readers counts.text.id old = readers_of_it old counts.text counts.at counts.there in
    let its = counted counts.text.id in
    let fits = takers_few counts.text.id places in
    let becomes : counts.readers ≡ min (counts.text.readers + 1) (2 ^ 64 - 1) = counts.becomes in
    let one : counts.readers ≡ counts.text.readers + 1 = omega (arith, most, its, fits, few, becomes) in
    let shared = share_more (is_same_text id other) counts.text.readers counts.readers (λ _. one) in
    subst (λ texts. readers other texts ≡ takers other (slice_set places at (Some id))) (sym counts.is)
    (omega (arith, taken, set, so, shared))

pub counted_less : (id : TextId) (old new : List Text) (places : List (Option TextId)) (at : ℕ) → Removes id old new → at < length places → owed_text_at places at ≡ Some id
    → AreCounted old places → AreCounted new (slice_set places at None)
unfolding share
counted_less id old new places at (inl goes) within held counted =
    λ other.
    let taken = takers_set other places at (Some id) None within held in
    let gone = readers_gone id other old goes.text goes.at goes.there goes.id_is in
    let shared = share_one (is_same_text id other) goes.text.readers goes.last in
    let so = counted other in
    subst (λ texts. readers other texts ≡ takers other (slice_set places at None)) (sym goes.is)
    (omega (arith, taken, gone, so, shared))
counted_less id old new places at (inr (inl counts)) within held counted =
    λ other.
    let taken = takers_set other places at (Some id) None within held in
    let set = readers_set id other old counts.text counts.at counts.text.length counts.readers counts.there counts.id_is in
    let so = counted other in
    let shared = share_more (is_same_text id other) counts.readers counts.text.readers (λ _. counts.becomes) in
    subst (λ texts. readers other texts ≡ takers other (slice_set places at None)) (sym counts.is)
    (omega (arith, taken, set, so, shared))
counted_less id old new places at (inr (inr (none, is))) within held counted =
    let taken = takers_set id places at (Some id) None within held in
    let one : share 1 (is_same_text id id) ≡ 1 = ap (λ b. share 1 b) (is_itself id) in
    let so = counted id in
    let zero = readers_none id old none in
    let wrong : 1 ≤ 0 = omega (arith, taken, one, so, zero) in
    absurd (omega (arith, wrong))

-- ---- nobody

pub counted_nothing : (texts : List Text) (places : List (Option TextId)) → HaveReaders texts → AreCounted texts places → ((at : ℕ) → owed_text_at places at ≡ None) → total texts ≡ 0
counted_nothing [] places read counted none = refl
counted_nothing (text ∷ texts) places read counted none =
    let there : IsTextAt (text ∷ texts) text 0 = record { within = omega arith; is = λ d. refl } in
    let most = readers_of_it (text ∷ texts) text 0 there in
    let so = counted text.id in
    let zero = takers_none text.id places none in
    let some : text.readers ≢ 0 = read 0 (omega arith) text in
    absurd (some (omega (arith, most, so, zero)))
