-- A mask of the bytes ahead: where the first of them stands, and what is left of it behind them.
use Rattle.std.proofs.Common.{◌≡◌, ℕ, zero, suc, ◌+◌, ◌-◌, ◌*◌, ◌/◌, ◌<◌, ◌≤◌, ◌^◌, Bool, true, false, cond, List, [], ◌∷◌, ◌++◌, map, length, take, drop, eqb, Option, Some, None, IfSome, Bor, refl, sym, ap, subst, ◌∙◌, arith, pow-suc, mul_comm, length-append, inl, inr, eq-eqb}
use Rattle.std.specs.Prelude.{not, slice_index}
use Rattle.std.specs.List.{prefix_len}
use Rattle.std.proofs.lemmas.List.{length-take, take-append-drop, drop-map, drop_at, drop-drop, get_or-drop}
use Rattle.std.proofs.lemmas.Bool.{eqb-true, eqb-false}
use Rattle.std.proofs.lemmas.Option.{same_Some}
use Rattle.std.proofs.lemmas.Simd.{trailing_mask_l}
use native.Mathlib.Nat.{zero-div, div-one, div-div-eq-div-mul}
use lib.Count.{count_trailing_zeros}
use lib.Lanes.{mask_l}
use Rattle.feed_text.specs.Ascii.{quotation_mark, space, colon, comma, right_brace}
use Rattle.feed_text.specs.Json.{is_white_space}
use Rattle.feed_text.specs.Members.{Spelling}
use Rattle.feed_text.specs.Reading.{Foresees, is_stop, is_unescaped, rest_while, bytes_of, rest_of, or_nothing, first, behind_first, string_at, characters_at, parts_until, behind, item_at, pair_at, value_at}
use Rattle.feed_text.proofs.Parts.{with_first, not_first}
use Rattle.feed_text.proofs.PrefixReaders.{chosen, map_some}
use Rattle.feed_text.proofs.Values.{value_text}
use Rattle.feed_text.proofs.Depths.{reads_value}
use Rattle.feed_text.proofs.Rests.{string_rest, string_none, value_string}
use Rattle.feed_text.proofs.Runs.{up_to}
use Rattle.feed_text.proofs.Skips.{no_white, item_rest, member_rest, next_member, last_member, shorter_member}
use Rattle.feed_text.proofs.Strings.{at_quote, run_reads}

-- ---- what is left of a mask

half : (b : Bool) (n : ℕ) → (cond b 1 0 + 2 * n) / 2 ≡ n
half true n = omega arith
half false n = omega arith

mask-drop : (bs : List Bool) (k : ℕ) → mask_l bs / 2 ^ k ≡ mask_l (drop k bs)
mask-drop bs zero = div-one (mask_l bs)
mask-drop [] (suc k) = zero-div (2 ^ suc k)
mask-drop (b ∷ bs) (suc k) =
    ap (λ n. mask_l (b ∷ bs) / n) (pow-suc 2 k ∙ mul_comm (2 ^ k) 2) ∙ sym (div-div-eq-div-mul (mask_l (b ∷ bs)) 2 (2 ^ k)) ∙ ap (λ n. n / 2 ^ k) (half b (mask_l bs)) ∙ mask-drop bs k

none_of_nothing : (n : ℕ) → ◌≡◌ {A = List ℕ} [] (take n [])
none_of_nothing zero = refl
none_of_nothing (suc n) = refl

drop_of_take : (k n : ℕ) (xs : List ℕ) → drop k (take n xs) ≡ take (n - k) (drop k xs)
drop_of_take zero n xs =
    let same : n ≡ n - 0 = omega arith in
    ap (λ m. take m xs) same
drop_of_take (suc k) zero xs =
    let none : 0 ≡ 0 - suc k = omega arith in
    ap (λ m. take m (drop (suc k) xs)) none
drop_of_take (suc k) (suc n) [] = none_of_nothing (suc n - suc k)
drop_of_take (suc k) (suc n) (x ∷ xs) =
    let same : n - k ≡ suc n - suc k = omega arith in
    drop_of_take k n xs ∙ ap (λ m. take m (drop k xs)) same

pub foresees_behind : (k stops : ℕ) (text : List ℕ) → Foresees stops text → Foresees (stops / 2 ^ k) (drop k text)
unfolding Foresees
foresees_behind k stops text h =
    (h.0 - k, omega (arith, h.1), ap (λ n. n / 2 ^ k) h.2 ∙ mask-drop (map is_stop (take h.0 text)) k ∙ ap mask_l (drop-map is_stop k (take h.0 text) ∙ ap (map is_stop) (drop_of_take k h.0 text)))

pub foresees_nothing : (text : List ℕ) → Foresees 0 text
unfolding Foresees
foresees_nothing text = (0, omega arith, refl)

pub foresees_block : (count stops : ℕ) (text : List ℕ) → count ≤ 64 → stops ≡ mask_l (map is_stop (take count text)) → Foresees stops text
unfolding Foresees
foresees_block count stops text le e = (count, le, e)

-- ---- the lowest bit

lowest_stop : (count stops : ℕ) (text : List ℕ) → count ≤ 64 → stops ≡ mask_l (map is_stop (take count text)) → 0 < stops → count_trailing_zeros 64 stops ≡ prefix_len (λ x. not (is_stop x)) (take count text)
lowest_stop count stops text le mask some = ap (count_trailing_zeros 64) mask ∙ trailing_mask_l is_stop 64 (take count text) (omega (arith, length-take count text)) (omega arith)

within : (xs : List ℕ) → 0 < mask_l (map is_stop xs) → prefix_len (λ x. not (is_stop x)) xs < length xs
within [] some = absurd (omega arith)
within (x ∷ xs) some = by (is_unescaped x) some (within xs)
  where
    by : (v : Bool) → 0 < cond (not v) 1 0 + 2 * mask_l (map is_stop xs) → (0 < mask_l (map is_stop xs) → prefix_len (λ x. not (is_stop x)) xs < length xs) → cond (not (not v)) (1 + prefix_len (λ x. not (is_stop x)) xs) 0 < length (x ∷ xs)
    by true e others =
        let less = others (omega arith) in
        omega arith
    by false e others = omega arith

pub stop_inside : (stops : ℕ) (text : List ℕ) → Foresees stops text → 0 < stops → count_trailing_zeros 64 stops < length text
unfolding Foresees
stop_inside stops text h some =
    omega (arith, lowest_stop h.0 stops text h.1 h.2 some, within (take h.0 text) (omega (arith, h.2)), length-take h.0 text)

to_stop : (stops : ℕ) (text : List ℕ) → Foresees stops text → 0 < stops → drop (count_trailing_zeros 64 stops) text ≡ rest_while is_unescaped text
unfolding Foresees
to_stop stops text h some =
    let block = take h.0 text in
    let whole : block ++ drop h.0 text ≡ text = take-append-drop h.0 text in
    sym (ap (rest_while is_unescaped) (sym whole) ∙ up_to block (drop h.0 text) (omega (arith, h.2)) ∙ ap (drop (prefix_len (λ x. not (is_stop x)) block)) whole ∙ ap (λ (n : ℕ). drop n text) (sym (lowest_stop h.0 stops text h.1 h.2 some)))

-- ---- behind a byte, and behind a string

behind_some : (byte : ℕ) (text rest : List ℕ) → Some rest ≡ behind_first byte text → (first text ≡ byte) × (drop 1 text ≡ rest)
behind_some byte text rest e =
    elim (chosen (eqb (first text) byte) (Some (drop 1 text)) None (Some rest) (sym e)) [
      | inl h ↦ (eqb-true (first text) byte h.0, same_Some _ _ h.1)
      | inr h ↦ absurd cc
    ]

pub foresees_rest : (stops byte : ℕ) (text rest : List ℕ) → Foresees stops text → Some rest ≡ behind_first byte text → Foresees (stops / 2) rest
foresees_rest stops byte text rest h e = subst (Foresees (stops / 2)) (behind_some byte text rest e).1 (foresees_behind 1 stops text h)

string_from : (text inside rest : List ℕ) → Some inside ≡ behind_first quotation_mark text → Some rest ≡ behind_first quotation_mark (rest_while is_unescaped inside) → Some rest ≡ rest_of (string_at text)
string_from text inside rest a b =
    let opening = behind_some quotation_mark text inside a in
    let run = rest_while is_unescaped inside in
    let closing = behind_some quotation_mark run rest b in
    ap Some (sym closing.1) ∙ sym (at_quote run closing.0) ∙ run_reads inside ∙ ap (λ t. rest_of (characters_at t)) (sym opening.1) ∙ sym (string_rest text opening.0)

pub closing : (stops : ℕ) (text : List ℕ) → Foresees stops text → 0 < stops → slice_index text (count_trailing_zeros 64 stops) ≡ quotation_mark → Some (drop (count_trailing_zeros 64 stops + 1) text) ≡ behind_first quotation_mark (rest_while is_unescaped text)
closing stops text h some here =
    let count = count_trailing_zeros 64 stops in
    let place : count + 0 ≡ count = omega arith in
    let at : first (drop count text) ≡ quotation_mark = get_or-drop count text 0 0 ∙ ap (λ n. slice_index text n) place ∙ here in
    let there : behind_first quotation_mark (drop count text) ≡ Some (drop 1 (drop count text)) = rw (eq-eqb (first (drop count text)) quotation_mark at) refl in
    ap Some (sym (drop-drop 1 count text)) ∙ sym there ∙ ap (behind_first quotation_mark) (to_stop stops text h some)

pub foresees_closing : (count stops : ℕ) (text : List ℕ) → Foresees stops text → Foresees (stops / 2 ^ count / 2) (drop (count + 1) text)
foresees_closing count stops text h = subst (Foresees (stops / 2 ^ count / 2)) (drop-drop 1 count text) (foresees_behind 1 (stops / 2 ^ count) (drop count text) (foresees_behind count stops text h))

pub plain_string : {A : Type 0} (view : A → List ℕ) (o : Option A) (text inside : List ℕ) → Some inside ≡ behind_first quotation_mark text → IfSome o (λ r. Some (view r) ≡ behind_first quotation_mark (rest_while is_unescaped inside)) → IfSome o (λ r. Some (view r) ≡ rest_of (string_at text))
plain_string view None text inside a b = tt
plain_string view (Some r) text inside a b = string_from text inside (view r) a b

-- ---- a member and an item

string_first : (text rest : List ℕ) → Some rest ≡ rest_of (string_at text) → first text ≡ quotation_mark
string_first text rest e = by (eqb (first text) quotation_mark) refl
  where
    by : (v : Bool) → eqb (first text) quotation_mark ≡ v → first text ≡ quotation_mark
    by true is = eqb-true (first text) quotation_mark is
    by false is =
        let none : Some rest ≡ None = e ∙ string_none text (eqb-false (first text) quotation_mark is) in
        absurd cc

pub plain_item : (levels : ℕ) (text rest : List ℕ) → Some rest ≡ rest_of (string_at (rest_while is_white_space text)) → rest_while is_white_space rest ≡ or_nothing (rest_of (item_at (value_at levels) text))
plain_item levels text rest e =
    let white = rest_while is_white_space text in
    sym (item_rest levels text ∙ ap (λ (f : Option (List ℕ)). rest_while is_white_space (or_nothing f)) (value_string levels white (string_first white rest e) ∙ sym e))

end_some : (byte : ℕ) (text more : List ℕ) (f : Option (List ℕ)) → 0 < byte → rest_of (string_at text) ≡ f → Some more ≡ behind_first byte (or_nothing f) → (end : List ℕ) × (Some end ≡ rest_of (string_at text)) × (first end ≡ byte) × (drop 1 end ≡ more)
end_some byte text more None some e behind = absurd (omega (arith, (behind_some byte [] more behind).0))
end_some byte text more (Some end) some e behind =
    let there = behind_some byte end more behind in
    (end, sym e, there.0, there.1)

pub plain_member : (levels : ℕ) (text value : List ℕ) → Some value ≡ behind_first colon (or_nothing (rest_of (string_at (rest_while is_white_space text)))) → or_nothing (rest_of (pair_at (value_at levels) text)) ≡ or_nothing (rest_of (item_at (value_at levels) value))
plain_member levels text value e =
    let white = rest_while is_white_space text in
    let k = end_some colon white value (rest_of (string_at white)) (omega arith) refl e in
    let same : rest_while is_white_space (or_nothing (rest_of (string_at white))) ≡ k.0 =
    ap (λ (f : Option (List ℕ)). rest_while is_white_space (or_nothing f)) (sym k.1) ∙ no_white k.0 colon (omega arith) k.2
    in
    member_rest levels text (ap first same ∙ k.2) ∙ ap (λ (t : List ℕ). or_nothing (rest_of (item_at (value_at levels) (drop 1 t)))) same ∙ ap (λ (t : List ℕ). or_nothing (rest_of (item_at (value_at levels) t))) k.3

pub plain_members : (levels : ℕ) (text value more : List ℕ) → Some value ≡ behind_first colon (or_nothing (rest_of (string_at (rest_while is_white_space text)))) → Some more ≡ behind_first comma (or_nothing (rest_of (string_at (rest_while is_white_space value)))) → Some more ≡ behind_first comma (or_nothing (rest_of (pair_at (value_at levels) text)))
plain_members levels text value more a b =
    let white = rest_while is_white_space value in
    let k = end_some comma white more (rest_of (string_at white)) (omega arith) refl b in
    let same : or_nothing (rest_of (pair_at (value_at levels) text)) ≡ or_nothing (rest_of (string_at white)) =
    plain_member levels text value a ∙ sym (plain_item levels value k.0 k.1) ∙ no_white k.0 comma (omega arith) k.2 ∙ ap or_nothing k.1
    in
    b ∙ ap (behind_first comma) (sym same)

-- ---- a space before them

-- none stands before a string
string_white : (byte : ℕ) (text rest : List ℕ) → 0 < byte → Some rest ≡ behind_first byte (or_nothing (rest_of (string_at text))) → rest_while is_white_space text ≡ text
string_white byte text rest positive e =
    let k = end_some byte text rest (rest_of (string_at text)) positive refl e in
    no_white text quotation_mark (omega arith) (string_first text k.0 k.1)

pub no_space : (byte : ℕ) (text rest : List ℕ) → 0 < byte → Some rest ≡ behind_first byte (or_nothing (rest_of (string_at text))) → Some rest ≡ behind_first byte (or_nothing (rest_of (string_at (rest_while is_white_space text))))
no_space byte text rest positive e = e ∙ ap (λ (t : List ℕ). behind_first byte (or_nothing (rest_of (string_at t)))) (sym (string_white byte text rest positive e))

pub white_behind : (text inside : List ℕ) → Some inside ≡ behind_first space text → rest_while is_white_space inside ≡ rest_while is_white_space text
white_behind text inside e =
    let b = behind_some space text inside e in
    sym (ap (rest_while is_white_space) (with_first space text (omega arith) b.0 ∙ ap (λ (t : List ℕ). space ∷ t) b.1))

pub one_space : {A : Type 0} (view : A → List ℕ) (o : Option A) (byte : ℕ) (text inside : List ℕ) → 0 < byte → Some inside ≡ behind_first space text → IfSome o (λ r. Some (view r) ≡ behind_first byte (or_nothing (rest_of (string_at inside)))) → IfSome o (λ r. Some (view r) ≡ behind_first byte (or_nothing (rest_of (string_at (rest_while is_white_space text)))))
one_space view None byte text inside positive e h = tt
one_space view (Some r) byte text inside positive e h =
    no_space byte inside (view r) positive h ∙ ap (λ (t : List ℕ). behind_first byte (or_nothing (rest_of (string_at t)))) (white_behind text inside e)

pub same_item : (levels : ℕ) (text other : List ℕ) → rest_while is_white_space text ≡ rest_while is_white_space other → or_nothing (rest_of (item_at (value_at levels) text)) ≡ or_nothing (rest_of (item_at (value_at levels) other))
same_item levels text other white =
    item_rest levels text ∙ ap (λ (t : List ℕ). rest_while is_white_space (or_nothing (rest_of (value_at levels t)))) white ∙ sym (item_rest levels other)

-- ---- the members up to the closing brace

pub more_members : (levels : ℕ) (text rest more : List ℕ) → rest ≡ or_nothing (rest_of (pair_at (value_at levels) text)) → Some more ≡ behind_first comma rest
    → (rest_of (parts_until right_brace (behind comma (pair_at (value_at levels))) (or_nothing (rest_of (pair_at (value_at levels) more)))) ≡ rest_of (parts_until right_brace (behind comma (pair_at (value_at levels))) (or_nothing (rest_of (pair_at (value_at levels) text))))) × (length more < length text)
more_members levels text rest more e there =
    let b = behind_some comma rest more there in
    let whole = or_nothing (rest_of (pair_at (value_at levels) text)) in
    let here : first whole ≡ comma = ap first (sym e) ∙ b.0 in
    let left : drop 1 whole ≡ more = ap (drop 1) (sym e) ∙ b.1 in
    (ap (λ (t : List ℕ). rest_of (parts_until right_brace (behind comma (pair_at (value_at levels))) (or_nothing (rest_of (pair_at (value_at levels) t))))) (sym left) ∙ next_member levels whole here, omega (arith, shorter_member levels text here, ap length left))

pub no_more_members : (levels : ℕ) (text rest : List ℕ) → rest ≡ or_nothing (rest_of (pair_at (value_at levels) text)) → None ≡ behind_first comma rest
    → behind_first right_brace rest ≡ rest_of (parts_until right_brace (behind comma (pair_at (value_at levels))) (or_nothing (rest_of (pair_at (value_at levels) text))))
no_more_members levels text rest e none =
    sym (last_member levels rest (not_first comma rest none)) ∙ ap (λ (t : List ℕ). rest_of (parts_until right_brace (behind comma (pair_at (value_at levels))) t)) e

-- ---- the end of a value

-- what is left behind a value stands at the end of the text
end_of : (text before rest : List ℕ) → text ≡ before ++ rest → (length rest ≤ length text) × (rest ≡ drop (length text - length rest) text)
end_of text before rest e =
    let long : length text ≡ length before + length rest = ap length e ∙ length-append before rest in
    let count : length before ≡ length text - length rest = omega arith in
    (omega arith, sym (ap (drop (length text - length rest)) e ∙ drop_at before rest (length text - length rest) count))

pub value_end : (levels : ℕ) (text : List ℕ) (found : Option (Bor (List ℕ))) → bytes_of found ≡ rest_of (value_at levels text) → IfSome found (λ r. (length r.now ≤ length text) × (r.now ≡ drop (length text - length r.now) text))
value_end levels text None e = tt
value_end levels text (Some r) e =
    let x = map_some (λ (y : Spelling × List ℕ). y.1) (value_at levels text) r.now (sym e) in
    let s = (reads_value levels).sound text x.0.0 x.0.1 x.1 in
    end_of text (value_text x.0.0) r.now (s.1 ∙ ap (λ (t : List ℕ). value_text x.0.0 ++ t) x.2)
