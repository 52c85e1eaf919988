-- A value has an opening bracket at least for each level that it nests.
use Rattle.std.proofs.Common.{◌≡◌, ℕ, ◌+◌, ◌<◌, ◌≤◌, List, [], ◌∷◌, ◌++◌, length, false, cond, ap, refl, arith}
use Rattle.std.specs.Prelude.{max, count_by, nat_lt}
use Rattle.std.proofs.lemmas.List.Sums.{sum_by-append, sum_by-cons}
use Rattle.feed_text.specs.Json.{Value, Elements, Members, print, print_elements, print_members, depth, depth_of_elements, depth_of_members, null_literal, true_literal, false_literal, number, string, empty_array, array, empty_object, object, last_element, element, last_member, member}
use Rattle.feed_text.specs.Nesting.{is_opening}
use Rattle.feed_note.specs.Reading.{is_too_large}

abbrev one_if_opening : ℕ → ℕ
one_if_opening b = cond (is_opening b) 1 0

abbrev opened : List ℕ → ℕ
opened text = count_by is_opening text

joined : (xs ys : List ℕ) → opened (xs ++ ys) ≡ opened xs + opened ys
joined xs ys = sum_by-append one_if_opening xs ys

one_more : (b : ℕ) (xs : List ℕ) → opened (b ∷ xs) ≡ one_if_opening b + opened xs
one_more b xs = sum_by-cons one_if_opening b xs

behind : (xs ys : List ℕ) (n : ℕ) → n ≤ opened ys → n ≤ opened (xs ++ ys)
behind xs ys n h = omega (arith, h, joined xs ys)

within : (xs ys : List ℕ) (n : ℕ) → n ≤ opened xs → n ≤ opened (xs ++ ys)
within xs ys n h = omega (arith, h, joined xs ys)

after : (b : ℕ) (xs : List ℕ) (n : ℕ) → n ≤ opened xs → n ≤ opened (b ∷ xs)
after b xs n h = omega (arith, h, one_more b xs)

greater : (m n k : ℕ) → m ≤ k → n ≤ k → max m n ≤ k
greater m n k h g = omega (arith, h, g)

behind_key : (w k x y t : List ℕ) (n : ℕ) → n ≤ opened t → n ≤ opened (w ++ (k ++ (x ++ 58 ∷ (y ++ t))))
behind_key w k x y t n h = behind w (k ++ (x ++ 58 ∷ (y ++ t))) n (behind k (x ++ 58 ∷ (y ++ t)) n (behind x (58 ∷ (y ++ t)) n (after 58 (y ++ t) n (behind y t n h))))

mutual
  pub one_for_each : (v : Value) → depth v ≤ opened (print v)
  one_for_each null_literal = omega arith
  one_for_each true_literal = omega arith
  one_for_each false_literal = omega arith
  one_for_each (number t) = omega arith
  one_for_each (string s) = omega arith
  one_for_each (empty_array w) = let h = one_more 91 (w ++ 93 ∷ []) in omega (arith, h)
  one_for_each (array es) = let h = one_for_elements es in let g = one_more 91 (print_elements es) in omega (arith, h, g)
  one_for_each (empty_object w) = let h = one_more 123 (w ++ 125 ∷ []) in omega (arith, h)
  one_for_each (object ms) = let h = one_for_members ms in let g = one_more 123 (print_members ms) in omega (arith, h, g)

  one_for_elements : (es : Elements) → depth_of_elements es ≤ opened (print_elements es)
  one_for_elements (last_element w v x) = behind w (print v ++ (x ++ 93 ∷ [])) (depth v) (within (print v) (x ++ 93 ∷ []) (depth v) (one_for_each v))
  one_for_elements (element w v x es) =
      let k = depth_of_elements es in
      let more : List ℕ = 44 ∷ print_elements es in
      greater (depth v) k (opened (w ++ (print v ++ (x ++ more))))
      (behind w (print v ++ (x ++ more)) (depth v) (within (print v) (x ++ more) (depth v) (one_for_each v)))
      (behind w (print v ++ (x ++ more)) k (behind (print v) (x ++ more) k (behind x more k (after 44 (print_elements es) k (one_for_elements es)))))

  one_for_members : (ms : Members) → depth_of_members ms ≤ opened (print_members ms)
  one_for_members (last_member w k x y v z) = behind_key w k x y (print v ++ (z ++ 125 ∷ [])) (depth v) (within (print v) (z ++ 125 ∷ []) (depth v) (one_for_each v))
  one_for_members (member w k x y v z ms) =
      let n = depth_of_members ms in
      let more : List ℕ = 44 ∷ print_members ms in
      greater (depth v) n (opened (w ++ (k ++ (x ++ 58 ∷ (y ++ (print v ++ (z ++ more)))))))
      (behind_key w k x y (print v ++ (z ++ more)) (depth v) (within (print v) (z ++ more) (depth v) (one_for_each v)))
      (behind_key w k x y (print v ++ (z ++ more)) n (behind (print v) (z ++ more) n (behind z more n (after 44 (print_members ms) n (one_for_members ms)))))

-- an object with fewer opening brackets than levels that are too deep is too large only where it is
-- too long
pub few_openings : (text : List ℕ) (v : Value) → text ≡ print v → length text ≤ 1048576 → count_by is_opening text < 101 → false ≡ is_too_large v
few_openings text v e short few =
    let levels = one_for_each v in
    let size : length text ≡ length (print v) = ap length e in
    let count : opened text ≡ opened (print v) = ap opened e in
    let not_long : nat_lt 1048576 (length (print v)) ≡ false = grind arith in
    let not_deep : nat_lt 100 (depth v) ≡ false = grind arith in
    rw (not_long, not_deep) refl
