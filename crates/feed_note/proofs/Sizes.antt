-- A value has two bytes at least for each level that it nests.
use Rattle.std.proofs.Common.{ℕ, ◌+◌, ◌<◌, ◌≤◌, List, [], ◌∷◌, ◌++◌, length, arith, length-append}
use Rattle.std.specs.Prelude.{max}
use Rattle.feed_text.specs.Json.{Value, Elements, Members, print, print_elements, print_members, depth, depth_of_elements, depth_of_members, null_literal, true_literal, false_literal, number, string, empty_array, array, empty_object, object, last_element, element, last_member, member}

behind_key : (w k x y t : List ℕ) (n : ℕ) → n < length t → n < length (w ++ (k ++ (x ++ 58 ∷ (y ++ t))))
behind_key w k x y t n h =
    omega (arith, h, length-append w (k ++ (x ++ 58 ∷ (y ++ t))), length-append k (x ++ 58 ∷ (y ++ t)), length-append x (58 ∷ (y ++ t)), length-append y t)

mutual
  pub two_for_each : (v : Value) → depth v + depth v ≤ length (print v)
  two_for_each null_literal = omega arith
  two_for_each true_literal = omega arith
  two_for_each false_literal = omega arith
  two_for_each (number t) = omega arith
  two_for_each (string s) = omega arith
  two_for_each (empty_array w) = omega (arith, length-append w (93 ∷ []))
  two_for_each (array es) = let h = two_for_elements es in omega (arith, h)
  two_for_each (empty_object w) = omega (arith, length-append w (125 ∷ []))
  two_for_each (object ms) = let h = two_for_members ms in omega (arith, h)

  two_for_elements : (es : Elements) → depth_of_elements es + depth_of_elements es < length (print_elements es)
  two_for_elements (last_element w v x) =
      let h = two_for_each v in
      omega (arith, h, length-append w (print v ++ (x ++ 93 ∷ [])), length-append (print v) (x ++ 93 ∷ []), length-append x (93 ∷ []))
  two_for_elements (element w v x es) =
      let h = two_for_each v in
      let k = two_for_elements es in
      let more : List ℕ = 44 ∷ print_elements es in
      omega (arith, h, k, length-append w (print v ++ (x ++ more)), length-append (print v) (x ++ more), length-append x more)

  two_for_members : (ms : Members) → depth_of_members ms + depth_of_members ms < length (print_members ms)
  two_for_members (last_member w k x y v z) =
      let h = two_for_each v in
      behind_key w k x y (print v ++ (z ++ 125 ∷ [])) (depth v + depth v) (omega (arith, h, length-append (print v) (z ++ 125 ∷ []), length-append z (125 ∷ [])))
  two_for_members (member w k x y v z ms) =
      let h = two_for_each v in
      let g = two_for_members ms in
      let more : List ℕ = 44 ∷ print_members ms in
      let m : ℕ = max (depth v) (depth_of_members ms) in
      behind_key w k x y (print v ++ (z ++ more)) (m + m) (omega (arith, h, g, length-append (print v) (z ++ more), length-append z more))
