-- A value nests no deeper than its text is long.
use Rattle.std.proofs.Common.{◌≤◌, [], ◌∷◌, ◌++◌, length, arith, length-append}
use Rattle.feed_text.specs.Ascii.{comma, colon, right_brace, right_bracket}
use Rattle.feed_text.specs.Json.{Value, Elements, Members, null_literal, true_literal, false_literal, number, string, empty_array, array, empty_object, object, last_element, element, last_member, member, print, print_elements, print_members, depth, depth_of_elements, depth_of_members}

mutual
  pub depth_within : (v : Value) → depth v ≤ length (print v)
  depth_within null_literal = omega arith
  depth_within true_literal = omega arith
  depth_within false_literal = omega arith
  depth_within (number n) = omega arith
  depth_within (string s) = omega arith
  depth_within (empty_array w) = omega arith
  depth_within (array es) = omega (arith, elements_within es)
  depth_within (empty_object w) = omega arith
  depth_within (object ms) = omega (arith, members_within ms)

  elements_within : (es : Elements) → depth_of_elements es ≤ length (print_elements es)
  elements_within (last_element w v x) =
      omega (arith, depth_within v, length-append w (print v ++ (x ++ right_bracket ∷ [])), length-append (print v) (x ++ right_bracket ∷ []))
  elements_within (element w v x es) =
      omega (arith, depth_within v, elements_within es, length-append w (print v ++ (x ++ comma ∷ print_elements es)), length-append (print v) (x ++ comma ∷ print_elements es), length-append x (comma ∷ print_elements es))

  members_within : (ms : Members) → depth_of_members ms ≤ length (print_members ms)
  members_within (last_member w k x y v z) =
      let value = print v ++ (z ++ right_brace ∷ []) in
      omega (arith, depth_within v, length-append w (k ++ (x ++ colon ∷ (y ++ value))), length-append k (x ++ colon ∷ (y ++ value)), length-append x (colon ∷ (y ++ value)), length-append y value, length-append (print v) (z ++ right_brace ∷ []))
  members_within (member w k x y v z ms) =
      let value = print v ++ (z ++ comma ∷ print_members ms) in
      omega (arith, depth_within v, members_within ms, length-append w (k ++ (x ++ colon ∷ (y ++ value))), length-append k (x ++ colon ∷ (y ++ value)), length-append x (colon ∷ (y ++ value)), length-append y value, length-append (print v) (z ++ comma ∷ print_members ms), length-append z (comma ∷ print_members ms))
