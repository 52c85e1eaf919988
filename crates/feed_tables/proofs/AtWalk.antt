-- What a walk through items by name sums up, at a fork.
use Rattle.std.proofs.Common.{Bool, true, false, cond, not, min, ◌≡◌, ℕ, ◌+◌, List, [], ◌∷◌, ◌++◌, Some, sym, ap, ◌∙◌, refl, subst, arith}
use Rattle.std.specs.Option.{is_some}
use Rattle.std.specs.declared.boxed.Box.{Box}
use Rattle.std.specs.declared.alloc.Global.{Global}
use Rattle.std.specs.FinMap.{FinMap, get}
use Rattle.feed_tables.specs.Bytes.{byte_order}
use Rattle.feed_tables.specs.Tree.{entries_of}
use Rattle.feed_tables.specs.Walks.{Scale, weight, weighed, weighed_in, besides, AreIn}
use Rattle.feed_tables.specs.declared.tree.Node.{Node}
use Rattle.feed_tables.specs.declared.tree.Node.TheVariants.{Fork as a_fork}
use Rattle.feed_tables.specs.declared.tree.Fork.{Fork}
use Rattle.feed_tables.proofs.Held.{in_fork, in_left, in_rest}
use Rattle.feed_tables.proofs.PatchSizes.{weighed-append, weighed_in-append, besides-append}

-- the entries of a fork, which is lent once for each part
module _ {V : Type 0} {n : Node V} {d : List (List ℕ × V)} {box : Box (Fork V) Global} (view_is : entries_of n ≡ d) (is : n ≡ a_fork box) where
  pub entries_are : d ≡ box.value.left ++ (box.value.id, box.value.item) ∷ box.value.right
  entries_are = sym view_is ∙ ap entries_of is

  pub weighed_in_at : {W : Type 0} (scale : Scale W) (m : FinMap byte_order W) (f g h : Fork V)
      → f ≡ box.value → g ≡ box.value → h ≡ box.value → (q : List ℕ) → q ≡ f.id
      → (w a x b y : ℕ) → w ≡ min (weight scale q (get m q)) 18446744073709551615
      → a ≡ min (weighed_in scale m g.left) 18446744073709551615
      → x ≡ min (a + w) 18446744073709551615
      → b ≡ min (weighed_in scale m h.right) 18446744073709551615
      → y ≡ min (x + b) 18446744073709551615
      → y ≡ min (weighed_in scale m d) 18446744073709551615
  weighed_in_at scale m f g h f_is g_is h_is q q_is w a x b y w_is a_is x_is b_is y_is =
      let whole : weighed_in scale m d ≡ weighed_in scale m box.value.left
      + (weight scale box.value.id (get m box.value.id) + weighed_in scale m box.value.right) =
      ap (weighed_in scale m) entries_are
      ∙ weighed_in-append scale m box.value.left ((box.value.id, box.value.item) ∷ box.value.right) in
      let here : weight scale q (get m q) ≡ weight scale box.value.id (get m box.value.id) =
      ap (λ (k : List ℕ). weight scale k (get m k)) (q_is ∙ ap (λ (k : Fork V). k.id) f_is) in
      let left : weighed_in scale m g.left ≡ weighed_in scale m box.value.left =
      ap (λ (k : Fork V). weighed_in scale m k.left) g_is in
      let right : weighed_in scale m h.right ≡ weighed_in scale m box.value.right =
      ap (λ (k : Fork V). weighed_in scale m k.right) h_is in
      omega (arith, whole, here, left, right, w_is, a_is, x_is, b_is, y_is)

  module _ {W X : Type 0} (scale : Scale V) (gone : FinMap byte_order W) (others : FinMap byte_order X) where
    abbrev pub kept : List (List ℕ × V) → ℕ
    kept es = weighed scale (besides others (besides gone es))

    kept-append : (l r : List (List ℕ × V)) → kept (l ++ r) ≡ kept l + kept r
    kept-append l r =
        ap (λ (es : List (List ℕ × V)). weighed scale (besides others es)) (besides-append gone l r)
        ∙ ap (weighed scale) (besides-append others (besides gone l) (besides gone r))
        ∙ weighed-append scale (besides others (besides gone l)) (besides others (besides gone r))

    pub kept_at : (f g h k : Fork V) → f ≡ box.value → g ≡ box.value → h ≡ box.value
        → k ≡ box.value → (q : List ℕ) → q ≡ f.id
        → (w a x b y : ℕ) → w ≡ min (kept ((q, g.item) ∷ [])) 18446744073709551615
        → a ≡ min (kept h.left) 18446744073709551615 → x ≡ min (a + w) 18446744073709551615
        → b ≡ min (kept k.right) 18446744073709551615 → y ≡ min (x + b) 18446744073709551615
        → y ≡ min (kept d) 18446744073709551615
    kept_at f g h k f_is g_is h_is k_is q q_is w a x b y w_is a_is x_is b_is y_is =
        let one : List (List ℕ × V) = (box.value.id, box.value.item) ∷ [] in
        let whole : kept d ≡ kept box.value.left + kept (one ++ box.value.right) =
        ap kept entries_are ∙ kept-append box.value.left (one ++ box.value.right) in
        let rest : kept (one ++ box.value.right) ≡ kept one + kept box.value.right =
        kept-append one box.value.right in
        let here : kept ((q, g.item) ∷ []) ≡ kept one =
        ap (λ (x : List ℕ). kept ((x, g.item) ∷ [])) (q_is ∙ ap (λ (m : Fork V). m.id) f_is)
        ∙ ap (λ (m : Fork V). kept ((box.value.id, m.item) ∷ [])) g_is in
        let left : kept h.left ≡ kept box.value.left = ap (λ (m : Fork V). kept m.left) h_is in
        let right : kept k.right ≡ kept box.value.right =
        ap (λ (m : Fork V). kept m.right) k_is in
        omega (arith, whole, rest, here, left, right, w_is, a_is, x_is, b_is, y_is)

  module _ (m : FinMap byte_order V) where
    abbrev all_of : List (List ℕ × V)
    all_of = box.value.left ++ (box.value.id, box.value.item) ∷ box.value.right

    pub here_in : AreIn m d → (f g : Fork V) → f ≡ box.value → g ≡ box.value
        → get m f.id ≡ Some g.item
    here_in p f g f_is g_is =
        let all : AreIn m all_of = subst (λ (es : List (List ℕ × V)). AreIn m es) entries_are p in
        ap (λ (k : Fork V). get m k.id) f_is
        ∙ (in_rest m box.value.left ((box.value.id, box.value.item) ∷ box.value.right) all).0
        ∙ ap (λ (k : Fork V). Some k.item) (sym g_is)

    pub left_in : AreIn m d → (f : Fork V) → f ≡ box.value → AreIn m f.left
    left_in p f f_is =
        let all : AreIn m all_of = subst (λ (es : List (List ℕ × V)). AreIn m es) entries_are p in
        subst (λ (k : Fork V). AreIn m k.left) (sym f_is)
        (in_left m box.value.left ((box.value.id, box.value.item) ∷ box.value.right) all)

    pub right_in : AreIn m d → (f : Fork V) → f ≡ box.value → AreIn m f.right
    right_in p f f_is =
        let all : AreIn m all_of = subst (λ (es : List (List ℕ × V)). AreIn m es) entries_are p in
        subst (λ (k : Fork V). AreIn m k.right) (sym f_is)
        (in_rest m box.value.left ((box.value.id, box.value.item) ∷ box.value.right) all).1

    pub all_in : (f g h k : Fork V) → f ≡ box.value → g ≡ box.value → h ≡ box.value
        → k ≡ box.value → get m f.id ≡ Some g.item → AreIn m h.left → AreIn m k.right → AreIn m d
    all_in f g h k f_is g_is h_is k_is here left right =
        subst (λ (es : List (List ℕ × V)). AreIn m es) (sym entries_are)
        (in_fork m box.value.left (box.value.id, box.value.item) box.value.right
        (ap (λ (x : Fork V). get m x.id) (sym f_is) ∙ here
        ∙ ap (λ (x : Fork V). Some x.item) g_is)
        (subst (λ (x : Fork V). AreIn m x.left) h_is left)
        (subst (λ (x : Fork V). AreIn m x.right) k_is right))

-- an item whose name is in neither of two maps, or in one
module _ {V W X : Type 0} (scale : Scale V) (gone : FinMap byte_order W) (others : FinMap byte_order X) (k : List ℕ) (v : V) where
  abbrev one : Bool → Bool → ℕ
  one a b = weighed scale (cond (not a) (cond (not b) ((k, v) ∷ []) []) [])

  one_is : (a b : Bool) → is_some (get gone k) ≡ a → is_some (get others k) ≡ b
      → weighed scale (besides others (besides gone ((k, v) ∷ []))) ≡ one a b
  one_is true b g h =
      ap (λ (x : Bool). weighed scale (besides others (cond (not x) ((k, v) ∷ []) []))) g
  one_is false b g h =
      ap (λ (x : Bool). weighed scale (besides others (cond (not x) ((k, v) ∷ []) []))) g
      ∙ ap (λ (x : Bool). weighed scale (cond (not x) ((k, v) ∷ []) [])) h

  pub kept_gone : (a : Bool) → is_some (get gone k) ≡ a → a ≡ true
      → 0 ≡ min (weighed scale (besides others (besides gone ((k, v) ∷ [])))) 18446744073709551615
  kept_gone a g is = omega (arith, one_is true (is_some (get others k)) (g ∙ is) refl)

  pub kept_among : (a b : Bool) → is_some (get gone k) ≡ a → a ≡ false
      → is_some (get others k) ≡ b → b ≡ true
      → 0 ≡ min (weighed scale (besides others (besides gone ((k, v) ∷ [])))) 18446744073709551615
  kept_among a b g is h there = omega (arith, one_is false true (g ∙ is) (h ∙ there))

  pub kept_weight : (a b : Bool) → is_some (get gone k) ≡ a → a ≡ false
      → is_some (get others k) ≡ b → b ≡ false
      → (w : ℕ) → w ≡ min (scale k v) 18446744073709551615
      → w ≡ min (weighed scale (besides others (besides gone ((k, v) ∷ [])))) 18446744073709551615
  kept_weight a b g is h not_there w w_is =
      omega (arith, one_is false false (g ∙ is) (h ∙ not_there), w_is)
