-- What is known of a tree with the entries d once its node is a fork.
use Rattle.std.proofs.Common.{Some, Less, Equal, Greater, ◌≡◌, ℕ, ◌<◌, ◌+◌, List, ◌∷◌, ◌++◌, length, sym, ap, ◌∙◌, subst, arith, length-append}
use Rattle.std.specs.declared.boxed.Box.{Box}
use Rattle.std.specs.declared.cmp.Ordering.{Ordering}
use Rattle.std.specs.declared.alloc.Global.{Global}
use Rattle.feed_tables.specs.Bytes.{byte_order, IsInOrder, without}
use Rattle.feed_tables.specs.Tree.{entries_of}
use Rattle.feed_tables.specs.declared.tree.Node.{Node}
use Rattle.feed_tables.specs.declared.tree.Node.TheVariants.{Fork as a_fork}
use Rattle.feed_tables.specs.declared.tree.Fork.{Fork}
use Rattle.std.specs.FinMap.{find, put}
use Rattle.feed_changes.proofs.Order.{total}
use Rattle.feed_tables.proofs.Entries.{sorted_left, sorted_right, find_left, find_here, find_right, put_left, put_here, put_right, without_left, without_here, without_right}

pub record AtFork {V : Type 0} (d l : List (List ℕ × V)) (e : List ℕ × V) (r : List (List ℕ × V)) : Type 0 where
  pub is : d ≡ l ++ e ∷ r
  pub sorted : IsInOrder (l ++ e ∷ r)
  pub left : IsInOrder l
  pub right : IsInOrder r
  pub left_shorter : length l < length d
  pub right_shorter : length r < length d

pub at_fork : {V : Type 0} {n : Node V} {d : List (List ℕ × V)} {box : Box (Fork V) Global} → entries_of n ≡ d → IsInOrder d → n ≡ a_fork box → AtFork d box.value.left (box.value.id, box.value.item) box.value.right
at_fork {V} {n} {d} {box} view_is in_order is =
    let e : d ≡ box.value.left ++ (box.value.id, box.value.item) ∷ box.value.right = sym view_is ∙ ap entries_of is in
    let sorted : IsInOrder (box.value.left ++ (box.value.id, box.value.item) ∷ box.value.right) = subst (λ (t : List (List ℕ × V)). IsInOrder t) e in_order in
    record {
      is = e;
      sorted = sorted;
      left = sorted_left byte_order box.value.left _ sorted;
      right = sorted_right byte_order box.value.left _ box.value.right sorted;
      left_shorter = omega (arith, ap length e, length-append box.value.left ((box.value.id, box.value.item) ∷ box.value.right));
      right_shorter = omega (arith, ap length e, length-append box.value.left ((box.value.id, box.value.item) ∷ box.value.right));
    }

-- the same of a fork that was borrowed
pub at_lent : {V : Type 0} {n : Node V} {d : List (List ℕ × V)} {box : Box (Fork V) Global} → entries_of n ≡ d → IsInOrder d → n ≡ a_fork box → (fork : Fork V) → fork ≡ box.value → AtFork d fork.left (fork.id, fork.item) fork.right
at_lent {V} {n} {d} {box} view_is in_order is fork same = subst (λ (f : Fork V). AtFork d f.left (f.id, f.item) f.right) (sym same) (at_fork view_is in_order is)

-- how a name stands to that of a fork, as it was compared with the fork by another borrow
pub ordered : {V : Type 0} {box : Fork V} {o p : Ordering} (q : List ℕ) (fork lent : Fork V) → fork ≡ box → lent ≡ box → o ≡ byte_order q lent.id → o ≡ p → byte_order q fork.id ≡ p
ordered {V} q fork lent here there compared is = ap (λ (f : Fork V). byte_order q f.id) (here ∙ sym there) ∙ sym compared ∙ is

-- and the fork's name to that name
pub ordered_to : {V : Type 0} {box : Fork V} {o p : Ordering} (q : List ℕ) (fork lent : Fork V) → fork ≡ box → lent ≡ box → o ≡ byte_order lent.id q → o ≡ p → byte_order fork.id q ≡ p
ordered_to {V} q fork lent here there compared is = ap (λ (f : Fork V). byte_order f.id q) (here ∙ sym there) ∙ sym compared ∙ is

module _ {V : Type 0} {d l r : List (List ℕ × V)} {e : List ℕ × V} (f : AtFork d l e r) where
  -- the item of a name that comes before the fork's, is it, and comes after it
  pub find_before : (q : List ℕ) → byte_order q e.0 ≡ Less → find byte_order q d ≡ find byte_order q l
  find_before q p = ap (find byte_order q) f.is ∙ find_left byte_order total q l e r f.sorted p

  pub find_at : (q : List ℕ) → byte_order q e.0 ≡ Equal → find byte_order q d ≡ Some e.1
  find_at q p = ap (find byte_order q) f.is ∙ find_here byte_order total q l e r f.sorted p

  pub find_after : (q : List ℕ) → byte_order q e.0 ≡ Greater → find byte_order q d ≡ find byte_order q r
  find_after q p = ap (find byte_order q) f.is ∙ find_right byte_order total q l e r f.sorted p

  -- and the entries after such a name was given an item
  pub put_before : (k : List ℕ) (v : V) → byte_order k e.0 ≡ Less → put byte_order k v d ≡ put byte_order k v l ++ e ∷ r
  put_before k v p = ap (put byte_order k v) f.is ∙ put_left byte_order k v l e r p

  pub put_at : (k : List ℕ) (v : V) → byte_order k e.0 ≡ Equal → put byte_order k v d ≡ l ++ (e.0, v) ∷ r
  put_at k v p = ap (put byte_order k v) f.is ∙ put_here byte_order total k v l e r f.sorted p

  pub put_after : (k : List ℕ) (v : V) → byte_order k e.0 ≡ Greater → put byte_order k v d ≡ l ++ e ∷ put byte_order k v r
  put_after k v p = ap (put byte_order k v) f.is ∙ put_right byte_order total k v l e r f.sorted p

  -- and the entries after such a name was taken out
  pub without_before : (k : List ℕ) → byte_order k e.0 ≡ Less → without k d ≡ without k l ++ e ∷ r
  without_before k p = ap (without k) f.is ∙ without_left byte_order total k l e r f.sorted p

  pub without_at : (k : List ℕ) → byte_order k e.0 ≡ Equal → without k d ≡ l ++ r
  without_at k p = ap (without k) f.is ∙ without_here byte_order total k l e r f.sorted p

  pub without_after : (k : List ℕ) → byte_order k e.0 ≡ Greater → without k d ≡ l ++ e ∷ without k r
  without_after k p = ap (without k) f.is ∙ without_right byte_order total k l e r f.sorted p

  -- and how many entries there were before the fork's was taken out
  pub one_less : length d ≡ length (l ++ r) + 1
  one_less = omega (arith, ap length f.is, length-append l (e ∷ r), length-append l r)
