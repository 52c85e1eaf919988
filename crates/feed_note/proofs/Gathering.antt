-- The elements of an array while they are gathered.
use Rattle.std.proofs.Common.{◌≡◌, refl, sym, ap, ◌∙◌, subst, ℕ, List, [], ◌∷◌, ◌++◌, Option, Some, None, arith, append_assoc, append-nil}
use Rattle.std.specs.Prelude.{IsUtf8, option_map, option_and_then}
use Rattle.std.specs.List.{AllByRecursion}
use Rattle.feed_text.specs.Json.{Value, print, kind_of, items_of, TextDeterminesValue}
use Rattle.feed_text.specs.Members.{Spelling, spelling_of, spellings_of, AreSpellings}
use Rattle.feed_text.specs.declared.Kind.TheVariants.{Array}
use Rattle.feed_note.specs.Reading.{IsPart, IsReadable, HoldsReadable, element_of, gathered, onto}
use Rattle.feed_note.specs.declared.content.Element.{Element}
use Rattle.feed_note.proofs.Parts.{part_of, items_parts, readable_spelling}

-- these spellings are left of the array, and these elements were gathered before them
pub record Gathering (array : List ℕ) (left : List Spelling) (done : List Element) : Type 0 where
  pub rest : List Value
  pub parts : AllByRecursion (IsReadable 101) rest
  pub left_are : left ≡ spellings_of rest
  pub told : (v : Value) → IsReadable 101 v → kind_of v ≡ Array → array ≡ print v → gathered (items_of v) ≡ onto done (gathered rest)

one_more_level : (v : Value) → IsReadable 100 v → IsReadable 101 v
one_more_level v h = record { valid = h.valid; encoding = h.encoding; unbroken = h.unbroken; nesting = let d = h.nesting in omega arith }

readable_parts : (vs : List Value) → AllByRecursion (IsPart 100) vs → AreSpellings (spellings_of vs) → AllByRecursion (IsReadable 101) vs
readable_parts [] h k = tt
readable_parts (v ∷ vs) h k = (one_more_level v (readable_spelling 100 (spelling_of v) v h.0 k.0 refl), readable_parts vs h.1 k.1)

pub utf8_array : (array : List ℕ) (tree : Value) → IsReadable 101 tree → array ≡ print tree → IsUtf8 array
utf8_array array tree h e = subst IsUtf8 (sym e) h.encoding

onto_none : (found : Option (List Element)) → onto [] found ≡ found
onto_none None = refl
onto_none (Some es) = refl

onto_more : (done : List Element) (e : Element) (found : Option (List Element)) → onto done (option_map (λ es. e ∷ es) found) ≡ onto (done ++ e ∷ []) found
onto_more done e None = refl
onto_more done e (Some es) = ap (λ (x : List Element). Some x) (sym (append_assoc done (e ∷ []) es))

pub starts : TextDeterminesValue → (array : List ℕ) (tree : Value) (left : List Spelling) → IsReadable 101 tree → array ≡ print tree → left ≡ spellings_of (items_of tree) → AreSpellings left → Gathering array left []
starts law array tree left h e items spelt = record {
  rest = items_of tree;
  parts = readable_parts (items_of tree) (items_parts 100 tree (part_of 101 tree h)) (subst AreSpellings items spelt);
  left_are = items;
  told = λ v k kind f. ap (λ u. gathered (items_of u)) (law v tree k.valid h.valid (sym f ∙ e)) ∙ sym (onto_none (gathered (items_of tree)));
}

module _ {array : List ℕ} {left : List Spelling} {done : List Element} (g : Gathering array left done) (s : Spelling) (more : List Spelling) (is : left ≡ s ∷ more) where
  -- the next value of those that are left
  pub record Next : Type 0 where
    pub v : Value
    pub vs : List Value
    pub are : g.rest ≡ v ∷ vs
    pub readable : IsReadable 101 v
    pub others : AllByRecursion (IsReadable 101) vs
    pub spelt : s ≡ spelling_of v
    pub left_are : more ≡ spellings_of vs

  pub next : Next
  next = by g.rest refl g.parts (g.left_are)
    where
      by : (rest : List Value) → g.rest ≡ rest → AllByRecursion (IsReadable 101) rest → left ≡ spellings_of rest → Next
      by [] e h l = absurd cc
      by (v ∷ vs) e h l = record { v = v; vs = vs; are = e; readable = h.0; others = h.1; spelt = cc; left_are = cc }

  pub next_readable : HoldsReadable 101 s
  next_readable = record { tree = next.v; readable = next.readable; spelt = next.spelt }

  pub one_more : (e : Element) → ((v : Value) → IsReadable 101 v → s ≡ spelling_of v → Some e ≡ element_of v) → Gathering array more (done ++ e ∷ [])
  one_more e told = record {
    rest = next.vs;
    parts = next.others;
    left_are = next.left_are;
    told = λ v k kind f. g.told v k kind f ∙ ap (λ vs. onto done (gathered vs)) next.are
        ∙ ap (λ x. onto done (option_and_then (λ y. option_map (λ es. y ∷ es) (gathered next.vs)) x)) (sym (told next.v next.readable next.spelt))
        ∙ onto_more done e (gathered next.vs);
  }

  pub bad : ((v : Value) → IsReadable 101 v → s ≡ spelling_of v → None ≡ element_of v) → (v : Value) → IsReadable 101 v → kind_of v ≡ Array → array ≡ print v → None ≡ gathered (items_of v)
  bad told v k kind f =
      sym (g.told v k kind f ∙ ap (λ vs. onto done (gathered vs)) next.are
      ∙ ap (λ x. onto done (option_and_then (λ y. option_map (λ es. y ∷ es) (gathered next.vs)) x)) (sym (told next.v next.readable next.spelt)))

pub ends : {array : List ℕ} {left : List Spelling} {done : List Element} → Gathering array left done → left ≡ [] → (v : Value) → IsReadable 101 v → kind_of v ≡ Array → array ≡ print v → Some done ≡ gathered (items_of v)
ends {array} {left} {done} g none v k kind f = by g.rest refl g.left_are
  where
    by : (rest : List Value) → g.rest ≡ rest → left ≡ spellings_of rest → Some done ≡ gathered (items_of v)
    by [] e l = sym (g.told v k kind f ∙ ap (λ vs. onto done (gathered vs)) e ∙ ap (λ (x : List Element). Some x) (append-nil done))
    by (u ∷ us) e l = absurd cc
