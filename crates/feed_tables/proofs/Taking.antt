-- A node that was taken out, by the entry that it had.
use Rattle.std.proofs.Common.{option_map, ◌≡◌, ℕ, List, [], ◌∷◌, Option, None, Some, sym, ap, ◌∙◌, refl, arith}
use Rattle.std.specs.declared.alloc.Global.{Global}
use Rattle.std.specs.declared.boxed.Box.{Box}
use Rattle.feed_tables.specs.Tree.{handed, named}
use Rattle.feed_tables.specs.Unions.{entry_in}
use Rattle.feed_tables.specs.Walks.{Scale, weight, weighed}
use Rattle.feed_tables.specs.declared.tree.Fork.{Fork}

-- the entries of a node by what it hands out
abbrev listed : {V : Type 0} → Option (List ℕ × V) → List (List ℕ × V)
listed None = []
listed (Some e) = e ∷ []

entry_listed : {V : Type 0} (r : Option (Box (Fork V) Global)) → entry_in r ≡ listed (handed r)
entry_listed None = refl
entry_listed (Some node) = refl

abbrev head_of : {V : Type 0} → List (List ℕ × V) → Option (List ℕ × V)
head_of [] = None
head_of (e ∷ es) = Some e

handed_first : {V : Type 0} (r : Option (Box (Fork V) Global)) → handed r ≡ head_of (entry_in r)
handed_first None = refl
handed_first (Some node) = refl

pub handed_here : {V : Type 0} (r : Option (Box (Fork V) Global)) (q k : List ℕ) (v : V) (o : Option V)
    → q ≡ k → entry_in r ≡ (k, v) ∷ [] → o ≡ Some v → handed r ≡ named q o
handed_here {V} r q k v o same one found =
    handed_first r
    ∙ ap head_of one
    ∙ ap (λ (x : List ℕ). Some (x, v)) (sym same)
    ∙ sym (ap (named q) found)

-- how much a node weighs that was handed out
weighed_named : {V : Type 0} (scale : Scale V) (k : List ℕ) (o : Option V)
    → weighed scale (listed (named k o)) ≡ weight scale k o
weighed_named scale k None = refl
weighed_named scale k (Some v) = omega arith

pub weighed_back : {V : Type 0} (scale : Scale V) (r : Option (Box (Fork V) Global)) (k : List ℕ) (o : Option V)
    → handed r ≡ named k o → weighed scale (entry_in r) ≡ weight scale k o
weighed_back {V} scale r k o is =
    ap (weighed scale) (entry_listed r ∙ ap listed is)
    ∙ weighed_named scale k o

-- its name
pub id_taken : {V : Type 0} (r : Option (Box (Fork V) Global)) (k : List ℕ) (o : Option V)
    → handed r ≡ named k o → option_map (λ node. node.value.id) r ≡ option_map (λ _. k) o
id_taken None k None is = refl
id_taken None k (Some v) is = cc
id_taken (Some node) k None is = cc
id_taken (Some node) k (Some v) is = ap (option_map (λ e. e.0)) is
