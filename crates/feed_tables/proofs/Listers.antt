-- Changes that are given to a lister one after the other.
use Rattle.std.proofs.Common.{Result, Ok, Err, OnErr, IfOk, ◌≡◌, ℕ, refl, sym, ap, ◌∙◌, subst, List, [], ◌∷◌, ◌++◌, append_assoc, fold, flat_map}
use Rattle.std.proofs.lemmas.Grind.{flat_map-append}
use Rattle.std.specs.List.{FoldsTo}
use Rattle.std.specs.declared.alloc.Global.{Global}
use Rattle.std.specs.declared.boxed.Box.{Box}
use Rattle.feed_changes.specs.declared.change.Change.{Change}
use Rattle.feed_changes.specs.declared.change.Change.TheVariants.{Set}
use Rattle.feed_tables.specs.declared.table.Table.{Table}
use Rattle.feed_tables.specs.declared.tree.Fork.{Fork}
use Rattle.feed_tables.specs.declared.tree.Node.{Node}
use Rattle.feed_tables.specs.declared.tree.Node.TheVariants.{Fork as a_fork}
use Rattle.feed_changes.specs.Changes.{sets}
use Rattle.feed_tables.specs.Listers.{FailsIn}
use Rattle.feed_tables.specs.Tables.{listed}
use Rattle.feed_tables.specs.Tree.{entries_of}

-- what holds holds on an error
pub on_any_err : {A E : Type 0} (r : Result A E) (P : Type 0) → P → OnErr r P
on_any_err (Ok a) P p = tt
on_any_err (Err e) P p = p

-- what holds of a value gives what follows from it
pub ok_becomes : {A E : Type 0} (P Q : A → Type 0) (r : Result A E) → ((a : A) → P a → Q a) → IfOk r P → IfOk r Q
ok_becomes P Q (Ok a) follows holds = follows a holds
ok_becomes P Q (Err e) follows holds = tt

module _ {L : Type 0} (takes fails : L → Change → L → Type 0) where
  -- changes that are taken, and then others
  pub takes_then : (a b c : L) (xs ys : List Change) → FoldsTo takes a xs b → FoldsTo takes b ys c
      → FoldsTo takes a (xs ++ ys) c
  takes_then a b c [] ys h k = subst (λ m. FoldsTo takes m ys c) (sym h) k
  takes_then a b c (x ∷ xs) ys (j, t, h) k = (j, t, takes_then j b c xs ys h k)

  -- one of the first fails
  fails_before : (a c : L) (xs ys : List Change) → FailsIn takes fails a xs c
      → FailsIn takes fails a (xs ++ ys) c
  fails_before a c xs ys (taken, at, left, is, between, h, k) =
      (taken, at, left ++ ys, ap (λ l. l ++ ys) is ∙ append_assoc taken (at ∷ left) ys, between, h, k)

  -- one of the later ones fails
  fails_behind : (a b c : L) (xs ys : List Change) → FoldsTo takes a xs b
      → FailsIn takes fails b ys c → FailsIn takes fails a (xs ++ ys) c
  fails_behind a b c xs ys h (taken, at, left, is, between, g, k) = (
    xs ++ taken,
    at,
    left,
    ap (λ l. xs ++ l) is ∙ sym (append_assoc xs taken (at ∷ left)),
    between,
    takes_then a b between xs taken h g,
    k,
  )

  -- a change by itself
  pub takes_one : (a b : L) (x : Change) → takes a x b → FoldsTo takes a (x ∷ []) b
  takes_one a b x t = (b, t, refl)

  pub fails_one : (a b : L) (x : Change) → fails a x b → FailsIn takes fails a (x ∷ []) b
  fails_one a b x t = ([], x, [], refl, a, refl, t)

  -- two parts of changes, and three of them
  module _ (l m r all : List Change) (whole : all ≡ l ++ (m ++ r)) where
    pub took_whole : (a b c d : L) → FoldsTo takes a l b → FoldsTo takes b m c
        → FoldsTo takes c r d → FoldsTo takes a all d
    took_whole a b c d first here rest =
        subst (λ cs. FoldsTo takes a cs d) (sym whole)
        (takes_then a b d l (m ++ r) first (takes_then b c d m r here rest))

    pub failed_first : (a b : L) → FailsIn takes fails a l b → FailsIn takes fails a all b
    failed_first a b first =
        subst (λ cs. FailsIn takes fails a cs b) (sym whole) (fails_before a b l (m ++ r) first)

    pub failed_here : (a b c : L) → FoldsTo takes a l b → FailsIn takes fails b m c
        → FailsIn takes fails a all c
    failed_here a b c first here =
        subst (λ cs. FailsIn takes fails a cs c) (sym whole)
        (fails_behind a b c l (m ++ r) first (fails_before b c m r here))

    pub failed_rest : (a b c d : L) → FoldsTo takes a l b → FoldsTo takes b m c
        → FailsIn takes fails c r d → FailsIn takes fails a all d
    failed_rest a b c d first here rest =
        subst (λ cs. FailsIn takes fails a cs d) (sym whole)
        (fails_behind a b d l (m ++ r) first (fails_behind b c d m r here rest))

-- the changes of a fork, which is lent once for each part
module _ {V : Type 0} {n : Node V} {d : List (List ℕ × V)} {box : Box (Fork V) Global}
    (view_is : entries_of n ≡ d) (is : n ≡ a_fork box) (e f g h : Fork V) (e_is : e ≡ box.value)
    (f_is : f ≡ box.value) (g_is : g ≡ box.value) (h_is : h ≡ box.value) where
  pub parts_are : d ≡ e.left ++ (f.id, g.item) ∷ h.right
  parts_are =
      sym view_is ∙ ap entries_of is
      ∙ ap (λ (k : Fork V). k.left ++ (box.value.id, box.value.item) ∷ box.value.right) (sym e_is)
      ∙ ap (λ (k : Fork V). e.left ++ (k.id, box.value.item) ∷ box.value.right) (sym f_is)
      ∙ ap (λ (k : Fork V). e.left ++ (f.id, k.item) ∷ box.value.right) (sym g_is)
      ∙ ap (λ (k : Fork V). e.left ++ (f.id, g.item) ∷ k.right) (sym h_is)

sets_append : (kind : List ℕ) (xs ys : List (List ℕ × List ℕ))
    → sets kind (xs ++ ys) ≡ sets kind xs ++ sets kind ys
sets_append kind [] ys = refl
sets_append kind (x ∷ xs) ys = ap (λ cs. Set kind x.0 x.1 ∷ cs) (sets_append kind xs ys)

-- one Set after another, at a fork
pub sets_at : (kind : List ℕ) (d l r : List (List ℕ × List ℕ)) (id object : List ℕ)
    → d ≡ l ++ (id, object) ∷ r
    → sets kind d ≡ sets kind l ++ ((Set kind id object ∷ []) ++ sets kind r)
sets_at kind d l r id object whole = ap (sets kind) whole ∙ sets_append kind l ((id, object) ∷ r)

-- the changes of one type after another, at a fork
pub listed_at : (d l r : List (List ℕ × Table)) (kind : List ℕ) (table : Table)
    → d ≡ l ++ (kind, table) ∷ r
    → flat_map listed d ≡ flat_map listed l ++ (listed (kind, table) ++ flat_map listed r)
listed_at d l r kind table whole = ap (flat_map listed) whole ∙ flat_map-append listed l ((kind, table) ∷ r)

-- what is taken one by one is what a fold gives
pub folded : {L : Type 0} (f : L → Change → L) (a b : L) (xs : List Change)
    → FoldsTo (λ s x t. t ≡ f s x) a xs b → b ≡ fold f a xs
folded f a b [] h = sym h
folded f a b (x ∷ xs) (j, t, h) = folded f j b xs h ∙ ap (λ k. fold f k xs) t
