-- What both made of the tables that they last had in common.
use Rattle.std.proofs.Common.{◌≡◌, refl, sym, ap, ◌∙◌, ℕ, ◌≤◌, List, [], ◌∷◌, ◌++◌, length, take, Some, arith, zero, suc}
use Rattle.std.proofs.lemmas.List.Sums.{fold-append}
use Rattle.feed_changes.specs.declared.change.Change.{Change}
use Rattle.feed_tables.specs.Tables.{Contents, after, after_all}
use Rattle.feed_node.specs.declared.commit.Commit.{Commit}
use Rattle.feed_node.specs.States.{NodeState, published_tables, last_item}
use Rattle.feed_audit.specs.declared.since.Since.{Since}
use Rattle.feed_audit.specs.Walks.{CommitsOn, Meets}

pub take_whole : {X : Type 0} (n : ℕ) (xs : List X) → length xs ≤ n → take n xs ≡ xs
take_whole n [] h = take_none n
  where
    take_none : {X : Type 0} (n : ℕ) → take {A = X} n [] ≡ []
    take_none zero = refl
    take_none (suc n) = refl
take_whole zero (x ∷ xs) h = absurd (omega arith)
take_whole (suc n) (x ∷ xs) h = ap (λ t. x ∷ t) (take_whole n xs (omega arith))

-- one commit more
on_with : (base : Contents) (before new : NodeState) (changes items : List Change) → CommitsOn before new
    → published_tables before ≡ after_all base changes
    → (commit : Commit) × (last_item new.kept ≡ Some commit) × (items ≡ changes ++ commit.changes)
    → published_tables new ≡ after_all base items
on_with base before new changes items o is (commit, last, more) =
    o.commits commit last ∙ ap (λ t. after_all t commit.changes) is ∙ sym (fold-append after base changes commit.changes) ∙ ap (after_all base) (sym more)

pub on_ours : (old new : Since) (before after theirs : NodeState) → Meets old (published_tables before) (published_tables theirs) → CommitsOn before after
    → (commit : Commit) × (last_item after.kept ≡ Some commit) × (new.ours.items ≡ old.ours.items ++ commit.changes)
    → new.theirs.items ≡ old.theirs.items → Meets new (published_tables after) (published_tables theirs)
on_ours old new before after theirs m o more same = record {
  base = m.base;
  ours_are = on_with m.base before after old.ours.items new.ours.items o m.ours_are more;
  theirs_are = m.theirs_are ∙ ap (after_all m.base) (sym same);
}

pub on_theirs : (old new : Since) (ours : Contents) (before after : NodeState) → Meets old ours (published_tables before) → CommitsOn before after
    → (commit : Commit) × (last_item after.kept ≡ Some commit) × (new.theirs.items ≡ old.theirs.items ++ commit.changes)
    → new.ours.items ≡ old.ours.items → Meets new ours (published_tables after)
on_theirs old new ours before after m o more same = record {
  base = m.base;
  ours_are = m.ours_are ∙ ap (after_all m.base) (sym same);
  theirs_are = on_with m.base before after old.theirs.items new.theirs.items o m.theirs_are more;
}
