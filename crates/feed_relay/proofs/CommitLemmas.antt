-- Lemmas on batches that wait.
use Rattle.std.proofs.Common.{◌≡◌, sym, ap, ◌∙◌, subst, List, ◌∷◌, [], ◌++◌, append_assoc}
use Rattle.std.specs.Prelude.{None, Vec}
use Rattle.feed_changes.specs.declared.change.Change.{Change}
use Rattle.feed_node.specs.Log.{PrimaryState, commits, commit_fault}
use Rattle.feed_http.specs.Live.{intake_of, Accepts, accepts_one}

module _ {A : Type 0} where
  -- so far, what was taken from the start was accepted
  abbrev pub HasTaken : PrimaryState → List (Vec Change A) → PrimaryState → List (Vec Change A)
      → Type 0
  HasTaken first all primary left =
      (earlier : List (List Change)) × Accepts first earlier primary
      × ((intake_of first all).batches ≡ earlier ++ (intake_of primary left).batches)

  -- and so is the next batch
  pub takes_next : (first primary now : PrimaryState) (all later left : List (Vec Change A))
      (batch : Vec Change A) → HasTaken first all primary later → later ≡ batch ∷ left
      → commit_fault primary batch.items ≡ None → now ≡ commits primary batch.items
      → HasTaken first all now left
  takes_next first primary now all later left batch (earlier, accepted, split) e fine is = (
    earlier ++ batch.items ∷ [],
    subst (Accepts first (earlier ++ batch.items ∷ [])) (sym is) (accepts_one earlier primary batch.items accepted fine),
    split ∙ ap (λ l. earlier ++ (intake_of primary l).batches) e
        ∙ sym (append_assoc earlier (batch.items ∷ []) (intake_of primary left).batches),
  )
