-- The batches of a connection are those of a feed.
use Rattle.std.proofs.Common.{◌≡◌, refl, ap, ◌∙◌, List, [], ◌∷◌, None, Some, map}
use Rattle.feed_changes.specs.declared.change.Change.{Change}
use Rattle.feed_note.specs.Batches as feed
use Rattle.feed_note.specs.declared.line.Line.{Line}
use Rattle.feed_note.specs.declared.line.Line.TheVariants.{KeepAlive, Note}
use Rattle.feed_node.specs.declared.commit.Commit.{Commit}
use Rattle.feed_node.specs.Reading.{batches, before_first}
use Rattle.feed_node.specs.Steps.{commit_of}

before_first-map : (changes : List Change) (found : List feed.Batch)
    → before_first changes (map commit_of found) ≡ map commit_of (feed.before_first changes found)
before_first-map changes [] = refl
before_first-map changes (b ∷ bs) = refl

pub batches_are_of_feed : (notes : List Line) → batches notes ≡ map commit_of (feed.batches notes)
batches_are_of_feed [] = refl
batches_are_of_feed (KeepAlive ∷ notes) = batches_are_of_feed notes
batches_are_of_feed (Note changes None ∷ notes) =
    ap (before_first changes) (batches_are_of_feed notes)
    ∙ before_first-map changes (feed.batches notes)
batches_are_of_feed (Note changes (Some token) ∷ notes) =
    let first : Commit = record { changes = changes; token = token } in
    ap (λ bs. first ∷ bs) (batches_are_of_feed notes)
