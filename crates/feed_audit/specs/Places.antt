-- Places of tables, in byte order (CLICS Contest API 2023-06: a notification names a type, and an
-- id in its collection).
use Rattle.std.specs.Prelude.{◌≡◌, ◌≢◌, ℕ, List, [], ◌∷◌, ◌++◌, Option, None, Some}
use Rattle.std.specs.Option.{option_cmp}
use Rattle.std.specs.Ordering.{ordering_then}
use Rattle.std.specs.declared.cmp.Ordering.{Ordering}
use Rattle.std.specs.declared.cmp.Ordering.TheVariants.{Less, Equal, Greater}
use Rattle.feed_tables.specs.Bytes.{byte_order}
use Rattle.feed_changes.specs.declared.change.Change.{Change}
use Rattle.feed_changes.specs.declared.change.Change.TheVariants.{Set, Remove, Empty, Single, Clear}
use Rattle.feed_audit.specs.declared.difference.Side.{Side}
use Rattle.feed_audit.specs.declared.difference.Side.TheVariants.{Nothing, Object, Collection}

-- a type, or an id in its collection
abbrev pub PlaceAt : Type 0
PlaceAt = List ℕ × Option (List ℕ)

-- types in byte order; a type comes before its ids, and these in byte order
abbrev pub place_order : PlaceAt → PlaceAt → Ordering
place_order place other =
    ordering_then (byte_order place.0 other.0) (option_cmp byte_order place.1 other.1)

-- the place that a change is about
abbrev pub place_changed : Change → PlaceAt
place_changed (Set kind id object) = (kind, Some id)
place_changed (Remove kind id) = (kind, Some id)
place_changed (Empty kind) = (kind, None)
place_changed (Single kind object) = (kind, None)
place_changed (Clear kind) = (kind, None)

-- what stands there then
abbrev pub put_by : Change → Side
put_by (Set kind id object) = Object object
put_by (Remove kind id) = Nothing
put_by (Empty kind) = Collection
put_by (Single kind object) = Object object
put_by (Clear kind) = Nothing

-- of two changes, the one whose place comes first; at one place the first of them, if they put
-- different things there
abbrev pub IsFirstOf : Ordering → Change → Change → Change → Type 0
IsFirstOf Less change other first = first ≡ change
IsFirstOf Equal change other first = (first ≡ change) × (put_by change ≢ put_by other)
IsFirstOf Greater change other first = first ≡ other

-- the same of those that two lists begin with; where one list is empty, the other's
abbrev pub BeginsFirst : List Change → List Change → Change → Type 0
BeginsFirst [] [] first = ⊥
BeginsFirst (change ∷ changes) [] first = first ≡ change
BeginsFirst [] (other ∷ others) first = first ≡ other
BeginsFirst (change ∷ changes) (other ∷ others) first =
    IsFirstOf (place_order (place_changed change) (place_changed other)) change other first

-- two lists of changes are the same up to where they part, and there this change comes first
pub record PartAt (changes others : List Change) (first : Change) : Type 0 where
  pub same : List Change
  pub rest : List Change
  pub other_rest : List Change
  pub ours : changes ≡ same ++ rest
  pub theirs : others ≡ same ++ other_rest
  pub begins : BeginsFirst rest other_rest first
