-- Why a state is none of the primary's.
use Rattle.std.specs.Prelude.{◌≡◌, ◌≢◌, ℕ, Bool, true, false, List, [], ◌∷◌, ◌++◌, Option, None, Some, is_some}
use Rattle.std.specs.declared.cmp.Ordering.TheVariants.{Less}
use Rattle.std.specs.FinMap.{get}
use Rattle.feed_settings.specs.Limits.{Limits}
use Rattle.feed_tables.specs.Tables.{Contents, object_at, singleton_at, collection_of}
use Rattle.feed_note.specs.Lines.{lines, ended}
use Rattle.feed_note.specs.declared.line.Line.{Line}
use Rattle.feed_node.specs.Mirroring.{first_opening}
use Rattle.feed_node.specs.Publishing.{Published}
use Rattle.feed_node.specs.Reading.{Reads}
use Rattle.feed_node.specs.States.{token_of}
use Rattle.feed_audit.specs.Places.{PlaceAt, place_order}
use Rattle.feed_audit.specs.States.{IsStateOf, published_after}
use Rattle.feed_audit.specs.declared.difference.Side.{Side}
use Rattle.feed_audit.specs.declared.difference.Side.TheVariants.{Nothing, Object, Collection}
use Rattle.feed_audit.specs.declared.difference.Difference.{Difference}
use Rattle.feed_audit.specs.declared.difference.Difference.TheVariants.{NoToken, Ended, At, Same}

abbrev pub object_side : Option (List ℕ) → Side
object_side None = Nothing
object_side (Some object) = Object object

-- one object of a type, and where there is none, whether there is a collection
abbrev pub type_side : Option (List ℕ) → Bool → Side
type_side (Some object) there = Object object
type_side None true = Collection
type_side None false = Nothing

-- what stands at a type, or at an id in its collection
abbrev pub side_at : Contents → List ℕ → Option (List ℕ) → Side
side_at contents kind None =
    type_side (singleton_at contents kind) (is_some (collection_of (get contents kind)))
side_at contents kind (Some id) = object_side (object_at contents kind id)

-- the same stands on both sides at each place before this one
abbrev pub AgreeBefore : Contents → Contents → PlaceAt → Type 0
AgreeBefore contents others place =
    (before : PlaceAt) → place_order before place ≡ Less
    → side_at contents before.0 before.1 ≡ side_at others before.0 before.1

-- this is the first place at which they differ
pub record DifferFirst (contents others : Contents) (place : PlaceAt) : Type 0 where
  pub differ : side_at contents place.0 place.1 ≢ side_at others place.0 place.1
  pub first : AgreeBefore contents others place

-- these are what stands there on both sides
pub record DifferAt (contents others : Contents) (kind : List ℕ) (id : Option (List ℕ))
    (side other : Side) : Type 0 where
  pub ours : side ≡ side_at contents kind id
  pub theirs : other ≡ side_at others kind id
  pub place : DifferFirst contents others (kind, id)

-- it is told where they differ, or that they are the same
abbrev pub TellsDifference : Contents → Contents → Difference → Type 0
TellsDifference contents others NoToken = ⊥
TellsDifference contents others (Ended last) = ⊥
TellsDifference contents others (At kind id side other) =
    DifferAt contents others kind id side other
TellsDifference contents others Same = contents ≡ others

-- a line of the primary's text brings this state, and no line before it one under its token
pub record IsFirstUnder (limits : Limits) (primary : List ℕ) (token : List ℕ)
    (shown : Published) : Type 0 where
  pub earlier : List (List ℕ)
  pub line : List ℕ
  pub later : List (List ℕ)
  pub whole : lines primary ≡ earlier ++ line ∷ later
  pub none : (before : Published) → IsStateOf limits (ended earlier) before → before.token ≢ token
  pub is : IsStateOf limits (ended (earlier ++ line ∷ [])) shown
  pub named : shown.token ≡ token

-- nothing is wrong with the text, and the last state that it publishes, if any, has this token
pub record EndsAt (limits : Limits) (text : List ℕ) (last : Option (List ℕ)) : Type 0 where
  pub notes : List Line
  pub read : Reads limits first_opening text notes
  pub shown : last ≡ token_of (published_after limits notes)

-- the screen showed the last state just before, or there is no state at all
abbrev pub GoesOnBehind : Option (List ℕ) → Option (List ℕ) → Type 0
GoesOnBehind before None = Unit {0}
GoesOnBehind before (Some last) = before ≡ Some last

-- it is told whether the screen does so, of a text that ends with such a state
abbrev pub TellsEnd : Option (List ℕ) → Option (List ℕ) → Difference → Type 0
TellsEnd before last NoToken = ¬ (GoesOnBehind before last)
TellsEnd before last (Ended token) = (token ≡ last) × GoesOnBehind before last
TellsEnd before last other = ⊥

-- the primary has no state under the token, and it is told whether its text ends too soon
pub record LacksToken (limits : Limits) (primary : List ℕ) (before : Option (List ℕ))
    (state : Published) (told : Difference) : Type 0 where
  pub none : (shown : Published) → IsStateOf limits primary shown → shown.token ≢ state.token
  pub last : Option (List ℕ)
  pub ends : EndsAt limits primary last
  pub tells : TellsEnd before last told

-- the primary has no state under the token, and the screen showed one with that other token before;
-- or the first that the primary has differs from this one, at first here
abbrev pub Explains : Limits → List ℕ → Option (List ℕ) → Published → Difference → Type 0
Explains limits primary before state NoToken = LacksToken limits primary before state NoToken
Explains limits primary before state (Ended last) =
    LacksToken limits primary before state (Ended last)
Explains limits primary before state (At kind id side other) =
    (shown : Published) × IsFirstUnder limits primary state.token shown
    × DifferAt shown.tables state.tables kind id side other
Explains limits primary before state Same = ⊥
