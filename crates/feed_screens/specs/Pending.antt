-- The long texts that screens have yet to take: each counts once, for however many it is.
use Rattle.std.specs.Prelude.{◌≡◌, ◌≢◌, ◌⊎◌, ◌==◌, ℕ, ◌+◌, ◌<◌, ◌-◌, ◌^◌, min, Bool, false, List, [], ◌∷◌, ◌++◌, length, Option, Some, None, HoldsAt, AllPairs, remove, sum_by, count_by, slice_set, slice_index_or, if◌then◌else◌}
use Rattle.slab.specs.Slab.{Slab, get}
use Rattle.feed_screens.specs.declared.conn.Conn.{Conn}
use Rattle.feed_screens.specs.declared.screens.pending.Text.{Text}
use Rattle.feed_screens.specs.declared.screens.pending.TextId.{TextId}
use Rattle.feed_screens.specs.declared.screens.pending.TextId.TheVariants.{Opening, Own, Commit}

-- how many bytes they have together
abbrev pub total : List Text → ℕ
total texts = sum_by (λ text. text.length) texts

-- each has a reader
abbrev pub HaveReaders : List Text → Type 0
HaveReaders texts = (at : ℕ) → at < length texts → HoldsAt (λ text. text.readers ≢ 0) texts at

-- none of them is there twice
abbrev pub AreDistinct : List Text → Type 0
AreDistinct texts = AllPairs (λ one other. one.id ≢ other.id) texts

-- none of them is this one
abbrev pub HasNone : List Text → TextId → Type 0
HasNone texts id = (at : ℕ) → at < length texts → HoldsAt (λ text. text.id ≢ id) texts at

-- this text is at this place
pub record IsTextAt (texts : List Text) (text : Text) (at : ℕ) : Type 0 where
  pub within : at < length texts
  pub is : HoldsAt (λ t. t ≡ text) texts at

-- one of so many bytes, with so many readers
abbrev pub text_with_readers : TextId → ℕ → ℕ → Text
text_with_readers id bytes readers = record { id = id; length = bytes; readers = readers }

-- one that is there has so many readers now, as many more than so many
pub record Counts (id : TextId) (Becomes : ℕ → ℕ → Type 0) (old new : List Text) : Type 0 where
  pub text : Text
  pub at : ℕ
  pub there : IsTextAt old text at
  pub id_is : text.id ≡ id
  pub readers : ℕ
  pub becomes : Becomes text.readers readers
  pub is : new ≡ slice_set old at (text_with_readers id text.length readers)

-- A screen has yet to take a text of so many bytes: it is new, or has one reader more.
abbrev pub Adds : TextId → ℕ → List Text → List Text → Type 0
Adds id bytes old new = (HasNone old id × (new ≡ old ++ text_with_readers id bytes 1 ∷ []))
    ⊎ Counts id (λ before after. after ≡ min (before + 1) (2 ^ 64 - 1)) old new

-- the last reader of a text went, and so it did
pub record DropsText (id : TextId) (old new : List Text) : Type 0 where
  pub text : Text
  pub at : ℕ
  pub there : IsTextAt old text at
  pub id_is : text.id ≡ id
  pub last : text.readers ≡ 1
  pub is : new ≡ remove old at

-- A screen took a text, or left: it goes, or has one reader less; or it isn't there.
abbrev pub Removes : TextId → List Text → List Text → Type 0
Removes id old new = DropsText id old new
    ⊎ (Counts id (λ before after. before ≡ after + 1) old new ⊎ (HasNone old id × (new ≡ old)))

-- ---- who has them

-- whether two are the same
unfoldable pub is_same_text : TextId → TextId → Bool
is_same_text (Opening a) (Opening b) = a == b
is_same_text (Opening a) (Own b) = false
is_same_text (Opening a) (Commit b) = false
is_same_text (Own a) (Own b) = a == b
is_same_text (Own a) (Opening b) = false
is_same_text (Own a) (Commit b) = false
is_same_text (Commit a) (Commit b) = a == b
is_same_text (Commit a) (Opening b) = false
is_same_text (Commit a) (Own b) = false

-- whether this is what the screen at a place has yet to take
abbrev pub is_taker : TextId → Option TextId → Bool
is_taker id None = false
is_taker id (Some held) = is_same_text held id

-- at how many places a screen has yet to take it
unfoldable pub takers : TextId → List (Option TextId) → ℕ
takers id places = count_by (is_taker id) places

-- how many readers it has on the list
unfoldable pub readers : TextId → List Text → ℕ
readers id texts = sum_by (λ text. if is_same_text text.id id then text.readers else 0) texts

-- each has just as many readers as there are places where a screen has yet to take it
abbrev pub AreCounted : List Text → List (Option TextId) → Type 0
AreCounted texts places = (id : TextId) → readers id texts ≡ takers id places

-- the text that the screen at a place has yet to take
abbrev pub owed_text_at : List (Option TextId) → ℕ → Option TextId
owed_text_at places at = slice_index_or places at None

-- so it is with the text that a screen has yet to take
abbrev pub Pays : Option TextId → List Text → List Text → Type 0
Pays None old new = new ≡ old
Pays (Some id) old new = Removes id old new

-- where there is no connection, none is pending
abbrev pub AreConnected : List (Option TextId) → Slab Conn → Type 0
AreConnected places conns = (at : ℕ) → get conns at ≡ None → owed_text_at places at ≡ None
