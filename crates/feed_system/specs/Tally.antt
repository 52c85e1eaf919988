-- How many connections each has who connects.
use Rattle.std.specs.Prelude.{◌≡◌, ◌≤◌, ℕ, Bool, false, List, Option, Some, None, count_by, slice_index_or}
use Rattle.std.specs.Option.{unwrap_or}
use Rattle.std.specs.declared.cmp.Ordering.{Ordering}
use Rattle.std.specs.Ordering.{is_eq}
use Rattle.std.specs.BTreeMap.{BTreeMap, get}
use Rattle.feed_system.specs.declared.tally.Owner.{Owner}
use Rattle.feed_system.specs.contracts.tally.OwnerOrd.TheImpl as owner_ord

-- as whom the connection at a number counts
abbrev pub owner_at : List (Option Owner) → ℕ → Option Owner
owner_at owners at = slice_index_or owners at None

-- the order of those who connect
abbrev pub compared : Owner → Owner → Ordering
compared = (owner_ord.ghosts).cmp

-- whether two are one
abbrev pub is_same : Owner → Owner → Bool
is_same one other = is_eq (compared one other)

-- whether the connection at a number counts as somebody's
abbrev pub is_of : Owner → Option Owner → Bool
is_of owner None = false
is_of owner (Some other) = is_same other owner

-- how many count as somebody's
unfoldable pub holders : Owner → List (Option Owner) → ℕ
holders owner owners = count_by (is_of owner) owners

-- how many somebody has, as it was counted
abbrev pub count_in : BTreeMap Owner ℕ → Owner → ℕ
count_in counts owner = unwrap_or (get compared counts owner) 0

-- That is right for all.
abbrev pub HaveRightTallies : BTreeMap Owner ℕ → List (Option Owner) → Type 0
HaveRightTallies counts owners = (owner : Owner) → count_in counts owner ≡ holders owner owners

-- nobody has more than so many
abbrev pub AreFew : ℕ → List (Option Owner) → Type 0
AreFew most owners = (owner : Owner) → holders owner owners ≤ most
