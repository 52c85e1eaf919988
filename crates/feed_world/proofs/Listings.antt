-- A listing has a change, and empty tables have no size and are within any limits.
use Rattle.std.proofs.Common.{◌≡◌, refl, ℕ, false, arith, List, [], ◌∷◌, flat_map, Option, Some, None}
use Rattle.std.proofs.lemmas.Bool.{le-ltb as not_under}
use Rattle.std.specs.Prelude.{◌≢◌}
use Rattle.std.specs.FinMap.{entries}
use Rattle.feed_tables.specs.Tables.{Contents, listed, or_clear, listing, size}
use Rattle.feed_changes.specs.declared.change.Change.{Change}
use Rattle.feed_node.specs.Bounds.{passes}
use Rattle.feed_node.proofs.Mirrored.{none_large}
use Rattle.feed_node.proofs.Bounds.{full_none}

pub listing_is_some : (contents : Contents) → listing contents ≢ []
listing_is_some contents = by (flat_map listed (entries contents))
  where
    by : (changes : List Change) → or_clear changes ≢ []
    by [] = λ e. cc
    by (c ∷ cs) = λ e. cc

-- ---- within any limits
none_passes : (limit : Option ℕ) (n : ℕ) → n ≡ 0 → passes limit n ≡ false
none_passes None n is = refl
none_passes (Some most) n is = not_under most n (omega (arith, is))
