-- Laws of listings: what the changes of a snapshot are to the tables that it lists.
use Rattle.std.specs.Prelude.{◌≡◌, ◌≤◌, ◌+◌, max, List, length}
use Rattle.std.specs.List.{AllByRecursion}
use Rattle.feed_changes.specs.declared.change.Change.{Change}
use Rattle.feed_tables.specs.Amounts.{bytes, changes_bytes}
use Rattle.feed_changes.specs.Changes.{IsChange}
use Rattle.feed_tables.specs.Tables.{Contents, no_tables, after_all, listing, size}

-- a listing, taken from empty tables, restores its tables
abbrev pub ListingRestores : Type 0
ListingRestores = (contents : Contents) → after_all no_tables (listing contents) ≡ contents

-- it has one change for each type and each object of a collection, and one where there is no type
abbrev pub ListingHasSize : Type 0
ListingHasSize = (contents : Contents) → length (listing contents) ≡ max 1 (size contents)

-- it puts in the bytes that the tables have
abbrev pub ListingHasBytes : Type 0
ListingHasBytes = (contents : Contents) → changes_bytes (listing contents) ≡ bytes contents

-- changes add no more bytes than they put in
abbrev pub ChangesAddBytes : Type 0
ChangesAddBytes =
    (contents : Contents) (changes : List Change)
    → bytes (after_all contents changes) ≤ bytes contents + changes_bytes changes

-- where the changes that made the tables are within the limits, so are those of the listing
abbrev pub ListingIsWithin : Type 0
ListingIsWithin = (changes : List Change) → AllByRecursion IsChange changes
    → AllByRecursion IsChange (listing (after_all no_tables changes))
