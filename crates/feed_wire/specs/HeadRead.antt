-- What a look at the bytes of a request's head may say.
use Rattle.std.specs.Prelude.{ℕ, ◌≤◌, List, length, drop}
use Rattle.httparse.specs.Grammar.{RequestHead, NeverHasRequest}
use Rattle.feed_wire.specs.declared.heads.HeadRead.{HeadRead}
use Rattle.feed_wire.specs.declared.heads.HeadRead.TheVariants.{Whole, TooLarge, Never, More}
use Rattle.feed_wire.specs.HeadSizes.{IsPastLimits}
use Rattle.feed_wire.specs.Heads.{BeginsWithRequest, HasNoWholeRequest, IsTooLargeRequest}

-- the bytes begin with a whole head of that length, are too large, never become a head, or lack
-- more bytes
abbrev pub RequestStands : List ℕ → HeadRead → Type 0
RequestStands bytes (Whole len) =
    (len ≤ length bytes) × ((head : RequestHead) × BeginsWithRequest bytes head (drop len bytes))
RequestStands bytes TooLarge = IsTooLargeRequest bytes
RequestStands bytes Never = NeverHasRequest bytes × HasNoWholeRequest bytes × ¬ (IsPastLimits bytes)
RequestStands bytes More = HasNoWholeRequest bytes × ¬ (IsPastLimits bytes)
