-- The head of a request at the start of bytes that came over a connection (RFC 9112, sections 2 and
-- 3), within the limits of each head.
use Rattle.std.specs.Prelude.{ℕ, List, length}
use Rattle.httparse.specs.Grammar.{RequestHead, print_request, ReadsRequest}
use Rattle.feed_wire.specs.HeadSizes.{IsHeadSize, IsPastLimits}

-- the bytes begin with this request head, and go on with the rest
pub record BeginsWithRequest (bytes : List ℕ) (head : RequestHead) (rest : List ℕ) : Type 0 where
  pub reads : ReadsRequest bytes head rest
  pub size : IsHeadSize (print_request head) (length head.fields)

-- the bytes begin with no whole request head
abbrev pub HasNoWholeRequest : List ℕ → Type 0
HasNoWholeRequest bytes =
    (head : RequestHead) (rest : List ℕ) → ¬ (BeginsWithRequest bytes head rest)

-- the bytes are too large for a request head
abbrev pub IsTooLargeRequest : List ℕ → Type 0
IsTooLargeRequest bytes = IsPastLimits bytes × HasNoWholeRequest bytes
