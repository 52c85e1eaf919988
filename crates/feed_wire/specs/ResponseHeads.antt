-- The head at the start of bytes that came over a connection (RFC 9112, section 2), within this
-- profile's limits.
use Rattle.std.specs.Prelude.{◌≡◌, ℕ, List, ◌++◌, length}
use Rattle.httparse.specs.Grammar.{ResponseHead, print_response, ReadsResponse, NeverHasResponse}
use Rattle.feed_wire.specs.HeadSizes.{IsHeadSize, IsPastLimits}

-- the bytes begin with this response head, and go on with the rest
pub record BeginsWithResponse (bytes : List ℕ) (head : ResponseHead) (rest : List ℕ) : Type 0 where
  pub reads : ReadsResponse bytes head rest
  pub size : IsHeadSize (print_response head) (length head.fields)

-- the bytes begin with no whole response head
abbrev pub HasNoWholeResponse : List ℕ → Type 0
HasNoWholeResponse bytes =
    (head : ResponseHead) (rest : List ℕ) → ¬ (BeginsWithResponse bytes head rest)

-- within the limits a byte came behind which no bytes can make a response head
pub record HasBadHead (bytes : List ℕ) : Type 0 where
  pub prefix : List ℕ
  pub later : List ℕ
  pub split : bytes ≡ prefix ++ later
  pub never : NeverHasResponse prefix
  pub within : ¬ (IsPastLimits prefix)
