-- What a response carries, whoever sent it.
use Rattle.std.specs.Prelude.{◌≡◌, ℕ, Bool, List, ◌++◌, Ok}
use Rattle.httparse.specs.Grammar.{ResponseHead}
use Rattle.feed_follow.specs.declared.coding.BodyFraming.{BodyFraming}
use Rattle.feed_follow.specs.declared.heads.Verdict.TheVariants.{Body}
use Rattle.feed_wire.specs.ResponseHeads.{BeginsWithResponse}
use Rattle.feed_follow.specs.Standing.{Standing, in_head, token_refused, in_body, done, failed, Stands, StandsInBody, verdict}

-- a response that stands so brought this payload
abbrev pub HasPayload : Standing → List ℕ → Type 0
HasPayload in_head payload = ⊥
HasPayload token_refused payload = ⊥
HasPayload (in_body own) payload = payload ≡ own
HasPayload (done own) payload = payload ≡ own
HasPayload (failed fault own) payload = payload ≡ own

-- the bytes carry this text: whatever payload any prefix of them brings, the text begins with it
abbrev pub CarryText : Bool → List ℕ → List ℕ → Type 0
CarryText had_token bytes text =
    (before behind payload : List ℕ) (standing : Standing) → before ++ behind ≡ bytes
    → Stands had_token before standing → HasPayload standing payload
    → (later : List ℕ) × (payload ++ later ≡ text)

-- bytes behind a head that frames them so bring this text: the payload of their body as far as it
-- came, or of the whole body, behind which bytes are ignored, or of what stands before a bad chunk
abbrev pub BodyBrings : BodyFraming → List ℕ → List ℕ → Type 0
BodyBrings framing bytes text =
    (standing : Standing) × StandsInBody framing bytes standing × HasPayload standing text

-- The bytes are a response of whatever head, whose body, as far as it came, brings this text: to
-- the end of the connection, of a length that the head says, or in chunks.
pub record IsFeedOf (had_token : Bool) (bytes text : List ℕ) : Type 0 where
  pub head : ResponseHead
  pub body : List ℕ
  pub begins : BeginsWithResponse bytes head body
  pub framing : BodyFraming
  pub says : verdict had_token head ≡ Ok (Body framing)
  pub brings : BodyBrings framing body text

-- such bytes carry the text
abbrev pub FeedsCarryText : Type 0
FeedsCarryText = (had_token : Bool) (bytes text : List ℕ) → IsFeedOf had_token bytes text
    → CarryText had_token bytes text
