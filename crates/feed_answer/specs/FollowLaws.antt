-- What a server writes is followed, prefix by prefix.
use Rattle.std.specs.Prelude.{◌≡◌, ℕ, ◌≤◌, Bool, List, [], ◌∷◌, length, take, map, codes, decimal}
use Rattle.httparse.specs.Grammar.{ResponseHead, status_code}
use Rattle.httparse.specs.Spans.{name_and_value}
use Rattle.feed_settings.specs.declared.framing.Framing.{Framing}
use Rattle.feed_settings.specs.declared.framing.Framing.TheVariants.{Close, Chunked}
use Rattle.feed_follow.specs.Coding.{values_of}
use Rattle.feed_wire.specs.ResponseHeads.{BeginsWithResponse}
use Rattle.feed_follow.specs.Standing.{Standing, in_body, Stands}
use Rattle.feed_wire.specs.declared.refusal.Refusal.{Refusal}
use Rattle.feed_wire.specs.Answer.{feed_head, refusal_code, refusal_head, refusal_body, refusal_text}
use Rattle.feed_wire.specs.FrameLaws.{AreTexts, joined}
use Rattle.feed_wire.specs.CarriedBytes.{response_text, ended_text, carried_by}
use Rattle.feed_answer.specs.Carried.{standing_at, ended_at, refusal_at}

-- the bytes of a response stand so, and in no other way
pub record StandsOnly (had_token : Bool) (bytes : List ℕ) (standing : Standing) : Type 0 where
  pub stands : Stands had_token bytes standing
  pub only : (other : Standing) → Stands had_token bytes other → other ≡ standing

-- the text is a whole head with this status, and with these values of the fields that frame a body
pub record IsHeadWith (text : List ℕ) (status : ℕ) (codings lengths : List (List ℕ)) : Type 0 where
  pub head : ResponseHead
  pub begins : BeginsWithResponse text head []
  pub status_is : status_code head ≡ status
  pub codings_are : values_of (codes "transfer-encoding") (map name_and_value head.fields) ≡ codings
  pub lengths_are : values_of (codes "content-length") (map name_and_value head.fields) ≡ lengths

-- how a body is coded so that it is framed so
abbrev pub codings : Framing → List (List ℕ)
codings Close = []
codings Chunked = codes "chunked" ∷ []

-- the head of each answer is read with its status, and with how its body is framed
abbrev pub FeedHeadsAreRead : Type 0
FeedHeadsAreRead = (framing : Framing) → IsHeadWith (feed_head framing) 200 (codings framing) []

abbrev pub RefusalHeadsAreRead : Type 0
RefusalHeadsAreRead =
    (refusal : Refusal)
    → IsHeadWith (refusal_head refusal) (refusal_code refusal) []
    (decimal (length (refusal_body refusal)) ∷ [])

abbrev pub HeadsAreRead : Type 0
HeadsAreRead = FeedHeadsAreRead × RefusalHeadsAreRead

-- each prefix of an answer with the feed stands in one way: in its head, or with a prefix of the
-- texts that it carries
abbrev pub ResponsesAreFollowed : Type 0
ResponsesAreFollowed =
    (framing : Framing) (texts : List (List ℕ)) (n : ℕ) (had_token : Bool) → AreTexts texts
    → StandsOnly had_token (take n (response_text framing texts)) (standing_at framing texts n)

-- and so does each prefix of one with the end of its body: the whole is done, where it has an end
abbrev pub EndsAreFollowed : Type 0
EndsAreFollowed =
    (framing : Framing) (texts : List (List ℕ)) (n : ℕ) (had_token : Bool) → AreTexts texts
    → StandsOnly had_token (take n (ended_text framing texts)) (ended_at framing texts n)

-- a longer prefix carries no less
abbrev pub PrefixesCarryMore : Type 0
PrefixesCarryMore =
    (framing : Framing) (texts : List (List ℕ)) (n m : ℕ) → n ≤ m
    → carried_by framing texts n ≤ carried_by framing texts m

-- the whole carries all
abbrev pub WholeCarriesAll : Type 0
WholeCarriesAll =
    (framing : Framing) (texts : List (List ℕ)) (n : ℕ) → length (response_text framing texts) ≤ n
    → (carried_by framing texts n ≡ length (joined texts))
    × (standing_at framing texts n ≡ in_body (joined texts))

-- each prefix of a refusal stands in one way: in its head, or as a refused token or its status
abbrev pub RefusalsAreFollowed : Type 0
RefusalsAreFollowed =
    (refusal : Refusal) (n : ℕ) (had_token : Bool)
    → StandsOnly had_token (take n (refusal_text refusal)) (refusal_at had_token refusal n)
