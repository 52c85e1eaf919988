-- The heads that a server writes, as a client follows them.
use Rattle.std.proofs.Common.{◌≡◌, ℕ, Bool, true, false, List, [], ◌∷◌, length, map, refl, sym, codes, append-nil}
use Rattle.std.specs.Prelude.{decimal}
use Rattle.std.specs.Fmt.{digits}
use Rattle.httparse.specs.Grammar.{ResponseHead, trim_ows}
use Rattle.httparse.specs.Spans.{name_and_value}
use Rattle.feed_settings.specs.declared.framing.Framing.{Framing}
use Rattle.feed_settings.specs.declared.framing.Framing.TheVariants.{Close, Chunked}
use Rattle.feed_wire.specs.ChunkedBody.{IsChunkedBody}
use Rattle.feed_wire.specs.declared.refusal.Refusal.{Refusal}
use Rattle.feed_wire.specs.declared.refusal.Refusal.TheVariants.{LargeHead, Unreadable, NotGet, OtherPath, NothingPublished, TokenNotHeld}
use Rattle.feed_wire.specs.Answer.{refusal_body}
use Rattle.feed_wire.specs.FrameLaws.{IsUnfinished}
use Rattle.feed_wire.proofs.OurHeads.{feed_tree, refusal_tree}
use Rattle.feed_follow.specs.Coding.{values_of}
use Rattle.feed_follow.specs.Standing.{in_body, done, verdict, StandsBehind}
use Rattle.feed_answer.specs.Carried.{refusal_standing}
use Rattle.feed_answer.specs.FollowLaws.{codings}

-- ---- the heads of answers with the feed

abbrev pub transfer_codings : ResponseHead → List (List ℕ)
transfer_codings head = values_of (codes "transfer-encoding") (map name_and_value head.fields)

abbrev pub body_lengths : ResponseHead → List (List ℕ)
body_lengths head = values_of (codes "content-length") (map name_and_value head.fields)

pub feed_codings : (framing : Framing) → transfer_codings (feed_tree framing) ≡ codings framing
unfolding trim_ows
feed_codings Close = refl
feed_codings Chunked = refl

pub feed_lengths : (framing : Framing) → body_lengths (feed_tree framing) ≡ []
unfolding trim_ows
feed_lengths Close = refl
feed_lengths Chunked = refl

-- what comes behind them is a body that isn't whole
pub feed_behind : (framing : Framing) (had_token : Bool) (rest payload : List ℕ)
    → IsUnfinished framing rest payload
    → StandsBehind (verdict had_token (feed_tree framing)) rest (in_body payload)
unfolding trim_ows
feed_behind Close had_token rest payload is = is
feed_behind Chunked had_token rest payload is = is

-- or a whole one
pub feed_done : (had_token : Bool) (rest payload : List ℕ) → IsChunkedBody rest payload
    → StandsBehind (verdict had_token (feed_tree Chunked)) rest (done payload)
unfolding trim_ows
feed_done had_token rest payload is = (rest, [], sym (append-nil rest), is)

-- ---- the heads of refusals

pub refusal_codings : (refusal : Refusal) → transfer_codings (refusal_tree refusal) ≡ []
unfolding trim_ows
refusal_codings LargeHead = refl
refusal_codings Unreadable = refl
refusal_codings NotGet = refl
refusal_codings OtherPath = refl
refusal_codings NothingPublished = refl
refusal_codings TokenNotHeld = refl

pub refusal_lengths : (refusal : Refusal)
    → body_lengths (refusal_tree refusal) ≡ decimal (length (refusal_body refusal)) ∷ []
unfolding trim_ows digits
refusal_lengths LargeHead = refl
refusal_lengths Unreadable = refl
refusal_lengths NotGet = refl
refusal_lengths OtherPath = refl
refusal_lengths NothingPublished = refl
refusal_lengths TokenNotHeld = refl

pub refusal_behind : (refusal : Refusal) (had_token : Bool) (rest : List ℕ)
    → StandsBehind (verdict had_token (refusal_tree refusal)) rest
    (refusal_standing had_token refusal)
refusal_behind LargeHead had_token rest = refl
refusal_behind Unreadable true rest = refl
refusal_behind Unreadable false rest = refl
refusal_behind NotGet had_token rest = refl
refusal_behind OtherPath had_token rest = refl
refusal_behind NothingPublished had_token rest = refl
refusal_behind TokenNotHeld true rest = refl
refusal_behind TokenNotHeld false rest = refl
