-- How far the first bytes of a response have come (RFC 9112, sections 6.3 and 7.1).
use Rattle.std.specs.Prelude.{ℕ, ◌==◌, nat_lt, Bool, ◌&&◌, if◌then◌else◌, List, [], length, take}
use Rattle.feed_settings.specs.declared.framing.Framing.{Framing}
use Rattle.feed_settings.specs.declared.framing.Framing.TheVariants.{Close, Chunked}
use Rattle.feed_wire.specs.declared.refusal.Refusal.{Refusal}
use Rattle.feed_wire.specs.Answer.{feed_head, refusal_code, refusal_head}
use Rattle.feed_wire.specs.CarriedBytes.{carried_by, ended_text}
use Rattle.feed_wire.specs.FrameLaws.{joined}
use Rattle.feed_follow.specs.declared.fault.FollowFault.TheVariants.{Status}
use Rattle.feed_follow.specs.Standing.{Standing, in_head, token_refused, in_body, done, failed}

-- how far these first n bytes have come: they stand in the head, or carry so much of the texts
abbrev pub standing_at : Framing → List (List ℕ) → ℕ → Standing
standing_at framing texts n =
    if nat_lt n (length (feed_head framing)) then in_head
    else in_body (take (carried_by framing texts n) (joined texts))

-- the same with the end of the body, which a body to the end of the connection doesn't have
abbrev pub ended_at : Framing → List (List ℕ) → ℕ → Standing
ended_at Close texts n = standing_at Close texts n
ended_at Chunked texts n =
    if nat_lt n (length (ended_text Chunked texts)) then standing_at Chunked texts n
    else done (joined texts)

-- how a refusal is read: as that of the token, where the request had one and the status is 400, or
-- as its status
abbrev pub refusal_standing : Bool → Refusal → Standing
refusal_standing had_token refusal =
    if (refusal_code refusal == 400) && had_token then token_refused
    else failed (Status (refusal_code refusal)) []

-- how far the first n bytes of a refusal have come
abbrev pub refusal_at : Bool → Refusal → ℕ → Standing
refusal_at had_token refusal n =
    if nat_lt n (length (refusal_head refusal)) then in_head
    else refusal_standing had_token refusal
