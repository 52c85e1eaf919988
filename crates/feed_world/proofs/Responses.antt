-- The bytes of a response: what is appended to them, and how much of the text has come with a
-- prefix of them.
use Rattle.std.proofs.Common.{◌≡◌, refl, sym, ap, ◌∙◌, subst, ℕ, ◌+◌, ◌-◌, ◌<◌, ◌≤◌, ◌^◌, min, false, arith, List, [], ◌∷◌, ◌++◌, length, append_assoc, append-nil, length-append}
use Rattle.std.specs.Fmt.{digits}
use Rattle.std.specs.List.{AllByRecursion, flat_map}
use Rattle.httparse.specs.Ascii.{crlf_bytes}
use Rattle.feed_settings.specs.declared.framing.Framing.{Framing}
use Rattle.feed_settings.specs.declared.framing.Framing.TheVariants.{Close, Chunked}
use Rattle.feed_wire.specs.Answer.{feed_head}
use Rattle.feed_wire.specs.Framed.{frame}
use Rattle.feed_wire.specs.FrameLaws.{AreTexts, joined}
use Rattle.feed_wire.specs.CarriedBytes.{bytes_before, carried_in, response_text, carried_by}
use Rattle.feed_world.specs.Connection.{Part, Connection, part_text, part_texts, parts_text, sent_bytes, bytes_sent, come_by}
use Rattle.feed_world.specs.Log.{Log}
use Rattle.feed_wire.proofs.PrefixLemmas.{nothing_carried as carried_none, all_carried}

-- ---- frames

-- the text of a response's parts is what its frames carry
pub joined_parts : (log : Log) (parts : List Part) → joined (part_texts log parts) ≡ parts_text log parts
joined_parts log [] = refl
joined_parts log (part ∷ parts) = ap (λ t. part_text log part ++ t) (joined_parts log parts)

pub chunk_length : (text : List ℕ) → length (digits 16 false (length text) ++ crlf_bytes ++ text ++ crlf_bytes) ≡ length (digits 16 false (length text)) + 2 + length text + 2
chunk_length text =
    let a = length-append (digits 16 false (length text) ++ crlf_bytes ++ text) crlf_bytes in
    let c = length-append (digits 16 false (length text) ++ crlf_bytes) text in
    let d = length-append (digits 16 false (length text)) crlf_bytes in
    omega (arith, a, c, d)

-- a frame is no shorter than what it carries
pub frame_length : (framing : Framing) (text : List ℕ) → length text ≤ length (frame framing text)
frame_length Close text = omega arith
frame_length Chunked [] = omega arith
frame_length Chunked (b ∷ bytes) =
    let a : length (frame Chunked (b ∷ bytes)) ≡ length (digits 16 false (length (b ∷ bytes))) + 2 + length (b ∷ bytes) + 2 = chunk_length (b ∷ bytes) in
    omega (arith, a)

frames_fit : (framing : Framing) (texts : List (List ℕ)) (n : ℕ) → length (flat_map (frame framing) texts) < n → AllByRecursion (λ text. length text < n) texts
frames_fit framing [] n h = tt
frames_fit framing (text ∷ texts) n h =
    let a = length-append (frame framing text) (flat_map (frame framing) texts) in
    let l = frame_length framing text in
    (omega (arith, h, a, l), frames_fit framing texts n (omega (arith, h, a)))

-- the texts of a response that fits into memory fit into memory
pub are_texts : (log : Log) (c : Connection) → length (sent_bytes log c) < 2 ^ 64 → AreTexts (part_texts log c.parts)
are_texts log c h =
    let a = length-append (feed_head c.framing) (flat_map (frame c.framing) (part_texts log c.parts)) in
    frames_fit c.framing (part_texts log c.parts) (2 ^ 64) (omega (arith, h, a))

-- ---- one part more

frames_on : (log : Log) (framing : Framing) (parts : List Part) (part : Part)
    → flat_map (frame framing) (part_texts log (parts ++ part ∷ [])) ≡ flat_map (frame framing) (part_texts log parts) ++ frame framing (part_text log part)
frames_on log framing [] part = append-nil (frame framing (part_text log part))
frames_on log framing (p ∷ parts) part =
    ap (λ t. frame framing (part_text log p) ++ t) (frames_on log framing parts part)
    ∙ sym (append_assoc (frame framing (part_text log p)) (flat_map (frame framing) (part_texts log parts)) (frame framing (part_text log part)))

-- its frame stands behind the others
pub one_frame_more : (log : Log) (framing : Framing) (parts : List Part) (part : Part)
    → response_text framing (part_texts log (parts ++ part ∷ [])) ≡ response_text framing (part_texts log parts) ++ frame framing (part_text log part)
one_frame_more log framing parts part =
    ap (λ t. feed_head framing ++ t) (frames_on log framing parts part)
    ∙ sym (append_assoc (feed_head framing) (flat_map (frame framing) (part_texts log parts)) (frame framing (part_text log part)))

-- ---- how much has come

-- nothing of the text has come within the head
pub come_none : (log : Log) (c : Connection) (n : ℕ) → n < length (feed_head c.framing) → come_by log c n ≡ 0
come_none log c n h =
    let none : n - length (feed_head c.framing) ≡ 0 = omega arith in
    ap (carried_in c.framing (part_texts log c.parts)) none ∙ carried_none c.framing (part_texts log c.parts)

carried_within : (framing : Framing) (texts : List (List ℕ)) (n : ℕ) → carried_in framing texts n ≤ length (joined texts)
carried_within framing [] n = omega arith
carried_within framing (text ∷ texts) n =
    let a = length-append text (joined texts) in
    let later = carried_within framing texts (n - length (frame framing text)) in
    omega (arith, a, later)

-- no more has come than there is
pub come_within : (log : Log) (c : Connection) (n : ℕ) → come_by log c n ≤ length (parts_text log c.parts)
come_within log c n =
    subst (λ t. come_by log c n ≤ length t) (joined_parts log c.parts) (carried_within c.framing (part_texts log c.parts) (n - length (feed_head c.framing)))

carried_few : (framing : Framing) (texts : List (List ℕ)) (n : ℕ) → carried_in framing texts n ≤ n
carried_few framing [] n = omega arith
carried_few framing (text ∷ texts) n =
    let l = frame_length framing text in
    let later = carried_few framing texts (n - length (frame framing text)) in
    omega (arith, l, later)

-- no more than came of the response
pub come_few : (log : Log) (c : Connection) (n : ℕ) → come_by log c n ≤ n
come_few log c n =
    let few = carried_few c.framing (part_texts log c.parts) (n - length (feed_head c.framing)) in
    omega (arith, few)

carried_stays : (log : Log) (framing : Framing) (parts : List Part) (part : Part) (n : ℕ) → n ≤ length (flat_map (frame framing) (part_texts log parts))
    → carried_in framing (part_texts log (parts ++ part ∷ [])) n ≡ carried_in framing (part_texts log parts) n
carried_stays log framing [] part n h = omega arith
carried_stays log framing (p ∷ parts) part n h =
    let a = length-append (frame framing (part_text log p)) (flat_map (frame framing) (part_texts log parts)) in
    let rest : n - length (frame framing (part_text log p)) ≤ length (flat_map (frame framing) (part_texts log parts)) = omega (arith, h, a) in
    ap (λ k. min (n - bytes_before framing (part_text log p)) (length (part_text log p)) + k) (carried_stays log framing parts part (n - length (frame framing (part_text log p))) rest)

-- what is sent later changes nothing of what has come
pub come_stays : (log : Log) (framing : Framing) (parts : List Part) (part : Part) (n : ℕ) → n ≤ length (response_text framing (part_texts log parts))
    → carried_by framing (part_texts log (parts ++ part ∷ [])) n ≡ carried_by framing (part_texts log parts) n
come_stays log framing parts part n h =
    let a = length-append (feed_head framing) (flat_map (frame framing) (part_texts log parts)) in
    carried_stays log framing parts part (n - length (feed_head framing)) (omega (arith, h, a))

-- ---- all of it

-- with all bytes of the response all of the text has come
pub come_all : (log : Log) (c : Connection) (n : ℕ) → bytes_sent log c ≤ n → come_by log c n ≡ length (parts_text log c.parts)
come_all log c n h =
    let a = length-append (feed_head c.framing) (flat_map (frame c.framing) (part_texts log c.parts)) in
    all_carried c.framing (part_texts log c.parts) (n - length (feed_head c.framing)) (omega (arith, a, h))
    ∙ ap length (joined_parts log c.parts)
