-- The texts of answers (RFC 9112, section 4).
use Rattle.std.specs.Prelude.{ℕ, List, [], ◌∷◌, ◌++◌, length, codes, decimal}
use Rattle.feed_settings.specs.declared.framing.Framing.{Framing}
use Rattle.feed_settings.specs.declared.framing.Framing.TheVariants.{Close, Chunked}
use Rattle.feed_wire.specs.declared.refusal.Refusal.{Refusal}
use Rattle.feed_wire.specs.declared.refusal.Refusal.TheVariants.{LargeHead, Unreadable, NotGet, OtherPath, NothingPublished, TokenNotHeld}
use Rattle.feed_wire.specs.RequestText.{head_text}

-- the status code of a refusal (RFC 9110, section 15; RFC 6585, section 5)
abbrev pub refusal_code : Refusal → ℕ
refusal_code LargeHead = 431
refusal_code Unreadable = 400
refusal_code NotGet = 405
refusal_code OtherPath = 404
refusal_code NothingPublished = 503
refusal_code TokenNotHeld = 400

-- its reason phrase
abbrev pub refusal_phrase : Refusal → List ℕ
refusal_phrase LargeHead = codes "Request Header Fields Too Large"
refusal_phrase Unreadable = codes "Bad Request"
refusal_phrase NotGet = codes "Method Not Allowed"
refusal_phrase OtherPath = codes "Not Found"
refusal_phrase NothingPublished = codes "Service Unavailable"
refusal_phrase TokenNotHeld = codes "Bad Request"

-- its message
abbrev pub refusal_message : Refusal → List ℕ
refusal_message LargeHead = codes "head too large"
refusal_message Unreadable = codes "bad request"
refusal_message NotGet = codes "method not allowed"
refusal_message OtherPath = codes "not found"
refusal_message NothingPublished = codes "nothing published"
refusal_message TokenNotHeld = codes "token not held"

-- its own header fields: 405 names what is allowed (RFC 9110, section 15.5.6)
abbrev pub refusal_fields : Refusal → List (List ℕ)
refusal_fields LargeHead = []
refusal_fields Unreadable = []
refusal_fields NotGet = codes "Allow: GET" ∷ []
refusal_fields OtherPath = []
refusal_fields NothingPublished = []
refusal_fields TokenNotHeld = []

-- its body, a JSON object with the code and the message
abbrev pub refusal_body : Refusal → List ℕ
refusal_body refusal =
    codes "{\"code\":" ++ decimal (refusal_code refusal) ++ codes ",\"message\":\""
    ++ refusal_message refusal ++ codes "\"}"

-- its head
abbrev pub refusal_head : Refusal → List ℕ
refusal_head refusal =
    head_text (
    ((codes "HTTP/1.1 " ++ decimal (refusal_code refusal) ++ codes " " ++ refusal_phrase refusal)
    ∷ codes "Content-Type: application/json" ∷ refusal_fields refusal)
    ++ (codes "Content-Length: " ++ decimal (length (refusal_body refusal)))
    ∷ codes "Connection: close" ∷ [])

-- the whole answer that refuses
abbrev pub refusal_text : Refusal → List ℕ
refusal_text refusal = refusal_head refusal ++ refusal_body refusal

-- the field that names the framing
abbrev pub framing_fields : Framing → List (List ℕ)
framing_fields Close = []
framing_fields Chunked = codes "Transfer-Encoding: chunked" ∷ []

-- the head of an answer that carries the feed
abbrev pub feed_head : Framing → List ℕ
feed_head framing = head_text (
    (codes "HTTP/1.1 200 OK" ∷ codes "Content-Type: application/x-ndjson" ∷ framing_fields framing)
    ++ codes "Connection: close" ∷ [])
