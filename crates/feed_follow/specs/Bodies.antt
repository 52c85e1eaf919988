-- The body of a response, whole and in part (RFC 9112, section 6.3).
use Rattle.std.specs.Prelude.{◌≡◌, ℕ, ◌<◌, List, length}
use Rattle.feed_follow.specs.declared.coding.BodyFraming.{BodyFraming}
use Rattle.feed_follow.specs.declared.coding.BodyFraming.TheVariants.{ToEnd, Sized, InChunks}
use Rattle.feed_wire.specs.ChunkedBody.{IsChunkedBody, BreaksOff}

-- the bytes are a whole body so framed, with this payload; one to the end of the connection has no
-- end of its own
abbrev pub IsBody : BodyFraming → List ℕ → List ℕ → Type 0
IsBody ToEnd text payload = ⊥
IsBody (Sized n) text payload = (length text ≡ n) × (payload ≡ text)
IsBody InChunks text payload = IsChunkedBody text payload

-- the bytes are the prefix of a body so framed that isn't whole yet, with this payload
abbrev pub IsBodyPrefix : BodyFraming → List ℕ → List ℕ → Type 0
IsBodyPrefix ToEnd text payload = payload ≡ text
IsBodyPrefix (Sized n) text payload = (length text < n) × (payload ≡ text)
IsBodyPrefix InChunks text payload = BreaksOff text payload
