-- How the body of a response is coded and framed, by the fields of its head (RFC 9112, section 6;
-- RFC 9110, section 8).
use Rattle.std.specs.Prelude.{ℕ, Bool, not, ◌&&◌, ◌==◌, nat_lt, nat_le, List, [], ◌∷◌, length, map, filter, codes, bytes_eq, if◌then◌else◌, Result, Ok, Err}
use Rattle.std.specs.List.{list_all}
use Rattle.std.specs.Char.{is_ascii_digit}
use Rattle.std.specs.Str.{str_to_ascii_lowercase}
use Rattle.std.specs.Str.Parse.{digits_value}
use Rattle.feed_follow.specs.declared.fault.FollowFault.{FollowFault}
use Rattle.feed_follow.specs.declared.fault.FollowFault.TheVariants.{BadCoding, BadLength}
use Rattle.feed_follow.specs.declared.coding.BodyFraming.{BodyFraming}
use Rattle.feed_follow.specs.declared.coding.BodyFraming.TheVariants.{ToEnd, Sized, InChunks}

-- the text is this word, in any case
abbrev pub is_word : List ℕ → List ℕ → Bool
is_word word text = bytes_eq (str_to_ascii_lowercase text) (str_to_ascii_lowercase word)

-- the values of the fields of this name, in their order; a field is its name and its value without
-- the blanks around it (RFC 9110, sections 5.1 and 5.5)
abbrev pub values_of : List ℕ → List (List ℕ × List ℕ) → List (List ℕ)
values_of name fields = map (λ f. f.1) (filter (λ f. is_word name f.0) fields)

-- a length that is read: 1 to 18 decimal digits
abbrev pub is_length : List ℕ → Bool
is_length text = nat_lt 0 (length text) && nat_le (length text) 18 && list_all is_ascii_digit text

-- the text is this length
abbrev pub says_length : ℕ → List ℕ → Bool
says_length n text = is_length text && digits_value 10 text == n

-- by the values of Content-Length, which must be one number (RFC 9110, section 8.6)
abbrev pub framing_by_length : List (List ℕ) → Result BodyFraming FollowFault
framing_by_length [] = Ok ToEnd
framing_by_length (value ∷ values) =
    if list_all (says_length (digits_value 10 value)) (value ∷ values) then Ok (Sized
    (digits_value 10 value)) else Err BadLength

-- by the values of Transfer-Encoding, which go before those of Content-Length (RFC 9112, section
-- 6.3)
abbrev pub framing_by_transfer : List (List ℕ) → List (List ℕ) → Result BodyFraming FollowFault
framing_by_transfer [] lengths = framing_by_length lengths
framing_by_transfer (coding ∷ []) lengths =
    if is_word (codes "chunked") coding then Ok InChunks else Err BadCoding
framing_by_transfer (coding ∷ other ∷ codings) lengths = Err BadCoding

-- how the body is framed, or why it can't be read
abbrev pub body_framing : List (List ℕ × List ℕ) → Result BodyFraming FollowFault
body_framing fields =
    if not (list_all (is_word (codes "identity")) (values_of
    (codes "content-encoding") fields)) then Err BadCoding
    else framing_by_transfer (values_of (codes "transfer-encoding") fields) (values_of
    (codes "content-length") fields)
