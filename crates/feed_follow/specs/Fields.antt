-- What one more field of a head does to the framing of its body.
use Rattle.std.specs.Prelude.{ℕ, Bool, true, not, ◌&&◌, ◌||◌, List, codes, if◌then◌else◌, Result, Ok, Err}
use Rattle.std.specs.Str.Parse.{digits_value}
use Rattle.feed_follow.specs.declared.fault.FollowFault.{FollowFault}
use Rattle.feed_follow.specs.declared.fault.FollowFault.TheVariants.{BadCoding, BadLength}
use Rattle.feed_follow.specs.declared.coding.BodyFraming.{BodyFraming}
use Rattle.feed_follow.specs.declared.coding.BodyFraming.TheVariants.{ToEnd, Sized, InChunks}
use Rattle.feed_follow.specs.Coding.{is_word, is_length, says_length}

-- one more length behind those that gave this framing
abbrev pub by_length : BodyFraming → List ℕ → Result BodyFraming FollowFault
by_length ToEnd text = if is_length text then Ok (Sized (digits_value 10 text)) else Err BadLength
by_length (Sized n) text = if says_length n text then Ok (Sized n) else Err BadLength
by_length InChunks text = Err BadLength

-- one more field behind those that said whether the body is chunked
abbrev pub by_coding : Bool → List ℕ × List ℕ → Result Bool FollowFault
by_coding is_chunked f =
    if is_word (codes "content-encoding") f.0 && not (is_word (codes "identity") f.1)
    then Err BadCoding
    else (if not (is_word (codes "transfer-encoding") f.0) then Ok is_chunked
    else (if is_chunked || not (is_word (codes "chunked") f.1) then Err BadCoding else Ok true))
