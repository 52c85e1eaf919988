-- How the verdict of an audit is printed: as lines, or as a line of JSON.
use Rattle.std.specs.Prelude.{ℕ, Bool, true, false, List, ◌++◌, length, take, Option, Some, None, codes, decimal, nat_le, if◌then◌else◌}
use Rattle.std.specs.Str.Lossy.{utf8_valid_len}
use Rattle.feed_text.specs.Strings.{written_string}
use Rattle.feed_note.specs.Written.{written_name}
use Rattle.feed_audit.specs.declared.difference.Side.{Side}
use Rattle.feed_audit.specs.declared.difference.Side.TheVariants.{Nothing, Object, Collection}
use Rattle.feed_audit.specs.declared.difference.Difference.{Difference}
use Rattle.feed_audit.specs.declared.difference.Difference.TheVariants.{NoToken, Ended, At, Same}
use Rattle.feed_audit.specs.declared.verdict.Stray.{Stray}

-- ---- as lines

-- how many bytes of an object are printed at most, where it isn't to be printed whole
abbrev pub printed_bytes : ℕ
printed_bytes = 200

-- the characters that are whole among these bytes
abbrev pub whole_characters : List ℕ → List ℕ
whole_characters text = take (utf8_valid_len text) text

-- an object, or its first characters and dots
abbrev pub object_text : Bool → List ℕ → List ℕ
object_text true text = text
object_text false text =
    if nat_le (length text) printed_bytes then text
    else whole_characters (take printed_bytes text) ++ codes "..."

-- what stands on one side; objects whole or not
abbrev pub side_text : Bool → Side → List ℕ
side_text whole Nothing = codes "nothing"
side_text whole (Object text) = object_text whole text
side_text whole Collection = codes "a collection"

-- a type, or a type and an id
abbrev pub place_text : List ℕ → Option (List ℕ) → List ℕ
place_text kind None = kind
place_text kind (Some id) = kind ++ codes " " ++ id

-- where the primary's record ends too soon
abbrev pub end_text : Option (List ℕ) → List ℕ
end_text None = codes "the primary's record publishes nothing\n"
end_text (Some token) = codes "the primary's record ends at token " ++ token ++ codes "\n"

abbrev pub difference_text : Bool → Difference → List ℕ
difference_text whole NoToken = codes "the primary has no such token\n"
difference_text whole (Ended last) = end_text last
difference_text whole Same = codes "the tables are the same\n"
difference_text whole (At kind id primary screen) =
    codes "first at " ++ place_text kind id ++ codes "\nprimary: " ++ side_text whole primary
    ++ codes "\nscreen: " ++ side_text whole screen ++ codes "\n"

-- so many states of so many agree
abbrev pub agreement_text : ℕ → ℕ → List ℕ
agreement_text states primary =
    codes "agrees: " ++ decimal states ++ codes " states of " ++ decimal primary ++ codes "\n"

-- how the verdict is called: a record that ends too soon shows no difference
abbrev pub verdict_text : Difference → List ℕ
verdict_text (Ended last) = codes "undecided: token "
verdict_text other = codes "differs: token "

-- which state is none of the primary's
abbrev pub differs_text : Stray → List ℕ
differs_text stray =
    verdict_text stray.difference ++ stray.token ++ codes " at line " ++ decimal stray.line
    ++ codes ", after " ++ decimal stray.before ++ codes " states\n"

-- and why
abbrev pub stray_text : Bool → Stray → List ℕ
stray_text whole stray = differs_text stray ++ difference_text whole stray.difference

-- ---- as JSON

-- `null`, the object, or `[]`
abbrev pub side_json : Side → List ℕ
side_json Nothing = codes "null"
side_json (Object text) = text
side_json Collection = codes "[]"

abbrev pub place_json : List ℕ → Option (List ℕ) → List ℕ
place_json kind id =
    codes "\"why\":\"tables\",\"type\":" ++ written_string kind ++ codes ",\"id\":"
    ++ written_name id

abbrev pub sides_json : Side → Side → List ℕ
sides_json primary screen =
    codes ",\"primary\":" ++ side_json primary ++ codes ",\"screen\":" ++ side_json screen

abbrev pub difference_json : Difference → List ℕ
difference_json NoToken = codes "\"why\":\"no token\""
difference_json (Ended last) = codes "\"why\":\"ended\",\"last\":" ++ written_name last
difference_json Same = codes "\"why\":\"same\""
difference_json (At kind id primary screen) = place_json kind id ++ sides_json primary screen

abbrev pub agreement_json : ℕ → ℕ → List ℕ
agreement_json states primary =
    codes "{\"verdict\":\"agrees\",\"states\":" ++ decimal states ++ codes ",\"of\":"
    ++ decimal primary ++ codes "}\n"

abbrev pub verdict_json : Difference → List ℕ
verdict_json (Ended last) = codes "{\"verdict\":\"undecided\",\"token\":"
verdict_json other = codes "{\"verdict\":\"differs\",\"token\":"

abbrev pub differs_json : Stray → List ℕ
differs_json stray =
    verdict_json stray.difference ++ written_string stray.token ++ codes ",\"line\":"
    ++ decimal stray.line
    ++ codes ",\"after\":" ++ decimal stray.before ++ codes ","

abbrev pub stray_json : Stray → List ℕ
stray_json stray = differs_json stray ++ difference_json stray.difference ++ codes "}\n"
