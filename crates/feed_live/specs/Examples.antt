-- Two lines of a server whose tokens are no numbers: as a feed, and as a replay.
use Rattle.std.specs.Prelude.{codes, ℕ, List, [], ◌∷◌, Some}
use Rattle.feed_settings.specs.Limits.{Limits}
use Rattle.feed_text.specs.Objects.{IsObjectText}
use Rattle.feed_changes.specs.declared.change.Change.{Change}
use Rattle.feed_changes.specs.declared.change.Change.TheVariants.{Set}
use Rattle.feed_note.specs.declared.line.Line.{Line}
use Rattle.feed_note.specs.declared.line.Line.TheVariants.{Note}
use Rattle.feed_note.specs.Lines.{lines}
use Rattle.feed_node.specs.Mirroring.{new_mirror, first_opening}
use Rattle.feed_node.specs.Reading.{AllGood}
use Rattle.feed_world.specs.Log.{Log}
use Rattle.feed_live.specs.Telling.{tokened_log, Replays}
use Rattle.feed_files.specs.Input.{IsHonestInput}

abbrev pub text : List ℕ
text = codes
    "{\"type\":\"teams\",\"id\":\"1\",\"data\":{\"id\":\"1\"},\"token\":\"cds7\"}\n{\"type\":\"teams\",\"id\":\"1\",\"data\":{\"id\":\"1\"},\"token\":\"cds1495\"}\n"

abbrev pub object : List ℕ
object = codes "{\"id\":\"1\"}"

abbrev pub change : Change
change = Set (codes "teams") (codes "1") object

-- what the two lines say
abbrev pub one : Change × List ℕ
one = (change, codes "cds7")

abbrev pub other : Change × List ℕ
other = (change, codes "cds1495")

-- As a feed they tell a log of two states, and are honest (that the object's text is one is
-- computed by tests).
abbrev pub TheirFeedIsHonest : Type 0
TheirFeedIsHonest =
    (limits : Limits) → IsObjectText object
    → IsHonestInput limits (tokened_log one (other ∷ [])) (new_mirror limits) text

-- the log whose first state is what both lines make, at the token of the second
abbrev pub replayed : Log
replayed = record { first = change ∷ change ∷ []; commits = []; token = λ k. codes "cds1495" }

abbrev pub notes : List Line
notes = Note (change ∷ []) (Some (codes "cds7")) ∷ Note (change ∷ []) (Some (codes "cds1495")) ∷ []

-- As a replay they end at the one state of that log, where they are within the limits.
abbrev pub TheirReplayEnds : Type 0
TheirReplayEnds =
    (limits : Limits) → AllGood limits first_opening (lines text) notes
    → Replays replayed (new_mirror limits) text
