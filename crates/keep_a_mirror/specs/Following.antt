-- What a mirror shows after a connection (CLICS Contest API 2023-06, event feed and reconnection).
use Rattle.std.specs.Prelude.{◌≡◌, ℕ, List, [], ◌++◌}
use Rattle.feed_settings.specs.Limits.{Limits}
use Rattle.feed_note.specs.declared.line.Line.{Line}
use Rattle.feed_node.specs.declared.fault.FeedFault.{FeedFault}
use Rattle.feed_node.specs.declared.fault.FeedFault.TheVariants.{Memory}
use Rattle.feed_node.specs.Reading.{Opening, Reads, FaultsAt}
use Rattle.feed_node.specs.Mirroring.{MirrorState, present_opening, mirror_after, cut_off}

-- the mirror that shows what these notes publish, on what it showed before or, where it asked for
-- everything, from nothing; it has no connection
abbrev pub shows_after : MirrorState → List Line → MirrorState
shows_after old notes = cut_off (mirror_after old.limits (present_opening old) notes [])

-- nothing is wrong with what the connection brought, whose lines say these notes, and the mirror
-- shows what they publish
pub record HasFollowed (old : MirrorState) (bytes : List ℕ) (new : MirrorState) : Type 0 where
  pub notes : List Line
  pub nothing_bad : Reads old.limits (present_opening old) bytes notes
  pub state : new ≡ shows_after old notes

-- the good lines of the bytes say these notes, and the fault is that of the line behind them; where
-- memory ran out, nothing is wrong with the bytes
abbrev pub EndsBy : Limits → Opening → List ℕ → List Line → FeedFault → Type 0
EndsBy limits opening bytes notes Memory = Reads limits opening bytes notes
EndsBy limits opening bytes notes fault = FaultsAt limits opening bytes notes fault

-- a prefix of what the connection brought ended by this fault, and the mirror shows what the good
-- lines before it publish
pub record HasGivenUp (old : MirrorState) (bytes : List ℕ) (fault : FeedFault)
    (new : MirrorState) : Type 0 where
  pub prefix : List ℕ
  pub behind : List ℕ
  pub whole : prefix ++ behind ≡ bytes
  pub notes : List Line
  pub ends : EndsBy old.limits (present_opening old) prefix notes fault
  pub state : new ≡ shows_after old notes
