-- A mirror that answers many.
use Rattle.std.specs.Prelude.{◌≡◌, ◌≢◌, ◌⊎◌, ℕ, ◌+◌, ◌%◌, ◌^◌, Bool, true, false, List, Option, Some, None}
use Rattle.feed_settings.specs.declared.framing.Framing.{Framing}
use Rattle.feed_node.specs.Texts.{published_text}
use Rattle.feed_node.specs.States.{NodeState}
use Rattle.feed_answer.specs.Replied.{Replied, whole, snapshot, RepliesTo}
use Rattle.feed_answer.specs.Served.{opening_text}
use Rattle.feed_http.specs.HeadReading.{IsStillNeeded, IsEnough}

-- the text that is kept, if one is, opens an answer of this node with its snapshot, so framed
abbrev pub IsOpeningOf : NodeState → Framing → Option (List ℕ) → Type 0
IsOpeningOf node framing opening = (text : List ℕ) → opening ≡ Some text
    → text ≡ opening_text framing (published_text node.published)

-- a text that was not there has the next number, and else the number stays
pub record NumbersText (old new : Option (List ℕ)) (made made_then : ℕ) : Type 0 where
  pub next : new ≢ old → made_then ≡ (made + 1) % (2 ^ 64)
  pub stays : new ≡ old → made_then ≡ made

-- the reply opens with the snapshot, of which no text is kept that is framed so: one has to be made
abbrev pub NeedsText : Framing → Option (List ℕ) → Replied → Type 0
NeedsText own opening (whole answer) = ⊥
NeedsText own opening (snapshot framing token) = (framing ≢ own) ⊎ (opening ≡ None)

-- so is the reply of the node to this head
pub record RepliesSo (head contest : List ℕ) (node : NodeState) (asked : Framing)
    (Holds : Replied → Type 0) : Type 0 where
  pub reply : Replied
  pub replies : RepliesTo head contest node asked 0 reply
  pub holds : Holds reply

-- Whether a text has to be made for this head: it is enough, and the reply to it needs one. Else
-- it is not enough yet, or the reply needs none.
abbrev pub TellsText : List ℕ → List ℕ → NodeState → Framing → Framing → Option (List ℕ) → Bool
    → Type 0
TellsText head contest node asked own opening true =
    IsEnough head × RepliesSo head contest node asked (NeedsText own opening)
TellsText head contest node asked own opening false =
    IsStillNeeded head
    ⊎ RepliesSo head contest node asked (λ reply. ¬ (NeedsText own opening reply))
