-- How a node answers a request for its feed, where the bytes of a snapshot are left out: many
-- answers share them.
use Rattle.std.specs.Prelude.{◌≡◌, ℕ, List, [], Option, Some, None}
use Rattle.feed_settings.specs.declared.framing.Framing.{Framing}
use Rattle.feed_node.specs.States.{NodeState, published_token}
use Rattle.feed_answer.specs.declared.answering.Reply.{Reply}
use Rattle.feed_answer.specs.declared.answering.Reply.TheVariants.{Whole, Snapshot}
use Rattle.feed_wire.specs.declared.refusal.Refusal.TheVariants.{NothingPublished}
use Rattle.feed_answer.specs.Answered.{AnswerParts, parts_of, refusing, answer_opened}
use Rattle.feed_wire.specs.Asked.{Asked, refused, feed, framing_for, Asks}
use Rattle.feed_answer.specs.Opening.{opens}
use Rattle.feed_answer.specs.Served.{opening_text}

-- a whole answer; or status 200 in this framing, opening with the published snapshot, whose session
-- has this token
pub data Replied : Type 0 where
  whole : AnswerParts → Replied
  snapshot : Framing → List ℕ → Replied

-- what the code replies
abbrev pub reply_of : Reply → Replied
reply_of (Whole a) = whole (parts_of a.status a.framing a.bytes.items a.session)
reply_of (Snapshot framing session) = snapshot framing session

-- the reply to who asks with no token, where this is the published one
abbrev pub replies_fresh : Framing → Option (List ℕ) → Replied
replies_fresh framing None = whole (refusing NothingPublished)
replies_fresh framing (Some token) = snapshot framing token

-- the reply to what is asked: the snapshot is left out where it would be sent, and nothing else is
abbrev pub reply_to : Asked → NodeState → Framing → ℕ → Replied
reply_to (refused refusal) node framing back = whole (refusing refusal)
reply_to (feed minor None) node framing back =
    replies_fresh (framing_for minor framing) (published_token node)
reply_to (feed minor (Some token)) node framing back =
    whole (answer_opened (framing_for minor framing) (opens node back (Some token)))

-- the answer that it makes with these lines of a snapshot
abbrev pub with_snapshot : List ℕ → Replied → AnswerParts
with_snapshot lines (whole answer) = answer
with_snapshot lines (snapshot framing token) =
    parts_of 200 framing (opening_text framing lines) (Some token)

-- the token of the session that it opens
abbrev pub session_of : Replied → Option (List ℕ)
session_of reply = (with_snapshot [] reply).session

-- the reply to these bytes
pub record RepliesTo (head contest : List ℕ) (node : NodeState) (framing : Framing) (back : ℕ)
    (reply : Replied) : Type 0 where
  pub asked : Asked
  pub asks : Asks head contest asked
  pub reply_is : reply ≡ reply_to asked node framing back
