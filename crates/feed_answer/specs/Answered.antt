-- How a node answers a request for its feed.
use Rattle.std.specs.Prelude.{◌≡◌, ℕ, List, Option, Some, None, Result, Ok, Err}
use Rattle.feed_settings.specs.declared.framing.Framing.{Framing}
use Rattle.feed_settings.specs.declared.framing.Framing.TheVariants.{Close}
use Rattle.feed_node.specs.declared.session.OpenFault.{OpenFault}
use Rattle.feed_node.specs.declared.session.OpenFault.TheVariants.{NotYet, NotHeld, Memory}
use Rattle.feed_node.specs.States.{NodeState}
use Rattle.feed_answer.specs.Opening.{Started, opens}
use Rattle.feed_wire.specs.declared.refusal.Refusal.{Refusal}
use Rattle.feed_wire.specs.declared.refusal.Refusal.TheVariants.{NothingPublished, TokenNotHeld}
use Rattle.feed_wire.specs.Answer.{refusal_code, refusal_text}
use Rattle.feed_wire.specs.Asked.{Asked, refused, feed, framing_for, Asks}
use Rattle.feed_answer.specs.Served.{opening_text}

-- an answer: its status code, the framing of its body, its text, and the token of the session that
-- it opens, if it opens one
pub record AnswerParts : Type 0 where
  pub status : ℕ
  pub framing : Framing
  pub text : List ℕ
  pub session : Option (List ℕ)

-- the answer that refuses
abbrev pub refusing : Refusal → AnswerParts
refusing refusal =
    record {
      status = refusal_code refusal;
      framing = Close;
      text = refusal_text refusal;
      session = None;
    }

-- the answer with the feed, where the node opens a session; the last case never comes: `opens`
-- gives no want of memory
abbrev pub answer_opened : Framing → Result Started OpenFault → AnswerParts
answer_opened framing (Ok started) =
    record {
      status = 200;
      framing = framing;
      text = opening_text framing started.text;
      session = Some started.token;
    }
answer_opened framing (Err NotYet) = refusing NothingPublished
answer_opened framing (Err NotHeld) = refusing TokenNotHeld
answer_opened framing (Err Memory) = refusing NothingPublished

-- what the node answers to what is asked, where the body may be framed so, and a session begins so
-- many tokens before the one that is asked with
abbrev pub answer_to : Asked → NodeState → Framing → ℕ → AnswerParts
answer_to (refused refusal) node framing back = refusing refusal
answer_to (feed minor since) node framing back =
    answer_opened (framing_for minor framing) (opens node back since)

-- the parts of an answer
abbrev pub parts_of : ℕ → Framing → List ℕ → Option (List ℕ) → AnswerParts
parts_of status framing text session =
    record { status = status; framing = framing; text = text; session = session }

-- the answer to these bytes
pub record AnswersTo (head contest : List ℕ) (node : NodeState) (framing : Framing) (back : ℕ)
    (answer : AnswerParts) : Type 0 where
  pub asked : Asked
  pub asks : Asks head contest asked
  pub answer_is : answer ≡ answer_to asked node framing back
