-- What is written here is read here as it was meant.
use Rattle.std.specs.Prelude.{◌≡◌, ℕ, List, [], Option}
use Rattle.feed_settings.specs.declared.framing.Framing.{Framing}
use Rattle.feed_settings.specs.Place.{Place, IsPlace}
use Rattle.feed_wire.specs.RequestText.{request_text}
use Rattle.feed_wire.specs.RequestLaws.{MayBeAskedWith}
use Rattle.feed_node.specs.States.{NodeState}
use Rattle.feed_answer.specs.Opening.{opens}
use Rattle.feed_answer.specs.Answered.{AnswerParts, AnswersTo, answer_opened}

-- a request with an empty base is answered as opening a session at its token decides
abbrev pub RequestIsAnswered : Type 0
RequestIsAnswered =
    (place : Place) (since : Option (List ℕ)) (node : NodeState) (framing : Framing) (back : ℕ)
    (answer : AnswerParts) → IsPlace place → place.base ≡ []
    → MayBeAskedWith since
    → AnswersTo (request_text place since) place.contest node framing back answer
    → answer ≡ answer_opened framing (opens node back since)
