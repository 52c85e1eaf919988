-- What is due to a screen is a response; and whoever is served stays so as nodes go on.
use Rattle.std.proofs.Common.{ap, ◌∙◌, ℕ, List, ◌++◌, Option, Some, None, inl, inr, append_assoc}
use Rattle.std.specs.Prelude.{Contains}
use Rattle.std.specs.List.{flat_map}
use Rattle.feed_node.specs.States.{NodeState}
use Rattle.feed_wire.specs.Answer.{feed_head}
use Rattle.feed_answer.specs.Answered.{AnswerParts}
use Rattle.feed_wire.specs.Framed.{frame}
use Rattle.feed_world.specs.Laws.{opened_text}
use Rattle.feed_hub.specs.Screen.{token_at}
use Rattle.feed_hub.specs.Told.{Told, told_none, told_commit, told_line_feed, IsGoing, IsDue}
use Rattle.feed_laws.specs.Laws.{DueIsResponse, ServedGrows}

pub due_is_response : DueIsResponse
due_is_response log answer texts fresh k e =
    ap (λ t. t ++ flat_map (frame answer.framing) texts) e
    ∙ append_assoc (feed_head answer.framing) (frame answer.framing (opened_text log fresh k)) (flat_map (frame answer.framing) texts)

-- ---- more nodes

module _ (nodes more : List NodeState) (all : (node : NodeState) → Contains nodes node → Contains more node) where
  told_grows : (opened : List ℕ) (texts : List (List ℕ)) (token : List ℕ) → Told nodes opened texts token → Told more opened texts token
  told_grows opened texts token told_none = told_none
  told_grows opened texts token (told_commit earlier before node commit t shown e) =
      told_commit earlier before node commit (told_grows opened earlier before t) (all node shown) e
  told_grows opened texts token (told_line_feed earlier before t) = told_line_feed earlier before (told_grows opened earlier before t)

  going_grows : (answer : AnswerParts) (token due : List ℕ) → IsGoing nodes answer token due → IsGoing more answer token due
  going_grows answer token due g =
      record { opened = g.opened; session = g.session; texts = g.texts; told = told_grows g.opened g.texts token g.told; due_is = g.due_is; opening_fits = g.opening_fits; fit = g.fit }

  due_grows : (answer : AnswerParts) (at : Option (List ℕ)) (due : List ℕ) → IsDue nodes answer at due → IsDue more answer at due
  due_grows answer (Some token) due g = going_grows answer token due g
  due_grows answer None due (inl r) = inl r
  due_grows answer None due (inr (token, before, g, e)) = inr (token, before, going_grows answer token before g, e)

pub served_grows : ServedGrows
served_grows nodes more all common lines told answer handed s served =
    record {
      due = served.due;
      owes = served.owes;
      is_due = due_grows nodes more all answer (token_at told s.way) served.due served.is_due;
      framing = served.framing;
      alike = served.alike;
    }
