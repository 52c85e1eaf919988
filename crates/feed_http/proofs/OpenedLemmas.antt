-- A session is opened at status 200, and at no other.
use Rattle.std.proofs.Common.{arith, ◌≡◌, ◌≢◌, refl, sym, ◌∙◌, subst, ℕ, Bool, true, false, List, []}
use Rattle.std.specs.Prelude.{Option, Some, None, Result, Ok, Err, IfSome}
use Rattle.feed_settings.specs.declared.framing.Framing.{Framing}
use Rattle.feed_node.specs.declared.commit.Commit.{Commit}
use Rattle.feed_node.specs.declared.session.OpenFault.{OpenFault}
use Rattle.feed_node.specs.declared.session.OpenFault.TheVariants.{NotYet, NotHeld, Memory}
use Rattle.feed_node.specs.States.{NodeState}
use Rattle.feed_answer.specs.Answered.{AnswerParts, AnswersTo, answer_to, answer_opened}
use Rattle.feed_wire.specs.Asked.{Asked, refused, feed, framing_for}
use Rattle.feed_answer.specs.Opening.{Started, opens}
use Rattle.feed_http.specs.declared.fault.Served.{Served}
use Rattle.feed_http.specs.Live.{Intake, IsOver, MayLoseTokens, LosesItsToken, SendsLiveTo, SendsLive, TakesAll}

-- with this status a session was opened, or none was
abbrev pub OpenedAt : ℕ → Option (List ℕ) → Type 0
OpenedAt status None = status ≢ 200
OpenedAt status (Some token) = status ≡ 200

opened_so : (framing : Framing) (o : Result Started OpenFault)
    → OpenedAt (answer_opened framing o).status (answer_opened framing o).session
opened_so framing (Ok started) = refl
opened_so framing (Err NotYet) = λ e. absurd (omega arith)
opened_so framing (Err NotHeld) = λ e. absurd (omega arith)
opened_so framing (Err Memory) = λ e. absurd (omega arith)

answered_so : (asked : Asked) (node : NodeState) (framing : Framing) (back : ℕ)
    → OpenedAt (answer_to asked node framing back).status (answer_to asked node framing back).session
answered_so (refused refusal) node framing back = λ e. absurd (grind arith)
answered_so (feed minor since) node framing back =
    opened_so (framing_for minor framing) (opens node back since)

pub opened_at : (head contest : List ℕ) (node : NodeState) (framing : Framing) (back : ℕ)
    (answer : AnswerParts) → AnswersTo head contest node framing back answer
    → OpenedAt answer.status answer.session
opened_at head contest node framing back answer a =
    subst (λ x. OpenedAt x.status x.session) (sym a.answer_is)
    (answered_so a.asked node framing back)

-- ---- what that says of the batches

ends_empty : (turn : ℕ) (start now : Intake) (status : ℕ) (o : Option (List ℕ))
    (sent : List Commit) (gone : Bool) → OpenedAt status o → SendsLiveTo turn start o sent gone now
    → status ≡ 200 → gone ≡ false → now.batches ≡ []
ends_empty turn start now status None sent gone none sends is kept = absurd (none is)
ends_empty turn start now status (Some opened) sent gone there (token, run, over) is kept =
    (subst (IsOver now token) kept over).1

stays : (turn : ℕ) (start now : Intake) (status : ℕ) (o : Option (List ℕ))
    (sent : List Commit) (gone : Bool) → OpenedAt status o → SendsLiveTo turn start o sent gone now
    → status ≢ 200 → now ≡ start
stays turn start now status None sent gone none (_, _, same) other = same
stays turn start now status (Some opened) sent gone there sends other = absurd (other there)

-- a session that is opened loses its token, where another one would
loses : (turn : ℕ) (start : Intake) (status : ℕ) (o : Option (List ℕ)) (gone : Bool)
    → OpenedAt status o → IfSome o (λ _. LosesItsToken turn start gone) → status ≡ 200
    → LosesItsToken turn start gone
loses turn start status None gone none lost is = absurd (none is)
loses turn start status (Some opened) gone there lost is = lost

-- at this end of a connection
pub takes_all : (turn : ℕ) (start now : Intake) (answer : AnswerParts) (text : List ℕ)
    (served : Served) → OpenedAt answer.status answer.session
    → SendsLive turn start answer text served now → (served.gone ≡ true → MayLoseTokens turn start)
    → IfSome answer.session (λ _. LosesItsToken turn start served.gone)
    → TakesAll turn start served now
takes_all turn start now answer text served opened sends long lost = record {
  only_long = long;
  each_long = λ is. loses turn start answer.status answer.session served.gone opened lost
      (sym sends.tells.status ∙ is);
  all_taken = λ is kept. ends_empty turn start now answer.status answer.session sends.sent
      sends.gone opened sends.sends (sym sends.tells.status ∙ is) (sym sends.tells.gone_is ∙ kept);
  none_taken = λ other. stays turn start now answer.status answer.session sends.sent sends.gone
      opened sends.sends (λ is. other (sends.tells.status ∙ is));
}
