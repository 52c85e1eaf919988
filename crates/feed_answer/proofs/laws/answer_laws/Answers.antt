use Rattle.std.proofs.Common.{ap, ◌∙◌, refl, List, ℕ}
use Rattle.std.specs.List.{flat_map}
use Rattle.feed_settings.specs.declared.framing.Framing.{Framing}
use Rattle.feed_settings.specs.declared.framing.Framing.TheVariants.{Close, Chunked}
use Rattle.feed_wire.specs.Framed.{frame}
use Rattle.feed_wire.specs.FrameLaws.{AreTexts, joined, IsUnfinished}
use Rattle.feed_wire.proofs.FrameLemmas.{frames_end, frames_so_far}
use Rattle.feed_answer.specs.Answered.{answer_to}
use Rattle.feed_wire.specs.Asked.{feed}
use Rattle.feed_wire.specs.RequestText.{request_text}
use Rattle.feed_wire.proofs.AskedLemmas.{asked_once}
use Rattle.feed_wire.proofs.RequestLemmas.{request_is_read}
use Rattle.feed_answer.proofs.laws.answer_laws.Goals as goal

carries : (framing : Framing) (texts : List (List ℕ)) → AreTexts texts
    → IsUnfinished framing (flat_map (frame framing) texts) (joined texts)
carries Close texts are = refl
carries Chunked texts are = frames_so_far texts are

pub returns : goal.returns
returns c = record {
  asked = asked_once;
  request = request_is_read;
  answered = λ place since node framing back answer is_place no_base fits answers.
      answers.answer_is ∙ ap (λ asked. answer_to asked node framing back)
      (asked_once (request_text place since) place.contest answers.asked (feed 1 since) answers.asks
      (request_is_read place since is_place no_base fits));
  frames = carries;
  ends = λ texts are. frames_end texts are;
}
