use Rattle.std.proofs.Common.{refl, ◌∙◌, subst, [], codes}
use Rattle.std.specs.Option.{option_copied}
use Rattle.feed_settings.specs.Place.{make_place}
use Rattle.feed_answer.specs.Answered.{AnswersTo, parts_of}
use Rattle.feed_world.proofs.asking.ask_for_feed.Goals as goal
use Rattle.feed_tables.proofs.Listers.{ok_becomes}

pub returns : goal.returns
returns c = λ may.
    ok_becomes _ _ c.answer.result
    (λ answered k. c.answer_laws.ensures.answered (make_place (codes "world") [] (codes "world")) (option_copied c.args.since) c.args.server.now.shown c.args.framing c.args.back
    (parts_of answered.status answered.framing answered.bytes.items answered.session) refl refl may
    (subst (λ head. AnswersTo head (codes "world") c.args.server.now.shown c.args.framing c.args.back (parts_of answered.status answered.framing answered.bytes.items answered.session))
    (c.as_slice.ensures.value ∙ c.in_ok-head.ensures) k))
    c.answer.ensures.ok
