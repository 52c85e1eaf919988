use Rattle.std.proofs.Common.{sym, subst, ap, ◌∙◌, inl}
use Rattle.feed_screens.specs.Serving.{AllEnd}
use Rattle.feed_screens.proofs.EndingLemmas.{end_same}
use Rattle.feed_screens.proofs.ServingLemmas.{serving_said, serving_noted}
use Rattle.feed_screens.proofs.screens.Screens.say_one.Goals as goal

pub returns-in-Ok-Looked-More-clause-serving : goal.returns-in-Ok-Looked-More-clause-serving
returns-in-Ok-Looked-More-clause-serving c =
    λ nodes contest sockets among serving.
    serving_noted c.spoke.ensures.same
    (serving_said c.say_next.ensures.seats (λ key. c.say_next.ensures.served nodes key among) serving)

pub returns-in-Ok-Looked-More-clause-ended : goal.returns-in-Ok-Looked-More-clause-ended
returns-in-Ok-Looked-More-clause-ended c =
    λ all. subst AllEnd (sym c.spoke.ensures.same.hub) (end_same c.args.self.now.hub c.say_next.new.self c.say_next.ensures.seats all)

pub returns-in-Ok-Looked-More-clause-most : goal.returns-in-Ok-Looked-More-clause-most
returns-in-Ok-Looked-More-clause-most c =
    ap (λ h. h.most) c.spoke.ensures.same.hub ∙ c.say_next.ensures.limits.most

pub returns-in-Ok-Looked-UpToDate-clause-serving : goal.returns-in-Ok-Looked-UpToDate-clause-serving
returns-in-Ok-Looked-UpToDate-clause-serving c =
    λ nodes contest sockets among serving.
    serving_said c.say_next.ensures.seats (λ key. c.say_next.ensures.served nodes key among) serving

pub returns-in-Ok-Looked-UpToDate-clause-ended : goal.returns-in-Ok-Looked-UpToDate-clause-ended
returns-in-Ok-Looked-UpToDate-clause-ended c =
    end_same c.args.self.now.hub c.say_next.new.self c.say_next.ensures.seats

pub returns-in-Ok-Looked-UpToDate-clause-most : goal.returns-in-Ok-Looked-UpToDate-clause-most
returns-in-Ok-Looked-UpToDate-clause-most c =
    c.say_next.ensures.limits.most

pub returns-in-Ok-Looked-Gone-clause-serving : goal.returns-in-Ok-Looked-Gone-clause-serving
returns-in-Ok-Looked-Gone-clause-serving c =
    λ nodes contest sockets among serving.
    c.end_feeds.ensures.serving nodes contest sockets
    (serving_said c.say_next.ensures.seats (λ key. c.say_next.ensures.served nodes key among) serving)

pub returns-in-Ok-Looked-Gone-clause-ended : goal.returns-in-Ok-Looked-Gone-clause-ended
returns-in-Ok-Looked-Gone-clause-ended c =
    λ all. c.end_feeds.ensures.ended

pub returns-in-Ok-Looked-Gone-clause-most : goal.returns-in-Ok-Looked-Gone-clause-most
returns-in-Ok-Looked-Gone-clause-most c =
    c.end_feeds.ensures.most ∙ c.say_next.ensures.limits.most

pub returns-in-Ok-Waits-clause-serving : goal.returns-in-Ok-Waits-clause-serving
returns-in-Ok-Waits-clause-serving c =
    λ nodes contest sockets among serving.
    serving_said c.say_next.ensures.seats (λ key. c.say_next.ensures.served nodes key among) serving

pub returns-in-Ok-Waits-clause-ended : goal.returns-in-Ok-Waits-clause-ended
returns-in-Ok-Waits-clause-ended c =
    end_same c.args.self.now.hub c.say_next.new.self c.say_next.ensures.seats

pub returns-in-Ok-Waits-clause-most : goal.returns-in-Ok-Waits-clause-most
returns-in-Ok-Waits-clause-most c =
    c.say_next.ensures.limits.most

pub returns-in-Err-clause-serving : goal.returns-in-Err-clause-serving
returns-in-Err-clause-serving c =
    λ nodes contest sockets among serving.
    serving_said c.say_next.ensures.seats (λ key. c.say_next.ensures.served nodes key among) serving

pub returns-in-Err-clause-ended : goal.returns-in-Err-clause-ended
returns-in-Err-clause-ended c =
    end_same c.args.self.now.hub c.say_next.new.self c.say_next.ensures.seats

pub returns-in-Err-clause-most : goal.returns-in-Err-clause-most
returns-in-Err-clause-most c =
    c.say_next.ensures.limits.most

pub returns-in-Ok-Looked-Gone-clause-moves : goal.returns-in-Ok-Looked-Gone-clause-moves
returns-in-Ok-Looked-Gone-clause-moves c = λ _. inl c.end_feeds.ensures.told
