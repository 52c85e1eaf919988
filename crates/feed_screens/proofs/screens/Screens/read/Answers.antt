use Rattle.std.proofs.Common.{rules, ◌≡◌, ◌∙◌, ap, inl, take}
use Rattle.feed_device.specs.Sockets.{came_to, on_current}
use Rattle.feed_screens.proofs.InputLemmas.{keeps_ended, keeps_over}
use Rattle.feed_screens.proofs.ServingLemmas.{came_nothing, serving_nothing, serving_unread, read_so}
use Rattle.feed_screens.proofs.screens.Screens.read.Goals as goal

pub returns-in-Ok-eq0-clause-serving : goal.returns-in-Ok-eq0-clause-serving
returns-in-Ok-eq0-clause-serving g c =
    λ nodes among serving.
    let none : c.in-Ok-eq0.field-0 ≡ 0 = search rules in
    c.end_of_input.ensures.serving nodes c.args.shown.now.contest.now
    (serving_nothing c.args.self.now.hub c.args.self.now.conns _ c.args.at (take c.in-Ok-eq0.field-0 c.read.new.buf) (ap (λ n. take n c.read.new.buf) none)
    (read_so c.args.self.now.hub c.args.self.now.conns _ _ c.args.at _ c.in-Ok-eq0.ensures.bytes c.in-Ok-eq0.ensures.others serving))

pub returns-in-Err-clause-serving : goal.returns-in-Err-clause-serving
returns-in-Err-clause-serving g c =
    λ nodes among serving.
    c.end.ensures.serving nodes c.args.shown.now.contest.now
    (serving_unread c.args.self.now.hub c.args.self.now.conns _ _ c.args.at c.in-Err.ensures.bytes c.in-Err.ensures.others serving)

pub returns-in-Ok-clause-serving : goal.returns-in-Ok-clause-serving
returns-in-Ok-clause-serving g c =
    λ nodes among serving.
    c.heed.ensures.serving nodes c.args.shown.now.contest.now
    (c.take-heard.ensures.serving nodes _ among
    (read_so c.args.self.now.hub c.args.self.now.conns _ _ c.args.at _ c.in-Ok.ensures.bytes c.in-Ok.ensures.others serving))

pub returns-in-Ok-eq0-clause-marks : goal.returns-in-Ok-eq0-clause-marks
returns-in-Ok-eq0-clause-marks g c =
    let none : c.in-Ok-eq0.field-0 ≡ 0 = search rules in
    keeps_ended _ _ (λ s. g.S.Sockets.socket s c.args.at) c.end_of_input.ensures.still
    (c.in-Ok-eq0.ensures.bytes
    ∙ ap (λ n. on_current (came_to (take n c.read.new.buf)) (g.S.Sockets.socket c.args.sockets.now c.args.at)) none
    ∙ came_nothing (g.S.Sockets.socket c.args.sockets.now c.args.at))

pub returns-in-Err-clause-marks : goal.returns-in-Err-clause-marks
returns-in-Err-clause-marks g c = inl (keeps_over _ _ c.end.ensures.free)
