use Rattle.std.proofs.Common.{rules, ◌≡◌, subst}
use Rattle.feed_screens.specs.declared.screens.Hearing.TheVariants.{Goes, TooMuch, Done}
use Rattle.feed_screens.specs.Serving.{HearsAll, HearsTo}
use Rattle.feed_screens.proofs.InputLemmas.{input_at, keeps_over, keeps_same}
use Rattle.feed_screens.proofs.screens.Screens.heed.Goals as goal

pub returns-in-Ok-Goes-clause-serving : goal.returns-in-Ok-Goes-clause-serving
returns-in-Ok-Goes-clause-serving g c =
    let goes : c.in-Ok-Goes.field-0 ≡ Goes = search rules in
    λ nodes contest hears.
    subst (HearsTo nodes contest c.args.self.now (g.S.Sockets.socket c.args.sockets.now) c.args.at) goes
    (subst (HearsAll nodes contest c.args.self.now (g.S.Sockets.socket c.args.sockets.now) c.args.at) c.in-Ok-Goes.is hears)

pub returns-in-Ok-TooMuch-clause-serving : goal.returns-in-Ok-TooMuch-clause-serving
returns-in-Ok-TooMuch-clause-serving g c =
    let too_much : c.in-Ok-TooMuch.field-0 ≡ TooMuch = search rules in
    λ nodes contest hears.
    let (unheard, left) = subst (HearsTo nodes contest c.args.self.now (g.S.Sockets.socket c.args.sockets.now) c.args.at) too_much
    (subst (HearsAll nodes contest c.args.self.now (g.S.Sockets.socket c.args.sockets.now) c.args.at) c.in-Ok-TooMuch.is hears) in
    c.turn_away.ensures.serving nodes contest unheard left

pub returns-in-Ok-Done-clause-serving : goal.returns-in-Ok-Done-clause-serving
returns-in-Ok-Done-clause-serving g c =
    let done : c.in-Ok-Done.field-0 ≡ Done = search rules in
    λ nodes contest hears.
    c.end.ensures.serving nodes contest
    (subst (HearsTo nodes contest c.args.self.now (g.S.Sockets.socket c.args.sockets.now) c.args.at) done
    (subst (HearsAll nodes contest c.args.self.now (g.S.Sockets.socket c.args.sockets.now) c.args.at) c.in-Ok-Done.is hears))

pub returns-in-Err-clause-serving : goal.returns-in-Err-clause-serving
returns-in-Err-clause-serving g c =
    λ nodes contest hears.
    c.end-in-Err.ensures.serving nodes contest
    (subst (HearsAll nodes contest c.args.self.now (g.S.Sockets.socket c.args.sockets.now) c.args.at) c.in-Err.is hears)

pub returns-in-Ok-Goes-clause-input : goal.returns-in-Ok-Goes-clause-input
returns-in-Ok-Goes-clause-input g c = λ other. keeps_same _

pub returns-in-Ok-Done-clause-input : goal.returns-in-Ok-Done-clause-input
returns-in-Ok-Done-clause-input g c = input_at c.args.self.now.conns c.end.new.self.conns c.args.at c.end.ensures.others (keeps_over _ _ c.end.ensures.free)

pub returns-in-Err-clause-input : goal.returns-in-Err-clause-input
returns-in-Err-clause-input g c = input_at c.args.self.now.conns c.end-in-Err.new.self.conns c.args.at c.end-in-Err.ensures.others (keeps_over _ _ c.end-in-Err.ensures.free)
