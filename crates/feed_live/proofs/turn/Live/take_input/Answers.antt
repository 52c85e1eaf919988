use Rattle.std.proofs.Common.{◌≡◌, ◌∙◌, sym, subst, ◌++◌}
use Rattle.feed_live.specs.Taking.{IsTakingInput, bytes_in}
use Rattle.feed_files.specs.Input.{StopsInput}
use Rattle.feed_live.specs.declared.turn.Input.TheVariants.{Nothing, Bytes, End}
use Rattle.feed_live.proofs.TurnLemmas.{ends_now}
use Rattle.feed_live.proofs.turn.Live.take_input.Goals as goal

pub returns-in-Nothing-clause-taking : goal.returns-in-Nothing-clause-taking
returns-in-Nothing-clause-taking c =
    λ sockets limits log begun input is.
    subst (λ i. IsTakingInput limits log begun (input ++ bytes_in i) c.feed.new.self sockets) (sym c.in-Nothing.is) (c.feed.ensures.taking sockets limits log begun input is)

pub returns-in-Bytes-clause-taking : goal.returns-in-Bytes-clause-taking
returns-in-Bytes-clause-taking c =
    λ sockets limits log begun input is.
    subst (λ i. IsTakingInput limits log begun (input ++ bytes_in i) c.feed-in-Bytes.new.self sockets) (sym c.in-Bytes.is) (c.feed-in-Bytes.ensures.taking sockets limits log begun input is)

pub returns-in-End-clause-taking : goal.returns-in-End-clause-taking
returns-in-End-clause-taking c =
    λ sockets limits log begun input is.
    subst (λ i. IsTakingInput limits log begun (input ++ bytes_in i) c.end.new.self sockets) (sym c.in-End.is) (c.end.ensures.taking sockets limits log begun input is)

pub returns-in-Nothing-clause-stops : goal.returns-in-Nothing-clause-stops
returns-in-Nothing-clause-stops c =
    λ goes_on sockets limits log begun input is feeds ends.
    let stopped = c.feed.ensures.stops sockets limits log begun input is feeds ends in
    (stopped.0, subst (λ i. StopsInput begun (input ++ bytes_in i) stopped.0 c.feed.new.self.source.answers.shown.mirror) (sym c.in-Nothing.is) stopped.1)

pub returns-in-Bytes-clause-stops : goal.returns-in-Bytes-clause-stops
returns-in-Bytes-clause-stops c =
    λ goes_on sockets limits log begun input is feeds ends.
    let stopped = c.feed-in-Bytes.ensures.stops sockets limits log begun input is feeds ends in
    (stopped.0, subst (λ i. StopsInput begun (input ++ bytes_in i) stopped.0 c.feed-in-Bytes.new.self.source.answers.shown.mirror) (sym c.in-Bytes.is) stopped.1)

pub returns-in-End-clause-stops : goal.returns-in-End-clause-stops
returns-in-End-clause-stops c = λ goes_on. absurd (goes_on c.in-End.is)

pub returns-in-Nothing-clause-ends : goal.returns-in-Nothing-clause-ends
returns-in-Nothing-clause-ends c = record { limits = c.feed.ensures.ends.0; sets = λ is. let no : Nothing ≡ End = sym c.in-Nothing.is ∙ is in absurd (cc); stays = λ goes_on. c.feed.ensures.ends.1 }

pub returns-in-Bytes-clause-ends : goal.returns-in-Bytes-clause-ends
returns-in-Bytes-clause-ends c = record { limits = c.feed-in-Bytes.ensures.ends.0; sets = λ is. let no : Bytes c.in-Bytes.piece ≡ End = sym c.in-Bytes.is ∙ is in absurd (cc); stays = λ goes_on. c.feed-in-Bytes.ensures.ends.1 }

pub returns-in-End-clause-ends : goal.returns-in-End-clause-ends
returns-in-End-clause-ends c = record { limits = c.end.ensures.limits; sets = λ is. c.end.ensures.sets; stays = ends_now c.in-End.is c.end.ensures.ends }
