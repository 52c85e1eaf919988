use Rattle.std.proofs.Common.{rules, ◌≡◌, ◌∙◌, ap, sym, inl, inr, [], Some, None}
use Rattle.feed_screens.proofs.ServingLemmas.{serving_noted}
use Rattle.feed_screens.proofs.GettingLemmas.{wanted_before}
use Rattle.feed_hub.specs.Hub.{prefix_at}
use Rattle.feed_screens.specs.Serving.{key_at}
use Rattle.feed_screens.specs.Waiting.{HasMadeMost}
use Rattle.feed_screens.proofs.MarkedLemmas.{marked, nothing_there, none_for, none_still}
use Rattle.feed_screens.proofs.screens.Screens.fill.Goals as goal

pub returns-then-is_err-clause-serving : goal.returns-then-is_err-clause-serving
returns-then-is_err-clause-serving g c =
    λ nodes contest among keyed serving.
    c.end.ensures.serving nodes contest
    (c.refill.ensures.serving nodes contest (g.S.Sockets.socket c.args.sockets.now) among (serving_noted c.pay.ensures.same serving))

pub returns-then-not-is_empty-2-clause-serving : goal.returns-then-not-is_empty-2-clause-serving
returns-then-not-is_empty-2-clause-serving g c =
    λ nodes contest among keyed serving.
    (c.refill.ensures.serving nodes contest (g.S.Sockets.socket c.args.sockets.now) among (serving_noted c.pay.ensures.same serving))

pub returns-then-is_over-clause-serving : goal.returns-then-is_over-clause-serving
returns-then-is_over-clause-serving g c =
    λ nodes contest among keyed serving.
    c.finish.ensures.serving nodes contest (c.refill.ensures.keys c.args.keyed.at ∙ c.pay.ensures.same.keys c.args.keyed.at ∙ keyed)
    (c.refill.ensures.serving nodes contest (g.S.Sockets.socket c.args.sockets.now) among (serving_noted c.pay.ensures.same serving))

pub returns-else-is_over-clause-serving : goal.returns-else-is_over-clause-serving
returns-else-is_over-clause-serving g c =
    λ nodes contest among keyed serving.
    (c.refill.ensures.serving nodes contest (g.S.Sockets.socket c.args.sockets.now) among (serving_noted c.pay.ensures.same serving))

pub returns-then-has_made_most-clause-serving : goal.returns-then-has_made_most-clause-serving
returns-then-has_made_most-clause-serving g c =
    λ nodes contest among keyed serving.
    serving_noted c.has_more_to_write.ensures.same (serving_noted c.pay.ensures.same serving)

pub returns-then-stays_waiting-clause-serving : goal.returns-then-stays_waiting-clause-serving
returns-then-stays_waiting-clause-serving g c = λ nodes contest among keyed serving. serving_noted c.pay.ensures.same serving

pub returns-then-stays_waiting-clause-gets : goal.returns-then-stays_waiting-clause-gets
returns-then-stays_waiting-clause-gets g c =
    λ keyed none still. inl (wanted_before _ _ c.pay.ensures.here (c.stays_waiting.ensures.commit c.if-stays_waiting.true))

pub returns-then-has_made_most-clause-gets : goal.returns-then-has_made_most-clause-gets
returns-then-has_made_most-clause-gets g c =
    λ keyed none still.
    let made : HasMadeMost c.args.self.now = search rules in
    inr (inl (made, marked _ _ _ c.has_more_to_write.ensures.here still))

pub returns-then-stays_waiting-clause-none : goal.returns-then-stays_waiting-clause-none
returns-then-stays_waiting-clause-none g c =
    λ keyed not key held.
    let empty : prefix_at c.args.self.now.hub c.args.keyed.key ≡ [] = nothing_there _ _ _ c.prefix.ensures c.is_empty.ensures c.if-not-is_empty.false in
    none_still c.args.self.now c.pay.new.self c.args.keyed.at c.args.keyed.key key c.pay.ensures.same keyed empty held

pub returns-then-has_made_most-clause-none : goal.returns-then-has_made_most-clause-none
returns-then-has_made_most-clause-none g c =
    λ keyed not key held.
    let empty : prefix_at c.args.self.now.hub c.args.keyed.key ≡ [] = nothing_there _ _ _ c.prefix.ensures c.is_empty.ensures c.if-not-is_empty.false in
    none_still c.pay.new.self c.has_more_to_write.new.self c.args.keyed.at c.args.keyed.key key c.has_more_to_write.ensures.same
    (c.pay.ensures.same.keys c.args.keyed.at ∙ keyed) (ap (λ h. prefix_at h c.args.keyed.key) c.pay.ensures.same.hub ∙ empty) held

pub returns-then-is_err-clause-none : goal.returns-then-is_err-clause-none
returns-then-is_err-clause-none g c =
    λ keyed not key held. absurd (let no : None ≡ Some (Some key) = sym c.end.ensures.free ∙ held in cc)

pub returns-then-is_over-clause-none : goal.returns-then-is_over-clause-none
returns-then-is_over-clause-none g c =
    λ keyed not key held.
    let shut : key_at c.finish.new.self.conns c.args.keyed.at ≡ Some None = c.finish.ensures.stays (c.refill.ensures.keys c.args.keyed.at ∙ c.pay.ensures.same.keys c.args.keyed.at ∙ keyed) in
    absurd (let no : Some None ≡ Some (Some key) = sym shut ∙ held in cc)

pub returns-else-is_over-clause-none : goal.returns-else-is_over-clause-none
returns-else-is_over-clause-none g c =
    λ keyed not key held.
    let empty : prefix_at c.refill.new.self.hub c.args.keyed.key ≡ [] = nothing_there _ _ _ c.prefix-2.ensures c.is_empty-2.ensures c.if-not-is_empty-2.false in
    none_for c.refill.new.self.hub c.args.keyed.key key (sym (c.refill.ensures.keys c.args.keyed.at ∙ c.pay.ensures.same.keys c.args.keyed.at ∙ keyed) ∙ held) empty
