use Rattle.std.proofs.Common.{◌≡◌, refl, sym, ap, ◌∙◌, [], ◌++◌, eqb-true}
use Rattle.std.proofs.lemmas.List.{nil_from_length}
use Rattle.feed_files.proofs.InputLemmas.{takes_so}
use Rattle.feed_live.proofs.source.Source.feed_behind.Goals as goal

pub returns-clause-takes : goal.returns-clause-takes
returns-clause-takes c =
    let zero : c.args.self.now.rest.len ≡ 0 = eqb-true c.args.self.now.rest.len 0 (sym c.is_empty.ensures ∙ c.if-not-is_empty.false) in
    let none : c.args.self.now.rest.items ≡ [] = nil_from_length c.args.self.now.rest.items (sym c.args.self.now.rest.ok.0 ∙ zero) in
    λ limits log contest begun input sockets shows takes.
    c.feed.ensures.takes none limits log contest begun input sockets shows (takes_so (sym (ap (λ r. r ++ c.args.piece.now) none)) refl takes)

pub returns-clause-stops : goal.returns-clause-stops
returns-clause-stops c =
    let zero : c.args.self.now.rest.len ≡ 0 = eqb-true c.args.self.now.rest.len 0 (sym c.is_empty.ensures ∙ c.if-not-is_empty.false) in
    let none : c.args.self.now.rest.items ≡ [] = nil_from_length c.args.self.now.rest.items (sym c.args.self.now.rest.ok.0 ∙ zero) in
    λ begun input takes. c.feed.ensures.stops none begun input (takes_so (sym (ap (λ r. r ++ c.args.piece.now) none)) refl takes)

pub returns-then-not-is_empty-clause-takes : goal.returns-then-not-is_empty-clause-takes
returns-then-not-is_empty-clause-takes c = c.keep_input.ensures.takes c.args.screens.now

pub returns-then-not-is_empty-clause-stops : goal.returns-then-not-is_empty-clause-stops
returns-then-not-is_empty-clause-stops c = c.keep_input.ensures.stops
