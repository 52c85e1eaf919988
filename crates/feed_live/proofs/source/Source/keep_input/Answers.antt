use Rattle.std.proofs.Common.{◌≡◌, sym, ap, ◌∙◌, subst, ◌++◌}
use Rattle.feed_node.specs.Mirroring.{cut_off}
use Rattle.feed_laws.specs.Laws.{IsInLog}
use Rattle.feed_files.proofs.InputLemmas.{takes_so}
use Rattle.feed_live.proofs.InputLemmas.{shows_kept, stops_cut, when_ok}
use Rattle.feed_live.proofs.RelayLemmas.{shows_at}
use Rattle.feed_live.proofs.source.Source.keep_input.Goals as goal

pub returns-then-is_ok-clause-takes : goal.returns-then-is_ok-clause-takes
returns-then-is_ok-clause-takes c =
    λ screens limits log contest begun input sockets shows takes. (
      shows_kept limits log screens c.keep.ensures.same shows,
      takes_so (when_ok c.keep.result (sym c.is_ok.ensures.value ∙ c.if-is_ok.true) c.keep.ensures.ok) (ap (λ a. a.shown.mirror) c.keep.ensures.same.answers) takes,
    )

pub returns-then-is_ok-clause-stops : goal.returns-then-is_ok-clause-stops
returns-then-is_ok-clause-stops c =
    λ begun input takes.
    takes_so (when_ok c.keep.result (sym c.is_ok.ensures.value ∙ c.if-is_ok.true) c.keep.ensures.ok) (ap (λ a. a.shown.mirror) c.keep.ensures.same.answers) takes

pub returns-clause-takes : goal.returns-clause-takes
returns-clause-takes c =
    let cut : c.cut.new.self ≡ cut_off c.args.self.now.answers.shown.mirror = c.cut.ensures ∙ ap cut_off (c.change.ensures.mirror ∙ ap (λ a. a.shown.mirror) c.keep.ensures.same.answers) in
    λ screens limits log contest begun input sockets shows takes. (
      λ honest.
          let here = shows honest in
          shows_at limits log (ap (λ m. m.limits) cut) (subst (λ m. IsInLog limits log m.node) (sym cut) here.shown_is) (ap (λ a. a.blank.mirror) c.keep.ensures.same.answers) here,
      tt,
    )

pub returns-clause-stops : goal.returns-clause-stops
returns-clause-stops c =
    let cut : c.cut.new.self ≡ cut_off c.args.self.now.answers.shown.mirror = c.cut.ensures ∙ ap cut_off (c.change.ensures.mirror ∙ ap (λ a. a.shown.mirror) c.keep.ensures.same.answers) in
    λ begun input takes. stops_cut (c.args.self.now.rest.items ++ c.args.piece.now) cut takes
