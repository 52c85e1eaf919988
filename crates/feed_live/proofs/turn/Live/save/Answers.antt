use Rattle.std.proofs.Common.{rules, ◌≡◌, ◌∙◌, Some, sym, subst}
use Rattle.std.specs.Prelude.{Contains}
use Rattle.feed_files.specs.Saved.{KeepsFiles}
use Rattle.feed_files.specs.declared.saved.Saved.{Saved}
use Rattle.feed_files.specs.Writing.{IsToWrite}
use Rattle.feed_files.proofs.Filed.{same_some}
use Rattle.feed_live.proofs.TurnLemmas.{differ_so, same_so}
use Rattle.feed_live.proofs.turn.Live.save.Goals as goal

pub returns-clause-kept : goal.returns-clause-kept
returns-clause-kept g c =
    λ nodes among files.
    let is : c.args.self.now.saved ≡ Some c.in-Some.saved = search rules in
    (c.save.ensures.kept nodes (subst (Contains nodes) (sym c.node.ensures) among)
    (c.begin_where.ensures.kept nodes _ (subst (KeepsFiles nodes (g.D.Store.files c.args.store.now)) is files))).0

pub returns-clause-parts : goal.returns-clause-parts
returns-clause-parts g c =
    λ nodes among files.
    let is : c.args.self.now.saved ≡ Some c.in-Some.saved = search rules in
    (c.save.ensures.kept nodes (subst (Contains nodes) (sym c.node.ensures) among)
    (c.begin_where.ensures.kept nodes _ (subst (KeepsFiles nodes (g.D.Store.files c.args.store.now)) is files))).1

pub returns-clause-anew : goal.returns-clause-anew
returns-clause-anew g c =
    λ afresh nodes among known.
    (c.save.ensures.kept nodes (subst (Contains nodes) (sym c.node.ensures) among)
    (c.begin_where.ensures.anew (differ_so c.epoch-epoch.result c.args.self.now.epoch (λ same. afresh (sym c.epoch-epoch.ensures ∙ same))) nodes _ known)).0

pub returns-clause-asks : goal.returns-clause-asks
returns-clause-asks g c saved is same lacks =
    let here : c.args.self.now.saved ≡ Some c.in-Some.saved = search rules in
    let begun = c.begin_where.ensures.same (same_so c.epoch-epoch.result c.args.self.now.epoch (c.epoch-epoch.ensures ∙ same)) ∙ sym (same_some is here) in
    c.save.ensures.asks (subst (λ n. IsToWrite n c.args.self.now.desk.time c.begin_where.new.self) (sym c.node.ensures)
    (subst (λ (s : Saved). IsToWrite c.args.self.now.source.answers.shown.mirror.node c.args.self.now.desk.time s) (sym begun) lacks))
