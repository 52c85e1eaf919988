use Rattle.std.proofs.Common.{◌≡◌, ◌∷◌, [], ◌++◌, sym, ap, ◌∙◌, subst, append-nil}
use Rattle.std.proofs.lemmas.Result.{on_err_weaker}
use Rattle.std.specs.FinMap.{entries}
use Rattle.feed_changes.specs.Changes.{sets}
use Rattle.feed_tables.specs.Listers.{FailsIn}
use Rattle.feed_tables.specs.Tables.{listed}
use Rattle.feed_changes.specs.declared.change.Change.TheVariants.{Empty}
use Rattle.feed_tables.specs.declared.table.Table.{Table}
use Rattle.feed_tables.proofs.Listers.{on_any_err, takes_one, fails_one, failed_first, failed_here}
use Rattle.feed_tables.proofs.table.Table.list.Goals as goal

pub returns-in_err-empty-in-Many-clause-fails : goal.returns-in_err-empty-in-Many-clause-fails
returns-in_err-empty-in-Many-clause-fails g c =
    let takes = g.L.Lister.takes in
    let fails = g.L.Lister.fails in
    let kind = c.args.kind.now in
    let objects = sets kind (entries c.in-Many.objects) in
    let whole : listed (kind, c.args.self.now) ≡ (Empty kind ∷ []) ++ (objects ++ []) =
    ap (λ (t : Table). listed (kind, t)) c.in-Many.is
    ∙ ap (λ l. Empty kind ∷ l) (sym (append-nil objects)) in
    on_any_err c.from_residual.result _
    (failed_first takes fails (Empty kind ∷ []) objects [] _ whole
    c.args.lister.now c.empty.new.self
    (fails_one takes fails _ _ _ c.in_err-empty-in-Many.ensures.fails))

pub returns-in-One-clause-fails : goal.returns-in-One-clause-fails
returns-in-One-clause-fails g c =
    let takes = g.L.Lister.takes in
    let fails = g.L.Lister.fails in
    on_err_weaker c.single.result
    (λ h. subst
    (λ (t : Table). FailsIn takes fails c.args.lister.now (listed (c.args.kind.now, t)) c.single.new.self)
    (sym c.in-One.is)
    (fails_one takes fails _ _ _ h))
    c.single.ensures.fails

pub returns-in_ok-empty-in-Many-clause-fails : goal.returns-in_ok-empty-in-Many-clause-fails
returns-in_ok-empty-in-Many-clause-fails g c =
    let takes = g.L.Lister.takes in
    let fails = g.L.Lister.fails in
    let kind = c.args.kind.now in
    let objects = sets kind (entries c.in-Many.objects) in
    let whole : listed (kind, c.args.self.now) ≡ (Empty kind ∷ []) ++ (objects ++ []) =
    ap (λ (t : Table). listed (kind, t)) c.in-Many.is
    ∙ ap (λ l. Empty kind ∷ l) (sym (append-nil objects)) in
    on_err_weaker c.list.result
    (λ rest. failed_here takes fails (Empty kind ∷ []) objects [] _ whole
    c.args.lister.now c.empty.new.self c.list.new.lister
    (takes_one takes fails _ _ _ c.in_ok-empty-in-Many.ensures.takes) rest)
    c.list.ensures.fails
