use Rattle.std.proofs.Common.{◌≡◌, ◌<◌, ap, ◌∙◌, sym, subst, List, [], ◌∷◌, flat_map, arith, codes}
use Rattle.std.proofs.lemmas.Result.{on_ok_weaker, on_err_weaker}
use Rattle.std.specs.FinMap.{entries, len}
use Rattle.std.specs.List.{All, FoldsTo}
use Rattle.feed_changes.specs.Changes.{IsChange}
use Rattle.feed_tables.specs.Listers.{FailsIn}
use Rattle.feed_tables.specs.Tables.{Contents, Tables, AreTypes, listed, listing}
use Rattle.feed_changes.specs.declared.change.Change.{Change}
use Rattle.feed_changes.specs.declared.change.Change.TheVariants.{Clear}
use Rattle.feed_tables.proofs.Listers.{takes_one, fails_one}
use Rattle.feed_tables.proofs.Listing.{listing_of_some, listing_of_none}
use Rattle.feed_tables.proofs.Within.{listing_within, clear_within}
use Rattle.feed_tables.proofs.tables.Tables.list.Goals as goal

pub returns-then-count-eq0-clause-list : goal.returns-then-count-eq0-clause-list
returns-then-count-eq0-clause-list g c =
    let held : c.self.inside.types ≡ c.args.self.now.contents = ap (λ (t : Tables). t.contents) c.self.view_is in
    let none : len c.self.inside.types ≡ 0 = omega (arith, c.count.ensures, c.if-count-eq0.true) in
    let whole : listing c.args.self.now.contents ≡ Clear (codes "contest") ∷ [] = ap listing (sym held) ∙ listing_of_none c.self.inside.types none in
    on_ok_weaker c.clear.result
    (λ h. subst (λ (cs : List Change). FoldsTo g.L.Lister.takes c.args.lister.now cs c.clear.new.self) (sym whole)
    (takes_one g.L.Lister.takes g.L.Lister.fails _ _ _ h))
    c.clear.ensures.takes

pub returns-then-count-eq0-clause-fails : goal.returns-then-count-eq0-clause-fails
returns-then-count-eq0-clause-fails g c =
    let held : c.self.inside.types ≡ c.args.self.now.contents = ap (λ (t : Tables). t.contents) c.self.view_is in
    let none : len c.self.inside.types ≡ 0 = omega (arith, c.count.ensures, c.if-count-eq0.true) in
    let whole : listing c.args.self.now.contents ≡ Clear (codes "contest") ∷ [] = ap listing (sym held) ∙ listing_of_none c.self.inside.types none in
    on_err_weaker c.clear.result
    (λ h. subst (λ (cs : List Change). FailsIn g.L.Lister.takes g.L.Lister.fails c.args.lister.now cs c.clear.new.self) (sym whole)
    (fails_one g.L.Lister.takes g.L.Lister.fails _ _ _ h))
    c.clear.ensures.fails

pub returns-then-count-eq0-clause-within : goal.returns-then-count-eq0-clause-within
returns-then-count-eq0-clause-within g c =
    let held : c.self.inside.types ≡ c.args.self.now.contents = ap (λ (t : Tables). t.contents) c.self.view_is in
    let none : len c.self.inside.types ≡ 0 = omega (arith, c.count.ensures, c.if-count-eq0.true) in
    let whole : listing c.args.self.now.contents ≡ Clear (codes "contest") ∷ [] = ap listing (sym held) ∙ listing_of_none c.self.inside.types none in
    on_ok_weaker c.clear.result
    (λ e. subst (λ (cs : List Change). All IsChange cs) (sym whole) clear_within)
    c.clear.ensures.takes

pub returns-clause-list : goal.returns-clause-list
returns-clause-list g c =
    let held : c.self.inside.types ≡ c.args.self.now.contents = ap (λ (t : Tables). t.contents) c.self.view_is in
    let some : 0 < len c.self.inside.types = omega (arith, c.count.ensures, c.if-count-eq0.false) in
    let whole : listing c.args.self.now.contents ≡ flat_map listed (entries c.self.inside.types) = ap listing (sym held) ∙ listing_of_some c.self.inside.types some in
    on_ok_weaker c.list.result
    (λ h. subst (λ (cs : List Change). FoldsTo g.L.Lister.takes c.args.lister.now cs c.list.new.lister) (sym whole) h)
    c.list.ensures.list

pub returns-clause-fails : goal.returns-clause-fails
returns-clause-fails g c =
    let held : c.self.inside.types ≡ c.args.self.now.contents = ap (λ (t : Tables). t.contents) c.self.view_is in
    let some : 0 < len c.self.inside.types = omega (arith, c.count.ensures, c.if-count-eq0.false) in
    let whole : listing c.args.self.now.contents ≡ flat_map listed (entries c.self.inside.types) = ap listing (sym held) ∙ listing_of_some c.self.inside.types some in
    on_err_weaker c.list.result
    (λ h. subst (λ (cs : List Change). FailsIn g.L.Lister.takes g.L.Lister.fails c.args.lister.now cs c.list.new.lister) (sym whole) h)
    c.list.ensures.fails

pub returns-clause-within : goal.returns-clause-within
returns-clause-within g c =
    let held : c.self.inside.types ≡ c.args.self.now.contents = ap (λ (t : Tables). t.contents) c.self.view_is in
    on_ok_weaker c.list.result
    (λ p. listing_within c.args.self.now.contents (subst (λ (m : Contents). AreTypes (entries m)) held p))
    c.list.ensures.within
