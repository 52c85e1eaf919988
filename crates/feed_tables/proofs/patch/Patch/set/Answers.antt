use Rattle.std.proofs.Common.{◌≡◌, true, None, ap, subst, ◌∙◌, List, ℕ}
use Rattle.std.specs.FinMap.{get, insert}
use Rattle.feed_tables.specs.Map.{TakesThePlace}
use Rattle.feed_tables.specs.ChangedIds.{over_ids}
use Rattle.feed_tables.specs.Tables.{Objects, collection_of}
use Rattle.feed_tables.proofs.Changing.{Changed, held_some, held_none, held_after, held_still, set_again}
use Rattle.feed_tables.proofs.Patching.{over_of}
use Rattle.feed_tables.proofs.patch.Patch.set.Goals as goal

pub begin-requires : goal.begin-requires
begin-requires c =
    let p = c.args.self.now in
    let m = over_of c.args.base.now.contents p.gone p.tables in
    held_none (get m c.args.kind.now) c.objects_of.result c.if-is_none.ensures
    (c.objects_of.ensures ∙ ap (λ (q : List ℕ). collection_of (get m q)) c.key.ensures)

pub returns-in_default-clause-ok : goal.returns-in_default-clause-ok
returns-in_default-clause-ok c =
    let p = c.args.self.now in
    let k = c.args.kind.now in
    let m = over_of c.args.base.now.contents p.gone p.tables in
    let held = held_some (get m k) c.objects_of.result c.if-is_none.ensures
    (c.objects_of.ensures ∙ ap (λ (q : List ℕ). collection_of (get m q)) c.key.ensures) in
    let set = c.in_default.ensures.set in
    let i = set.0 in
    let j = set.1 in
    let there = subst (λ (q : List ℕ). TakesThePlace q p.ids c.set_in.new.self j i true) c.key-2.ensures set.2 in
    let node = c.in_ok-node.node.value in
    let made : over_ids held.0 j ≡ insert (over_ids held.0 i) c.args.id.now c.args.object.now =
    set.3 held.0
    ∙ ap (λ (q : List ℕ). insert (over_ids held.0 i) q node.item) c.in_ok-node.ensures.0
    ∙ ap (λ (o : List ℕ). insert (over_ids held.0 i) c.args.id.now o) (c.in_ok-node.ensures.1 ∙ c.in_ok-copy.ensures) in
    set_again p.ids m k c.set_in.new.self held.0 (over_ids held.0 i) j c.args.id.now c.args.object.now held.1
    (held_after p.ids m k held.0 i held.1 there.0) there.1 made

pub returns-clause-ok : goal.returns-clause-ok
returns-clause-ok c =
    let p = c.args.self.now in
    let k = c.args.kind.now in
    let m = over_of c.args.base.now.contents p.gone p.tables in
    let held = held_some (get m k) c.objects_of.result c.if-is_none.ensures
    (c.objects_of.ensures ∙ ap (λ (q : List ℕ). collection_of (get m q)) c.key.ensures) in
    let back = c.in-Some.ensures.set in
    let none = subst (λ (q : List ℕ). get p.ids q ≡ None) c.key-2.ensures back.0 in
    let j = c.set.new.self in
    let node = c.in-Some.node.value in
    let made : over_ids held.0 j ≡ insert held.0 c.args.id.now c.args.object.now =
    c.set.ensures held.0
    ∙ ap (λ (n : Objects). insert n node.id node.item) (c.new-ids.ensures held.0)
    ∙ ap (λ (q : List ℕ). insert held.0 q node.item) (back.2 ∙ c.in_ok-node.ensures.0)
    ∙ ap (λ (o : List ℕ). insert held.0 c.args.id.now o) (back.3 ∙ c.in_ok-node.ensures.1 ∙ c.in_ok-copy.ensures) in
    let put : c.insert.new.self ≡ insert p.ids k j =
    c.in_ok-insert.ensures.ok ∙ ap (λ (n : Changed). insert n k j) back.1 in
    set_again p.ids m k c.insert.new.self held.0 held.0 j c.args.id.now c.args.object.now held.1
    (held_still p.ids m k held.0 held.1 none) put made
