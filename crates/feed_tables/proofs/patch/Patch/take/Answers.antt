use Rattle.std.proofs.Common.{◌≡◌, ap, ◌∙◌, List, ℕ}
use Rattle.std.specs.FinMap.{get, insert, remove}
use Rattle.feed_tables.specs.ChangedIds.{over_ids}
use Rattle.feed_tables.specs.Tables.{Objects, collection_of}
use Rattle.feed_tables.proofs.Changing.{Changed, held_is, held_still, take_done, taken_again, taken_nowhere, none_of, left_ids}
use Rattle.feed_tables.proofs.Patching.{over_of, exchanged_twice, exchanged_none}
use Rattle.feed_tables.proofs.patch.Patch.take.Goals as goal

pub returns-in_default-clause-ok : goal.returns-in_default-clause-ok
returns-in_default-clause-ok c =
    let p = c.args.self.now in
    let k = c.args.kind.now in
    let m = over_of c.args.base.now.contents p.gone p.tables in
    taken_nowhere p.ids m k c.args.id.now
    (none_of (get m k) c.objects_of.result c.in_default.not-Some
    (c.objects_of.ensures ∙ ap (λ (q : List ℕ). collection_of (get m q)) c.key.ensures))

pub returns-then-swap-clause-ok : goal.returns-then-swap-clause-ok
returns-then-swap-clause-ok c =
    let p = c.args.self.now in
    let k = c.args.kind.now in
    let m = over_of c.args.base.now.contents p.gone p.tables in
    let objects = c.in-Some.objects.now in
    let held = held_is (get m k) c.objects_of.result c.in-Some.objects c.in-Some.is
    (c.objects_of.ensures ∙ ap (λ (q : List ℕ). collection_of (get m q)) c.key.ensures) in
    let i = c.swap.new.ids in
    let j = c.take-done.new.self in
    let twice = exchanged_twice c.key-2.result c.key-then-swap.result k p.ids c.swap.new.self c.swap-there.new.self _ i j c.swap-there.new.ids c.swap.result c.swap-there.result c.key-2.ensures c.key-then-swap.ensures c.if-swap.true c.swap.ensures c.swap-there.ensures in
    take_done p.ids m k c.swap-there.new.self objects i j c.args.id.now held twice.0 twice.1 c.take-done.result c.take-done.ensures.ok

pub returns-then-swap-clause-err : goal.returns-then-swap-clause-err
returns-then-swap-clause-err c =
    let p = c.args.self.now in
    let k = c.args.kind.now in
    let i = c.swap.new.ids in
    let j = c.take-done.new.self in
    let twice = exchanged_twice c.key-2.result c.key-then-swap.result k p.ids c.swap.new.self c.swap-there.new.self _ i j c.swap-there.new.ids c.swap.result c.swap-there.result c.key-2.ensures c.key-then-swap.ensures c.if-swap.true c.swap.ensures c.swap-there.ensures in
    left_ids p k c.swap-there.new.self i j twice.0 twice.1 c.take-done.result c.take-done.ensures.err

pub returns-clause-ok : goal.returns-clause-ok
returns-clause-ok c =
    let p = c.args.self.now in
    let k = c.args.kind.now in
    let m = over_of c.args.base.now.contents p.gone p.tables in
    let objects = c.in-Some.objects.now in
    let held = held_is (get m k) c.objects_of.result c.in-Some.objects c.in-Some.is
    (c.objects_of.ensures ∙ ap (λ (q : List ℕ). collection_of (get m q)) c.key.ensures) in
    let none = exchanged_none c.key-2.result k p.ids c.swap.new.self _ c.swap.new.ids c.swap.result c.key-2.ensures c.if-swap.false c.swap.ensures in
    let i = c.swap.new.ids in
    let j = c.take.new.self in
    let same : over_ids objects i ≡ objects = ap (over_ids objects) none.2 ∙ c.new-ids.ensures objects in
    let made : over_ids objects j ≡ remove objects c.args.id.now =
    c.in_ok-take.ensures.ok ∙ ap (λ (n : Objects). remove n c.args.id.now) same in
    let put : c.insert.new.self ≡ insert p.ids k j =
    c.in_ok-insert.ensures.ok ∙ ap (λ (n : Changed). insert n k j) none.1 in
    taken_again p.ids m k c.insert.new.self objects objects j c.args.id.now held
    (held_still p.ids m k objects held none.0) put made
