use Rattle.std.proofs.Common.{rules, ◌≡◌, sym, ap, ◌∙◌, Less, Equal, Greater, List, ℕ}
use Rattle.std.specs.declared.alloc.Global.{Global}
use Rattle.std.specs.declared.boxed.Box.{Box}
use Rattle.feed_tables.specs.Bytes.{byte_order}
use Rattle.feed_tables.specs.Unions.{entry_in}
use Rattle.feed_tables.specs.declared.tree.Fork.{Fork}
use Rattle.feed_tables.proofs.Unions.{at_apart, parts_left, parts_at, parts_right}
use Rattle.feed_tables.proofs.tree.Tree.+part.Goals as goal

pub part-before-requires : goal.part-before-requires
part-before-requires g t c κs within =
    let left : c.replace-left.result ≡ c.in-Fork.fork.value.left = c.replace-left.ensures.value ∙ ap (λ (f : Fork _). f.left) c.deref_mut.ensures.value ∙ ap (λ (b : Box (Fork _) Global). b.value.left) c.in-Fork.fork-is in
    let right : c.replace-right.result ≡ c.in-Fork.fork.value.right = c.replace-right.ensures.value ∙ ap (λ (f : Fork _). f.right) c.deref_mut-in-Fork.ensures.value ∙ ap (λ (f : Fork _). f.right) c.deref_mut.ensures.value ∙ ap (λ (b : Box (Fork _) Global). b.value.right) c.in-Fork.fork-is in
    let last = c.deref_mut-in-Fork.result.now in
    let id : last.id ≡ c.in-Fork.fork.value.id = ap (λ (f : Fork _). f.id) c.deref_mut-in-Fork.ensures.value ∙ ap (λ (f : Fork _). f.id) c.deref_mut.ensures.value ∙ ap (λ (b : Box (Fork _) Global). b.value.id) c.in-Fork.fork-is in
    let item : last.item ≡ c.in-Fork.fork.value.item = ap (λ (f : Fork _). f.item) c.deref_mut-in-Fork.ensures.value ∙ ap (λ (f : Fork _). f.item) c.deref_mut.ensures.value ∙ ap (λ (b : Box (Fork _) Global). b.value.item) c.in-Fork.fork-is in
    let f = at_apart c.self.view_is c.requires c.in-Fork.is c.replace-left.result last c.replace-right.result left id item right in
    (search rules, (within, f.right))

pub part-before-requires-in-Greater : goal.part-before-requires-in-Greater
part-before-requires-in-Greater g t c κs within =
    let left : c.replace-left.result ≡ c.in-Fork.fork.value.left = c.replace-left.ensures.value ∙ ap (λ (f : Fork _). f.left) c.deref_mut.ensures.value ∙ ap (λ (b : Box (Fork _) Global). b.value.left) c.in-Fork.fork-is in
    let right : c.replace-right.result ≡ c.in-Fork.fork.value.right = c.replace-right.ensures.value ∙ ap (λ (f : Fork _). f.right) c.deref_mut-in-Fork.ensures.value ∙ ap (λ (f : Fork _). f.right) c.deref_mut.ensures.value ∙ ap (λ (b : Box (Fork _) Global). b.value.right) c.in-Fork.fork-is in
    let last = c.deref_mut-in-Fork.result.now in
    let id : last.id ≡ c.in-Fork.fork.value.id = ap (λ (f : Fork _). f.id) c.deref_mut-in-Fork.ensures.value ∙ ap (λ (f : Fork _). f.id) c.deref_mut.ensures.value ∙ ap (λ (b : Box (Fork _) Global). b.value.id) c.in-Fork.fork-is in
    let item : last.item ≡ c.in-Fork.fork.value.item = ap (λ (f : Fork _). f.item) c.deref_mut-in-Fork.ensures.value ∙ ap (λ (f : Fork _). f.item) c.deref_mut.ensures.value ∙ ap (λ (b : Box (Fork _) Global). b.value.item) c.in-Fork.fork-is in
    let f = at_apart c.self.view_is c.requires c.in-Fork.is c.replace-left.result last c.replace-right.result left id item right in
    (search rules, (within, f.left))

pub returns-in-Less : goal.returns-in-Less
returns-in-Less g t c =
    let left : c.replace-left.result ≡ c.in-Fork.fork.value.left = c.replace-left.ensures.value ∙ ap (λ (f : Fork _). f.left) c.deref_mut.ensures.value ∙ ap (λ (b : Box (Fork _) Global). b.value.left) c.in-Fork.fork-is in
    let right : c.replace-right.result ≡ c.in-Fork.fork.value.right = c.replace-right.ensures.value ∙ ap (λ (f : Fork _). f.right) c.deref_mut-in-Fork.ensures.value ∙ ap (λ (f : Fork _). f.right) c.deref_mut.ensures.value ∙ ap (λ (b : Box (Fork _) Global). b.value.right) c.in-Fork.fork-is in
    let last = c.deref_mut-in-Fork.result.now in
    let id : last.id ≡ c.in-Fork.fork.value.id = ap (λ (f : Fork _). f.id) c.deref_mut-in-Fork.ensures.value ∙ ap (λ (f : Fork _). f.id) c.deref_mut.ensures.value ∙ ap (λ (b : Box (Fork _) Global). b.value.id) c.in-Fork.fork-is in
    let item : last.item ≡ c.in-Fork.fork.value.item = ap (λ (f : Fork _). f.item) c.deref_mut-in-Fork.ensures.value ∙ ap (λ (f : Fork _). f.item) c.deref_mut.ensures.value ∙ ap (λ (b : Box (Fork _) Global). b.value.item) c.in-Fork.fork-is in
    let f = at_apart c.self.view_is c.requires c.in-Fork.is c.replace-left.result last c.replace-right.result left id item right in
    let order : byte_order last.id c.args.id.now ≡ Less = ap (λ (k : List ℕ). byte_order k c.args.id.now) (sym (ap (λ (f : Fork _). f.id) c.deref.ensures)) ∙ sym c.compare.ensures ∙ c.in-Less.is in
    let p = parts_right f c.args.id.now c.part-before.result.before (entry_in c.part-before.result.same) c.part-before.result.after order c.part-before.ensures in
    rw c.between.ensures p

pub returns-in-Equal : goal.returns-in-Equal
returns-in-Equal g t c =
    let left : c.replace-left.result ≡ c.in-Fork.fork.value.left = c.replace-left.ensures.value ∙ ap (λ (f : Fork _). f.left) c.deref_mut.ensures.value ∙ ap (λ (b : Box (Fork _) Global). b.value.left) c.in-Fork.fork-is in
    let right : c.replace-right.result ≡ c.in-Fork.fork.value.right = c.replace-right.ensures.value ∙ ap (λ (f : Fork _). f.right) c.deref_mut-in-Fork.ensures.value ∙ ap (λ (f : Fork _). f.right) c.deref_mut.ensures.value ∙ ap (λ (b : Box (Fork _) Global). b.value.right) c.in-Fork.fork-is in
    let last = c.deref_mut-in-Fork.result.now in
    let id : last.id ≡ c.in-Fork.fork.value.id = ap (λ (f : Fork _). f.id) c.deref_mut-in-Fork.ensures.value ∙ ap (λ (f : Fork _). f.id) c.deref_mut.ensures.value ∙ ap (λ (b : Box (Fork _) Global). b.value.id) c.in-Fork.fork-is in
    let item : last.item ≡ c.in-Fork.fork.value.item = ap (λ (f : Fork _). f.item) c.deref_mut-in-Fork.ensures.value ∙ ap (λ (f : Fork _). f.item) c.deref_mut.ensures.value ∙ ap (λ (b : Box (Fork _) Global). b.value.item) c.in-Fork.fork-is in
    let f = at_apart c.self.view_is c.requires c.in-Fork.is c.replace-left.result last c.replace-right.result left id item right in
    let order : byte_order last.id c.args.id.now ≡ Equal = ap (λ (k : List ℕ). byte_order k c.args.id.now) (sym (ap (λ (f : Fork _). f.id) c.deref.ensures)) ∙ sym c.compare.ensures ∙ c.in-Equal.is in
    parts_at f c.args.id.now order

pub returns-in-Greater : goal.returns-in-Greater
returns-in-Greater g t c =
    let left : c.replace-left.result ≡ c.in-Fork.fork.value.left = c.replace-left.ensures.value ∙ ap (λ (f : Fork _). f.left) c.deref_mut.ensures.value ∙ ap (λ (b : Box (Fork _) Global). b.value.left) c.in-Fork.fork-is in
    let right : c.replace-right.result ≡ c.in-Fork.fork.value.right = c.replace-right.ensures.value ∙ ap (λ (f : Fork _). f.right) c.deref_mut-in-Fork.ensures.value ∙ ap (λ (f : Fork _). f.right) c.deref_mut.ensures.value ∙ ap (λ (b : Box (Fork _) Global). b.value.right) c.in-Fork.fork-is in
    let last = c.deref_mut-in-Fork.result.now in
    let id : last.id ≡ c.in-Fork.fork.value.id = ap (λ (f : Fork _). f.id) c.deref_mut-in-Fork.ensures.value ∙ ap (λ (f : Fork _). f.id) c.deref_mut.ensures.value ∙ ap (λ (b : Box (Fork _) Global). b.value.id) c.in-Fork.fork-is in
    let item : last.item ≡ c.in-Fork.fork.value.item = ap (λ (f : Fork _). f.item) c.deref_mut-in-Fork.ensures.value ∙ ap (λ (f : Fork _). f.item) c.deref_mut.ensures.value ∙ ap (λ (b : Box (Fork _) Global). b.value.item) c.in-Fork.fork-is in
    let f = at_apart c.self.view_is c.requires c.in-Fork.is c.replace-left.result last c.replace-right.result left id item right in
    let order : byte_order last.id c.args.id.now ≡ Greater = ap (λ (k : List ℕ). byte_order k c.args.id.now) (sym (ap (λ (f : Fork _). f.id) c.deref.ensures)) ∙ sym c.compare.ensures ∙ c.in-Greater.is in
    let p = parts_left f c.args.id.now c.part-before-in-Greater.result.before (entry_in c.part-before-in-Greater.result.same) c.part-before-in-Greater.result.after order c.part-before-in-Greater.ensures in
    rw c.between-in-Greater.ensures p
