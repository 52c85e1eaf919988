use Rattle.std.proofs.Common.{◌+◌, min, Bool, sym, ap, subst, ◌∙◌, ℕ}
use Rattle.std.specs.FinMap.{insert}
use Rattle.feed_tables.specs.Amounts.{bytes, bytes_lost, bytes_come, MergesIn}
use Rattle.feed_tables.specs.Tables.{Contents, object_count, size}
use Rattle.feed_tables.specs.declared.table.Table.{Table}
use Rattle.feed_tables.proofs.Amounts.{bytes_changed, lost_within}
use Rattle.feed_tables.proofs.Sizes.{size_is, size-insert, count_within}
use Rattle.feed_tables.proofs.tables.Tables.change.Goals as goal

pub invariant_of-self-2 : goal.invariant_of-self-2
invariant_of-self-2 c =
    let types = c.self.inside.types in
    let k = c.args.kind.now in
    let merged = subst (λ (b : Bool). MergesIn k types c.merge_in.new.self c.args.ids c.merge_in.new.merged b) c.if-not-merge_in.false c.merge_in.ensures.merged in
    let held = merged.0 in
    let made = merged.1 in
    let lost = bytes_lost k c.args.ids held in
    let come = bytes_come k c.args.ids held in
    let there = merged.2.0 in
    let put = merged.2.1 in (
      c.moved-self-inside.ensures (size types) (object_count held) (object_count made) c.self.invariant.0 merged.3.1 merged.3.2
          (ap (λ (n : ℕ). n + object_count held) (sym (size_is c.merge_in.new.self))
          ∙ ap (λ (m : Contents). size m + object_count held) put ∙ size-insert types k made held there)
          (count_within types k held there)
          ∙ ap (λ (n : ℕ). min n 18446744073709551615) (sym (size_is c.merge_in.new.self)),
      c.moved-self-inside-2.ensures (bytes types) lost come c.self.invariant.1 merged.3.3 merged.3.4
          (ap (λ (m : Contents). bytes m + lost) put
          ∙ ap (λ (t : Table). bytes (insert types k t) + lost) merged.3.0
          ∙ bytes_changed types k c.args.ids held there)
          (lost_within types k c.args.ids held there),
    )
