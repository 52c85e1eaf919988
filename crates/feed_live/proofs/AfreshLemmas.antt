-- What two nodes show.
use Rattle.std.proofs.Common.{◌≡◌, sym, ◌∙◌, Option, Some, None}
use Rattle.std.specs.Prelude.{option_map}
use Rattle.feed_tables.specs.Tables.{Contents}
use Rattle.feed_node.specs.Publishing.{Published}
use Rattle.feed_live.specs.Afresh.{AreSameTables}

-- where both show tables, these are compared
pub both_show : (one other : Option Published) (tables others : Contents) → Some tables ≡ option_map (λ p. p.tables) one → Some others ≡ option_map (λ p. p.tables) other
    → (tables ≡ others → AreSameTables one other) × (AreSameTables one other → tables ≡ others)
both_show None other tables others is are = absurd (cc)
both_show (Some p) None tables others is are = absurd (cc)
both_show (Some p) (Some q) tables others is are =
    let first : tables ≡ p.tables = cc in
    let second : others ≡ q.tables = cc in
    (λ same. sym first ∙ same ∙ second, λ same. first ∙ same ∙ sym second)

pub first_none : (one other : Option Published) → None ≡ option_map (λ p. p.tables) one → AreSameTables one other → ⊥
first_none None other is same = same
first_none (Some p) other is same = absurd (cc)

pub second_none : (one other : Option Published) → None ≡ option_map (λ p. p.tables) other → AreSameTables one other → ⊥
second_none None other is same = same
second_none (Some p) None is same = same
second_none (Some p) (Some q) is same = absurd (cc)
