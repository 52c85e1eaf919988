-- The code of what a follower keeps, which its model needs.
use Rattle.std.specs.Prelude.{refl, ℕ, Bool, List}
use Rattle.std.specs.Coded.{Coded, code_by, coded×, coded_bool}
use Rattle.feed_tables.specs.Codes.{text_code}
use Rattle.feed_follow.specs.declared.follower.Part.{Part}
use Rattle.feed_follow.specs.contracts.follower.Part as part
use Rattle.feed_follow.specs.Follower.{FollowerState}

abbrev pub follower_code : Coded FollowerState
follower_code =
    code_by (Bool × (List ℕ × Part)) (coded× coded_bool (coded× text_code part.the_row.coded))
    (λ f. (f.had_token, (f.kept, f.part)))
    (λ p. record { had_token = p.0; kept = p.1.0; part = p.1.1 }) (λ _. refl)
