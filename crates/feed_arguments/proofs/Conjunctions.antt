-- What stands in a conjunction of seven.
use Rattle.std.proofs.Common.{◌≡◌, refl, Bool, true, false}
use Rattle.std.specs.Prelude.{◌&&◌}

pub second : (a b c d e f g : Bool) → (a && (b && (c && (d && (e && (f && g)))))) ≡ true → b ≡ true
second true true c d e f g h = refl
second true false c d e f g h = absurd (cc)
second false b c d e f g h = absurd (cc)

pub third : (a b c d e f g : Bool) → (a && (b && (c && (d && (e && (f && g)))))) ≡ true → c ≡ true
third true true true d e f g h = refl
third true true false d e f g h = absurd (cc)
third true false c d e f g h = absurd (cc)
third false b c d e f g h = absurd (cc)

pub sixth : (a b c d e f g : Bool) → (a && (b && (c && (d && (e && (f && g)))))) ≡ true → f ≡ true
sixth true true true true true true g h = refl
sixth true true true true true false g h = absurd (cc)
sixth true true true true false f g h = absurd (cc)
sixth true true true false e f g h = absurd (cc)
sixth true true false d e f g h = absurd (cc)
sixth true false c d e f g h = absurd (cc)
sixth false b c d e f g h = absurd (cc)
