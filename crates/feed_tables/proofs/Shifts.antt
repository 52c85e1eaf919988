-- What nothing weighs.
use Rattle.std.proofs.Common.{◌≡◌, ℕ, min, List, [], ◌∷◌, length, sym, ap, ◌∙◌, refl, arith}
use Rattle.std.specs.FinMap.{FinMap, entries, len, len-entries}
use Rattle.feed_tables.specs.Bytes.{byte_order}
use Rattle.feed_tables.specs.Walks.{Scale, weighed_in}

module _ {V : Type 0} (scale : Scale V) where
  -- names where none is
  no_entries : {W : Type 0} (es : List (List ℕ × W)) → length es ≡ 0 → es ≡ []
  no_entries [] h = refl
  no_entries (e ∷ es) h = absurd (omega (arith, h))

  pub none_weigh : {W : Type 0} (names : FinMap byte_order W) (held : FinMap byte_order V)
      → len names ≡ 0 → 0 ≡ min (weighed_in scale held (entries names)) 18446744073709551615
  none_weigh {W} names held none =
      omega (
        arith,
        ap (weighed_in scale held) (no_entries (entries names) (sym (len-entries names) ∙ none)),
      )
