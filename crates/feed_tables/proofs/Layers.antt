-- What is held under a name where some items are taken away, and then some put in.
use Rattle.std.proofs.Common.{Bool, true, false, cond, ◌≡◌, ℕ, List, Option, None, Some, ap, ◌∙◌}
use Rattle.std.specs.Option.{option_or, is_some}
use Rattle.std.specs.FinMap.{FinMap, get}
use Rattle.feed_tables.specs.Bytes.{byte_order}
use Rattle.feed_tables.specs.Map.{map_over, map_less}
use Rattle.feed_tables.proofs.MapsOver.{get-map_over, get-map_less}

module _ {V W : Type 0} (items : FinMap byte_order V) (gone : FinMap byte_order W) (held : FinMap byte_order V) (k : List ℕ) where
  abbrev pub layered : FinMap byte_order V
  layered = map_over items (map_less gone held)

  found_by : get layered k ≡ option_or (get items k) (cond (is_some (get gone k)) None (get held k))
  found_by =
      get-map_over items (map_less gone held) k
      ∙ ap (λ (o : Option V). option_or (get items k) o) (get-map_less gone held k)

  pub held_new : (v : V) → get items k ≡ Some v → get layered k ≡ Some v
  held_new v is =
      found_by ∙ ap (λ (o : Option V). option_or o (cond (is_some (get gone k)) None (get held k))) is

  pub held_gone : get items k ≡ None → is_some (get gone k) ≡ true → get layered k ≡ None
  held_gone is away =
      found_by
      ∙ ap (λ (o : Option V). option_or o (cond (is_some (get gone k)) None (get held k))) is
      ∙ ap (λ (b : Bool). option_or None (cond {A = Option V} b None (get held k))) away

  pub held_base : get items k ≡ None → is_some (get gone k) ≡ false → get layered k ≡ get held k
  held_base is there =
      found_by
      ∙ ap (λ (o : Option V). option_or o (cond (is_some (get gone k)) None (get held k))) is
      ∙ ap (λ (b : Bool). option_or None (cond {A = Option V} b None (get held k))) there
