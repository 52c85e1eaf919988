-- Lemmas on texts in a page.
use Rattle.std.proofs.Common.{◌≡◌, refl, sym, ap, ◌∙◌, subst, ℕ, ◌+◌, ◌<◌, Bool, true, false, List, [], ◌∷◌, ◌++◌, length, take, get_or, append-nil, ◌==◌, eqb-true, flat_map}
use Rattle.std.specs.Prelude.{◌&&◌}
use Rattle.std.specs.List.{list_all}
use Rattle.std.proofs.lemmas.List.{take_more}
use Rattle.std.proofs.lemmas.List.Folds.{list_all-append}
use Rattle.std.proofs.lemmas.Grind.{flat_map-append}
use Rattle.feed_status.specs.Escape.{escape, escaped, is_of_text}

-- one more byte
pub escaped_more : (xs : List ℕ) (i : ℕ) (d : ℕ) → i < length xs
    → escaped (take i xs) ++ escape (get_or xs i d) ≡ escaped (take (i + 1) xs)
escaped_more xs i d h =
    sym (ap (flat_map escape) (take_more xs i d h)
    ∙ flat_map-append escape (take i xs) (get_or xs i d ∷ [])
    ∙ ap (λ l. escaped (take i xs) ++ l) (append-nil (escape (get_or xs i d))))

abbrev IsShown : ℕ → Type 0
IsShown b = list_all is_of_text (escape b) ≡ true

at_byte : (b c : ℕ) → IsShown c → ((b == c) ≡ false → IsShown b) → IsShown b
at_byte b c now later = by (b == c) refl
  where
    by : (t : Bool) → (b == c) ≡ t → IsShown b
    by true e = subst IsShown (sym (eqb-true b c e)) now
    by false e = later e

abbrev Differs : ℕ → ℕ → Type 0
Differs b c = (b == c) ≡ false

itself : (b : ℕ) → Differs b 38 → Differs b 60 → Differs b 62 → Differs b 34 → Differs b 39 → escape b ≡ b ∷ []
itself b e1 e2 e3 e4 e5 = rw (e1, e2, e3, e4, e5) refl

of_text : (b : ℕ) → Differs b 60 → Differs b 62 → Differs b 34 → Differs b 39 → list_all is_of_text (b ∷ []) ≡ true
of_text b e2 e3 e4 e5 = rw (e2, e3, e4, e5) refl

byte_shown : (b : ℕ) → IsShown b
byte_shown b =
    at_byte b 38 refl (λ e1. at_byte b 60 refl (λ e2. at_byte b 62 refl (λ e3. at_byte b 34 refl (λ e4.
    at_byte b 39 refl (λ e5. ap (list_all is_of_text) (itself b e1 e2 e3 e4 e5) ∙ of_text b e2 e3 e4 e5)))))

-- a text in a page neither begins nor ends markup
pub text_shown : (text : List ℕ) → list_all is_of_text (escaped text) ≡ true
text_shown [] = refl
text_shown (b ∷ text) =
    list_all-append is_of_text (escape b) (escaped text)
    ∙ ap (λ t. t && list_all is_of_text (escaped text)) (byte_shown b)
    ∙ text_shown text
