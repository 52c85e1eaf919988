-- How a text stands in a page (HTML, 13.3, "escaping a string", with both quotation marks).
use Rattle.std.specs.Prelude.{ℕ, Bool, not, List, [], ◌∷◌, if◌then◌else◌, ◌==◌, ◌&&◌, flat_map, codes}

-- what stands for a byte of a text
abbrev pub escape : ℕ → List ℕ
escape b =
    if b == 38 then codes "&amp;"
    else if b == 60 then codes "&lt;"
    else if b == 62 then codes "&gt;"
    else if b == 34 then codes "&quot;"
    else if b == 39 then codes "&#39;"
    else b ∷ []

-- a text, as it stands in a page
abbrev pub escaped : List ℕ → List ℕ
escaped text = flat_map escape text

-- the byte neither begins nor ends a tag, nor the value of an attribute
abbrev pub is_of_text : ℕ → Bool
is_of_text b = not (b == 60) && not (b == 62) && not (b == 34) && not (b == 39)
