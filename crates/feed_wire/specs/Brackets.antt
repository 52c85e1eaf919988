-- A host in brackets.
use Rattle.std.specs.Prelude.{ℕ, List, [], ◌∷◌, ◌++◌}

-- a text between brackets, as an address of IPv6 stands where a port follows (RFC 3986, section
-- 3.2.2)
abbrev pub in_brackets : List ℕ → List ℕ
in_brackets text = 91 ∷ (text ++ (93 ∷ []))
