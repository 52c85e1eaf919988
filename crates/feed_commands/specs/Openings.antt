-- What begins a line up to its id.
use Rattle.std.specs.Prelude.{ℕ, List, ◌++◌, codes, flat_map}
use Rattle.feed_text.specs.Strings.{written_byte}

-- what begins a line of this type, up to the text of its id
abbrev pub beginning : List ℕ → List ℕ
beginning kind = codes "{\"type\":\"" ++ flat_map written_byte kind ++ codes "\",\"id\":\""

-- the same with the end of the line before
abbrev pub opening : List ℕ → List ℕ
opening kind = codes "}\n" ++ beginning kind
