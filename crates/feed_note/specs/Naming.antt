-- What the reader of a line keeps of its strings.
use Rattle.std.specs.Prelude.{ℕ, Bool, true, false, List, Option, None, Some, length, nat_lt, if◌then◌else◌}
use Rattle.feed_text.specs.Limits.{name_bytes}
use Rattle.feed_text.specs.Members.{Spelling}
pub use Rattle.feed_text.specs.Members.{IsSpeltValue}
use Rattle.feed_text.specs.Strings.{decoded}
use Rattle.feed_text.specs.declared.Kind.TheVariants.{Object, Array, Str, Num, True, False, Null}
use Rattle.feed_note.specs.Meaning.{is_null}
use Rattle.feed_note.specs.declared.naming.Naming.{Naming}
use Rattle.feed_note.specs.declared.naming.Naming.TheVariants.{Is, Long, Unreadable}

-- the text of a value that is a string without a lone surrogate, by its spelling
abbrev pub spelled_text : Spelling → Option (List ℕ)
spelled_text (s, Object) = None
spelled_text (s, Array) = None
spelled_text (s, Str) = decoded s
spelled_text (s, Num) = None
spelled_text (s, True) = None
spelled_text (s, False) = None
spelled_text (s, Null) = None

-- what a text names, where there is one
abbrev pub naming_of : Option (List ℕ) → Naming
naming_of None = Unreadable
naming_of (Some w) = if nat_lt name_bytes (length w) then Long else Is w

-- what a member names, unless it is absent or null
abbrev pub spelled_or_null : Option Spelling → Option Naming
spelled_or_null None = None
spelled_or_null (Some x) = if is_null x.1 then None else Some (naming_of (spelled_text x))

-- whether a member names nothing though it is there
abbrev pub is_unreadable : Naming → Bool
is_unreadable (Is w) = false
is_unreadable Long = false
is_unreadable Unreadable = true

abbrev pub is_unreadable_or_null : Option Naming → Bool
is_unreadable_or_null None = false
is_unreadable_or_null (Some naming) = is_unreadable naming
