-- The options that several commands have, and what the values of options say. Which words of a
-- command line are the values of an option is as the crate clap reads them.
use Rattle.std.specs.Prelude.{◌≡◌, ◌≤◌, ℕ, Bool, true, false, List, [], ◌∷◌, Option, Some, None}
use Rattle.std.specs.Prelude.{IfSome, option_map, codes, fold}
use Rattle.std.specs.Option.{option_or}
use Rattle.std.specs.Str.Parse.{IsNumeral, digits_value, without_leading_plus}
use Rattle.clap.specs.Walk.{first_of, one_of}
use Rattle.clap.specs.Words.{App, Row, Rule, Text, new_rule, with_rule}
use Rattle.clap.specs.declared.builder.action.ArgAction.TheVariants.{SetTrue}
use Rattle.clap.specs.declared.builder.value_parser.ValueParser.TheVariants.{Unsigned}
use Rattle.feed_settings.specs.declared.framing.Framing.{Framing}
use Rattle.feed_settings.specs.declared.framing.Framing.TheVariants as framing
use Rattle.feed_settings.specs.Limits.{Limits, most_commits, most_changes, most_memory}
use Rattle.feed_arguments.specs.Addresses.{most_port}

-- ---- the options

-- the greatest number of connections, rounds, reads and batches that may be asked for, and of
-- seconds that servers are compared for
abbrev pub most_rounds : ℕ
most_rounds = 1000000

-- the most seconds of silence that may be asked for
abbrev pub most_silence : ℕ
most_silence = 3600

-- an option with a number from the least to the most
abbrev pub number_between : Text → ℕ → ℕ → Rule
number_between name least most = record (new_rule name) {
  long = Some name;
  value_names = 1;
  parser = Some (Unsigned least most);
}

-- the same with a number from 1 on
abbrev pub number_in : Text → ℕ → Rule
number_in name most = number_between name 1 most

-- an option with any text
abbrev pub text_option : Text → Rule
text_option name = record (new_rule name) { long = Some name; value_names = 1 }

-- a text that stands without the option's name
abbrev pub text_alone : Text → Rule
text_alone name = record (new_rule name) { value_names = 1 }

-- an option without a value
abbrev pub flag : Text → Rule
flag name = record (new_rule name) { long = Some name; action = Some SetTrue }

-- the option, with this value where it is not given
abbrev pub with_default : Text → Rule → Rule
with_default value rule = record rule { defaults = value ∷ [] }

-- the option, which has to be given
abbrev pub needed : Rule → Rule
needed rule = record rule { required = true }

-- the option, which has a rule on another one
abbrev pub tied : Rule → Rule
tied rule = record rule { is_free = false }

abbrev pub history : Rule
history = with_default (codes "1000") (number_in (codes "history") most_commits)

abbrev pub staged : Rule
staged = with_default (codes "1000000") (number_in (codes "staged") most_changes)

abbrev pub memory : Rule
memory = number_in (codes "memory") most_memory

abbrev pub at : Rule
at = text_option (codes "at")

abbrev pub stream : Rule
stream = flag (codes "stream")

abbrev pub verbose : Rule
verbose = flag (codes "verbose")

abbrev pub primary : Rule
primary = text_option (codes "primary")

abbrev pub screen : Rule
screen = text_option (codes "screen")

abbrev pub of : Rule
of = text_option (codes "of")

abbrev pub against : Rule
against = text_option (codes "against")

-- `--contest`, which may be left out
abbrev pub compared_contest : Rule
compared_contest = text_option (codes "contest")

abbrev pub for_seconds : Rule
for_seconds = number_in (codes "for") most_rounds

abbrev pub json : Rule
json = flag (codes "json")

abbrev pub port : Rule
port = needed (number_in (codes "port") most_port)

abbrev pub listen : Rule
listen = needed (number_in (codes "listen") most_port)

abbrev pub contest : Rule
contest = needed (text_option (codes "contest"))

abbrev pub count : Rule
count = needed (number_in (codes "count") most_rounds)

abbrev pub turn : Rule
turn = number_in (codes "turn") most_rounds

abbrev pub chunked : Rule
chunked = flag (codes "chunked")

abbrev pub back : Rule
back = with_default (codes "0") (number_between (codes "back") 0 most_commits)

abbrev pub host : Rule
host = needed (text_option (codes "host"))

abbrev pub from : Rule
from = text_option (codes "from")

abbrev pub base : Rule
base = with_default [] (text_option (codes "base"))

abbrev pub host_header : Rule
host_header = text_option (codes "host-header")

abbrev pub user_file : Rule
user_file = text_option (codes "user-file")

-- `--turns T`: the most reads of one connection
abbrev pub reads : Rule
reads = with_default (codes "1000000") (number_in (codes "turns") most_rounds)

abbrev pub silence : Rule
silence = number_in (codes "silence") most_silence

abbrev pub resume : Rule
resume = flag (codes "resume")

-- the limits of a node
abbrev pub limits : List Rule
limits = history ∷ staged ∷ memory ∷ []

-- a command with these options, in order
abbrev pub with_rules : App → List Rule → App
with_rules command rules = fold with_rule command rules

-- ---- what their values say

-- the number that an option's value says
abbrev pub number_at : Text → List Row → Option ℕ
number_at name rows = option_map (λ t. digits_value 10 (without_leading_plus t)) (one_of name rows)

-- the text of an option's value
abbrev pub text_at : Text → List Row → Option Text
text_at name rows = first_of name rows

-- an option's value, if it has one, is written in decimal digits, which a plus may come before
abbrev pub IsInDigits : Text → List Row → Type 0
IsInDigits name rows = IfSome (one_of name rows) (λ t. IsNumeral 10 (without_leading_plus t))

-- an option's value says this number, from 0 to the most
pub record IsNumberUpTo (name : Text) (most : ℕ) (rows : List Row) (number : ℕ) : Type 0 where
  pub digits : IsInDigits name rows
  pub said : number_at name rows ≡ Some number
  pub greatest : number ≤ most

-- an option's value says this number, from 1 to the most
pub record SaysNumber (name : Text) (most : ℕ) (rows : List Row) (number : ℕ) : Type 0 where
  pub digits : IsInDigits name rows
  pub said : number_at name rows ≡ Some number
  pub least : 1 ≤ number
  pub greatest : number ≤ most

-- the same of an option that may be left out
pub record IsNumberIfGiven (name : Text) (most : ℕ) (rows : List Row) (number : Option ℕ)
    : Type 0 where
  pub digits : IsInDigits name rows
  pub said : number_at name rows ≡ number
  pub least : IfSome number (λ n. 1 ≤ n)
  pub greatest : IfSome number (λ n. n ≤ most)

-- whether an option without a value is given
pub record IsGiven (name : Text) (rows : List Row) (given : Bool) : Type 0 where
  pub yes : one_of name rows ≡ Some (codes "true") → given ≡ true
  pub no : one_of name rows ≡ Some (codes "false") → given ≡ false
  pub none : one_of name rows ≡ None → given ≡ false

-- in chunks where that is asked for, and else to the end of the connection
pub record IsFramed (rows : List Row) (framed : Framing) : Type 0 where
  pub chunked : one_of (codes "chunked") rows ≡ Some (codes "true") → framed ≡ framing.Chunked
  pub close : one_of (codes "chunked") rows ≡ Some (codes "false") → framed ≡ framing.Close
  pub none : one_of (codes "chunked") rows ≡ None → framed ≡ framing.Close

-- the limits of a node: without a limit of memory, kept commits have so many bytes, where that is
-- limited by itself
pub record AsksLimitsOr (bytes : Option ℕ) (rows : List Row) (limits : Limits) : Type 0 where
  pub history_is : SaysNumber (codes "history") most_commits rows limits.history.commits
  pub bytes_is : limits.history.bytes ≡ option_or limits.memory bytes
  pub staged_is : SaysNumber (codes "staged") most_changes rows limits.staged
  pub memory_is : IsNumberIfGiven (codes "memory") most_memory rows limits.memory

-- the same where kept commits have any bytes then
abbrev pub AsksLimits : List Row → Limits → Type 0
AsksLimits rows limits = AsksLimitsOr None rows limits
