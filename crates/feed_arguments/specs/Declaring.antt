-- What an option of a table comes to, as the crate clap has options.
use Rattle.std.specs.Prelude.{◌≡◌, ℕ, List, [], ◌∷◌, Option, Some, None, false}
use Rattle.std.specs.Borrow.{Bor}
use Rattle.clap.specs.Words.{Rule, Text, rule_of}
use Rattle.clap.specs.declared.builder.arg.Arg.{Arg}
use Rattle.clap.specs.declared.builder.arg.ArgPredicate.{ArgPredicate}
use Rattle.clap.specs.declared.builder.arg.ArgPredicate.TheVariants.{IsPresent}
use Rattle.feed_arguments.specs.Options.{flag, number_between, text_alone, text_option, tied, with_default}
use Rattle.feed_arguments.specs.declared.words.declaring.Declared.{Declared}
use Rattle.feed_arguments.specs.declared.words.declaring.Tie.{Tie}
use Rattle.feed_arguments.specs.declared.words.declaring.Tie.TheVariants as tie
use Rattle.feed_arguments.specs.declared.words.declaring.Value.{Value}
use Rattle.feed_arguments.specs.declared.words.declaring.Value.TheVariants as value

-- an option of this name, with such a value
abbrev pub value_rule : Text → Value → Rule
value_rule name value.Nothing = flag name
value_rule name (value.Text word) = text_option name
value_rule name (value.Alone word) = text_alone name
value_rule name (value.Number word least most) = number_between name least most

-- the option, with this value where it is not given
abbrev pub default_rule : Option (Bor (List ℕ)) → Rule → Rule
default_rule None rule = rule
default_rule (Some value) rule = with_default value.now rule

-- the option, with a rule on another one
abbrev pub tie_rule : Tie → Rule → Rule
tie_rule tie.Free rule = rule
tie_rule other rule = tied rule

-- what an option comes to
abbrev pub rule_by : Declared → Rule
rule_by d =
    let valued = record (value_rule d.name.now d.value) { required = d.required } in
    tie_rule d.tie (default_rule d.default valued)

-- the other options that an option with this tie needs, has to be given unless they are, and
-- excludes
abbrev pub needs_by : Tie → List (ArgPredicate × Bor (List ℕ))
needs_by (tie.Needs other) = (IsPresent, other) ∷ []
needs_by other = []

abbrev pub unless_by : Tie → List (Bor (List ℕ))
unless_by (tie.Unless other) = other ∷ []
unless_by other = []

abbrev pub conflicts_by : Tie → List (Bor (List ℕ))
conflicts_by (tie.Excludes other) = other ∷ []
conflicts_by (tie.Replaces first others) = first ∷ others.now
conflicts_by other = []

-- clap's option is the one that is declared: its rule is, and it has to do with just the other
-- option of its tie; it counts for its own command alone
pub record IsDeclared (d : Declared) (option : Arg) : Type 0 where
  pub rule : rule_of option ≡ rule_by d
  pub needs : option.needs.items ≡ needs_by d.tie
  pub unless : option.r_unless.items ≡ unless_by d.tie
  pub conflicts : option.conflicts.items ≡ conflicts_by d.tie
  pub local : option.global ≡ false
