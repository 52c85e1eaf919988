-- Lemmas on what the words of a command line ask for.
use Rattle.std.proofs.Common.{◌≡◌, sym, subst, inl, inr, ap, ap₂, ◌∙◌, refl, ℕ, ◌<◌, ◌≤◌, ◌^◌, ◌∷◌, [], Bool, List, Option, Some, None, Result, Ok, Err, option_map, true, false, codes, IfSome}
use Rattle.std.proofs.lemmas.Slice.Eq.{bytes_eq-Decides}
use Rattle.std.proofs.lemmas.Bool.{and_parts as both_true}
use Rattle.std.specs.List.{list_all, list_any}
use Rattle.std.specs.Option.{option_map_or}
use Rattle.std.specs.Str.{bytes_eq}
use Rattle.std.specs.Borrow.{Bor}
use Rattle.std.specs.Prelude.{IsSomeAnd, ◌⊎◌, unwrap_or, ◌&&◌, ◌||◌, ◌≢◌, not, find, if◌then◌else◌, is_some, option_and_then, slice_get}
use Rattle.std.specs.Str.Parse.{IsNumeral, ParsesUnsigned, digits_value, without_leading_plus}
use Rattle.clap.specs.Matches.{ReadsOne}
use Rattle.clap.specs.Values.{read_as}
use Rattle.clap.specs.Simple.{argument_words, built, entered, label_of, names_of, rows_at, App, Shape}
use Rattle.clap.specs.Facts.{explicit_source}
use Rattle.clap.specs.Takes.{built_takes, default_passes, entered_passes, is_given, level_passes, settle_passes, walk_passes}
use Rattle.clap.specs.Walk.{answers_to, finished, nothing_held, one_of, row_text, rows_of, stop_after, walk, walk_from}
use Rattle.clap.specs.declared.parser.matches.Found.{Found}
use Rattle.clap.proofs.WalkLemmas.{one_text-rows}
use Rattle.clap.specs.Words.{Row, Text, is_simple, one_text, subcommand_of, takes}
use Rattle.clap.specs.declared.error.kind.ErrorKind.{ErrorKind}
use Rattle.clap.specs.declared.error.kind.ErrorKind.TheVariants as kind
use Rattle.clap.proofs.OnLiterals.{clap_on_literals}
use Rattle.feed_arguments.proofs.Conjunctions.{sixth}
use Rattle.feed_arguments.specs.Addresses.{most_port}
use Rattle.feed_arguments.specs.Listening.{IsPortAt}
use Rattle.feed_arguments.specs.Live.{IsPortAsked}
use Rattle.feed_arguments.specs.Options.{number_at, text_at, IsInDigits, SaysNumber, IsNumberIfGiven}
use Rattle.feed_arguments.specs.Words.{command_line, AskInVain, AsksAt, AsksBy, AsksNothing, RefusesBy, RepliesBy}
use Rattle.feed_arguments.specs.declared.request.Request.{Request}
use Rattle.feed_arguments.specs.declared.request.NoCommand.{NoCommand}
use Rattle.feed_arguments.specs.declared.request.NoCommand.TheVariants as reply

-- clap's definitions say what is found on this command line
pub line_is_simple : is_simple command_line ≡ true
unfolding clap_on_literals
line_is_simple = refl

-- the number that was read of an option is the one that its value says
number_read : (E : Type 0) (G : List ℕ → Result ℕ E → Type 0) (text : Option (List ℕ)) (r : Option ℕ) (n : ℕ)
    → ((u : List ℕ) (x : Result ℕ E) → G u x → ParsesUnsigned 64 10 u x) → (text ≡ None → r ≡ None)
    → ((t : List ℕ) → text ≡ Some t → ReadsOne G t r) → r ≡ Some n
    → option_map (λ t. digits_value 10 (without_leading_plus t)) text ≡ Some n
number_read E G None r n only none value is = let nothing : r ≡ None = none refl in absurd (cc)
number_read E G (Some t) (Some v) n only none value is = ap Some (sym (only t (Ok v) (value t refl)).1) ∙ is
number_read E G (Some t) None n only none value is = absurd (cc)

-- no number was read of an option: its value says none of 64 bits
not_read : (E : Type 0) (G : List ℕ → Result ℕ E → Type 0) (text : Option (List ℕ)) (r : Option ℕ) (n : ℕ)
    → ((u : List ℕ) (x : Result ℕ E) → G u x → ParsesUnsigned 64 10 u x)
    → ((t : List ℕ) → text ≡ Some t → ReadsOne G t r) → r ≡ None
    → IfSome text (λ t. IsNumeral 10 (without_leading_plus t))
    → option_map (λ t. digits_value 10 (without_leading_plus t)) text ≡ Some n → ¬ (n < 2 ^ 64)
not_read E G None r n only value none digits said fits = absurd (cc)
not_read E G (Some t) (Some v) n only value none digits said fits = absurd (cc)
not_read E G (Some t) None n only value none digits said fits =
    let failed = value t refl in
    only t (Err failed.0) failed.1 (digits, subst (λ m. m < 2 ^ 64) (sym (some_is _ n said)) fits)
  where
    some_is : (m n : ℕ) → Some m ≡ Some n → m ≡ n
    some_is m n same = cc

-- of a number that was read, its value is written in digits
digits_read : (E : Type 0) (G : List ℕ → Result ℕ E → Type 0) (text : Option (List ℕ)) (r : Option ℕ) (n : ℕ)
    → ((u : List ℕ) (x : Result ℕ E) → G u x → ParsesUnsigned 64 10 u x)
    → ((t : List ℕ) → text ≡ Some t → ReadsOne G t r) → r ≡ Some n
    → IfSome text (λ t. IsNumeral 10 (without_leading_plus t))
digits_read E G None r n only value is = tt
digits_read E G (Some t) (Some v) n only value is = (only t (Ok v) (value t refl)).0.0
digits_read E G (Some t) None n only value is = absurd (cc)

-- a value says one number: not one that is too great, and another that is not
pub other_number : (m n most : ℕ) (o : Option ℕ) → o ≡ Some m → o ≡ Some n → ¬ (m ≤ most) → ¬ (n ≤ most)
other_number m n most o is said over fits = over (subst (λ x. x ≤ most) (some_is n m (sym said ∙ is)) fits)
  where
    some_is : (a b : ℕ) → Some a ≡ Some b → a ≡ b
    some_is a b same = cc

-- what was read of an option in a command's matches
module _ (E : Type 0) (G : List ℕ → Result ℕ E → Type 0) (f : Found) (id : Text)
    (only : (u : List ℕ) (x : Result ℕ E) → G u x → ParsesUnsigned 64 10 u x) where
  abbrev value_of : Option Text → Option ℕ
  value_of = option_map (λ t. digits_value 10 (without_leading_plus t))

  abbrev InDigits : Option Text → Type 0
  InDigits o = IfSome o (λ t. IsNumeral 10 (without_leading_plus t))

  pub number_found : (r : Option ℕ) (n : ℕ) → (one_text f id ≡ None → r ≡ None)
      → ((t : List ℕ) → one_text f id ≡ Some t → ReadsOne G t r) → r ≡ Some n
      → IsInDigits id (rows_of f) × (number_at id (rows_of f) ≡ Some n)
  number_found r n none value is = (
    subst InDigits (one_text-rows f id) (digits_read E G (one_text f id) r n only value is),
    ap value_of (sym (one_text-rows f id)) ∙ number_read E G (one_text f id) r n only none value is,
  )

  pub number_lacks : (r : Option ℕ) (n : ℕ) → ((t : List ℕ) → one_text f id ≡ Some t → ReadsOne G t r) → r ≡ None
      → IsInDigits id (rows_of f) → number_at id (rows_of f) ≡ Some n → ¬ (n < 2 ^ 64)
  number_lacks r n value is digits said =
      not_read E G (one_text f id) r n only value is (subst InDigits (sym (one_text-rows f id)) digits)
      (ap value_of (one_text-rows f id) ∙ said)

-- a pair, by its parts
pub pair_of : (o : Option (Text × List Row)) (name : Text) (rows : List Row) → option_map (λ p. p.0) o ≡ Some name
    → option_map (λ p. p.1) o ≡ Some rows → o ≡ Some (name, rows)
pair_of None name rows e h = absurd (cc)
pair_of (Some p) name rows e h = ap₂ (λ x y. Some (x, y)) (ap (λ o. unwrap_or o name) e) (ap (λ o. unwrap_or o rows) h)

-- what the command that was entered asks for, by its name and its values
pub asked_by : (o : Option (Text × List Row)) (name : Text) (rows : List Row) (asked : Request) → o ≡ Some (name, rows)
    → AsksAt o asked → AsksBy name rows asked
asked_by o name rows asked is asks =
    let both : Some (asks.name, asks.rows) ≡ Some (name, rows) = sym asks.is ∙ is in
    let first : asks.name ≡ name = ap (λ (o : Option (Text × List Row)). (unwrap_or o (name, rows)).0) both in
    let second : asks.rows ≡ rows = ap (λ (o : Option (Text × List Row)). (unwrap_or o (name, rows)).1) both in
    subst (λ x. AsksBy x rows asked) first (subst (λ x. AsksBy asks.name x asked) second asks.by)

pub mapped : {A B C : Type 0} (f : B → C) (g : A → B) (o : Option A)
    → option_map f (option_map g o) ≡ option_map (λ x. f (g x)) o
mapped f g None = refl
mapped f g (Some x) = refl

-- an option that may be left out: its text is there exactly if the one that is read as a number is
mapped_none : {A B : Type 0} (g : A → B) (o : Option A) → (o ≡ None → option_map g o ≡ None)
    × (option_map g o ≡ None → o ≡ None)
mapped_none g None = (λ e. refl, λ e. refl)
mapped_none g (Some x) = (λ e. absurd (cc), λ e. absurd (cc))

none_of_both : (row : Option Row) → (option_and_then (λ r. slice_get r.values 0) row ≡ None
    → option_and_then row_text row ≡ None)
    × (option_and_then row_text row ≡ None → option_and_then (λ r. slice_get r.values 0) row ≡ None)
none_of_both None = (λ e. refl, λ e. refl)
none_of_both (Some r) = mapped_none (read_as r.reading) (slice_get r.values 0)

-- it says no number where it has no text
pub says_none : (id : Text) (most : ℕ) (rows : List Row) → text_at id rows ≡ None → IsNumberIfGiven id most rows None
says_none id most rows none =
    let unread : one_of id rows ≡ None = (none_of_both (find (λ r. bytes_eq r.id id) rows)).0 none in
    record {
      digits = subst (λ o. IfSome o (λ t. IsNumeral 10 (without_leading_plus t))) (sym unread) tt;
      said = ap (option_map (λ t. digits_value 10 (without_leading_plus t))) unread;
      least = tt;
      greatest = tt;
    }

pub says_some : (id : Text) (most : ℕ) (rows : List Row) (n : ℕ) → SaysNumber id most rows n
    → IsNumberIfGiven id most rows (Some n)
says_some id most rows n is = record { digits = is.digits; said = is.said; least = is.least; greatest = is.greatest }

-- and nothing where it has a text that says none
pub says_nothing : (id : Text) (most : ℕ) (rows : List Row) (n : Option ℕ) → ¬ (text_at id rows ≡ None)
    → ((m : ℕ) → ¬ (SaysNumber id most rows m)) → ¬ (IsNumberIfGiven id most rows n)
says_nothing id most rows None given never is =
    given ((none_of_both (find (λ r. bytes_eq r.id id) rows)).1
    ((mapped_none (λ t. digits_value 10 (without_leading_plus t)) (one_of id rows)).1 is.said))
says_nothing id most rows (Some m) given never is =
    never m (record { digits = is.digits; said = is.said; least = is.least; greatest = is.greatest })

pub ruleset says = (says_none, says_some, says_nothing)

-- an option that says no port has no text; one that says a port has
no_port : (id : Text) (rows : List Row) (before : Option Text) → IsPortAsked id rows None before
    → text_at id rows ≡ None
no_port id rows None is =
    (none_of_both (find (λ r. bytes_eq r.id id) rows)).1
    ((mapped_none (λ t. digits_value 10 (without_leading_plus t)) (one_of id rows)).1 is.said)
no_port id rows (Some address) is = absurd is

has_text : (id : Text) (rows : List Row) (n : ℕ) (before : Option Text) → IsPortAsked id rows (Some n) before
    → text_at id rows ≡ None → ⊥
has_text id rows n None is none = let said = (says_none id most_port rows none).said in absurd (cc)
has_text id rows n (Some address) is none =
    subst (λ o. IsSomeAnd o (λ text. IsPortAt text address n)) none is

-- so where the one asks for neither a port nor a file, nothing does
pub no_use : (rows : List Row) (port : Option ℕ) (state : Option (Bor Text)) (before other : Option Text)
    → IsPortAsked (codes "listen") rows None before → text_at (codes "state") rows ≡ None
    → IsPortAsked (codes "listen") rows port other
    → text_at (codes "state") rows ≡ option_map (λ text. text.now) state
    → (is_some port ≡ true) ⊎ (is_some state ≡ true) → ⊥
no_use rows (Some n) state before other mine none theirs kept use_it =
    has_text (codes "listen") rows n other theirs (no_port (codes "listen") rows before mine)
no_use rows None (Some file) before other mine none theirs kept use_it = absurd (cc)
no_use rows None None before other mine none theirs kept (inl some) = absurd (cc)
no_use rows None None before other mine none theirs kept (inr some) = absurd (cc)

-- the settings of a plain command: no global option is among them
pub no_globals : (c a b rest : Bool) → (a && (not b && (not c && rest))) ≡ true → c ≡ false
no_globals false a b rest e = refl
no_globals true false b rest e = absurd (cc)
no_globals true true true rest e = absurd (cc)
no_globals true true false rest e = absurd (cc)

-- where the command line takes the words, only memory can have run out
pub refused_by : (words : List Text) (k : ErrorKind) → (takes command_line words ≡ true → k ≡ kind.OutOfMemory)
    → RefusesBy words k
refused_by words k only = by (takes command_line words) refl
  where
    not_taken : (w : ErrorKind) → takes command_line words ≡ false → RefusesBy words w
    not_taken kind.OutOfMemory e = tt
    not_taken kind.ValueValidation e = λ taken asked asks. absurd (cc)
    not_taken w e = e

    by : (b : Bool) → takes command_line words ≡ b → RefusesBy words k
    by true e = subst (RefusesBy words) (sym (only e)) tt
    by false e = not_taken k e

-- words that are refused for another reason than memory ask in vain
in_vain : (words : List Text) (k : ErrorKind) → RefusesBy words k → k ≢ kind.OutOfMemory → AskInVain words
in_vain words kind.OutOfMemory by other = absurd (other refl)
in_vain words kind.ValueValidation by other = by
in_vain words k by other = λ taken asked asks. absurd (cc)

-- what is replied with help or the version, was not taken
pub asks_nothing : (words : List Text) (k : ErrorKind) (r : NoCommand) → RefusesBy words k → RepliesBy k r
    → AsksNothing words r
asks_nothing words k reply.Memory by r = tt
asks_nothing words k (reply.Refused text) by r = in_vain words k by r
asks_nothing words k (reply.Shown text) by (inl e) = subst (RefusesBy words) e by
asks_nothing words k (reply.Shown text) by (inr e) = subst (RefusesBy words) e by

-- ---- `live`

true_is_not_false : true ≡ false → ⊥
true_is_not_false e = absurd (cc)

-- a command with an option that has a rule on another one takes no words
tied_takes_none : (s : Shape) (words : List Text) → list_all (λ r. r.is_free) s.rules ≡ false
    → level_passes s [] nothing_held words false ≡ true → ⊥
tied_takes_none s words tied passes =
    let end = (walk s.rules [] nothing_held words).held in
    let rows = finished s.rules end in
    let free = sixth (walk_passes s [] (walk_from nothing_held) words) (settle_passes s.rules s.args_override_self end)
    (list_all default_passes s.rules)
    (not s.arg_required_else_help || (false || list_any (λ r. explicit_source r.source) rows))
    (not s.subcommand_required || false)
    (list_all (λ r. r.is_free) s.rules) ((s.subcommand_negates_reqs && false) || list_all
    (λ r. not r.required || is_given r.id rows) s.rules) passes in
    true_is_not_false (sym free ∙ tied)

-- whether a command is not `live`, or has such an option
abbrev is_tied_live : Shape → Bool
is_tied_live s = not (bytes_eq s.name (codes "live") && list_all (λ r. r.is_free) s.rules)

live_is_tied : list_all is_tied_live (built command_line).subs ≡ true
unfolding clap_on_literals
live_is_tied = refl

-- what a search finds in a list of which each passes a test, passes it
first_passes : {X : Type 0} (p q : X → Bool) (y : X) (ys : List X) (x : X) (b : Bool) → q y ≡ b → p y ≡ true
    → (find q ys ≡ Some x → p x ≡ true)
    → find q (y ∷ ys) ≡ Some x → p x ≡ true
first_passes p q y ys x true is first later found =
    let same : Some y ≡ Some x = sym (ap (λ b. if b then Some y else find q ys) is) ∙ found in
    let at : y ≡ x = cc in subst (λ z. p z ≡ true) at first
first_passes p q y ys x false is first later found = later (sym (ap (λ b. if b then Some y else find q ys) is) ∙ found)

found_passes : {X : Type 0} (p q : X → Bool) (xs : List X) (x : X) → list_all p xs ≡ true → find q xs ≡ Some x
    → p x ≡ true
found_passes p q [] x all found = absurd (cc)
found_passes p q (y ∷ ys) x all found =
    let both = both_true (p y) (list_all p ys) all in
    first_passes p q y ys x (q y) refl both.0 (found_passes p q ys x both.1) found

is_not_free : (s : Shape) → s.name ≡ codes "live" → is_tied_live s ≡ true → list_all (λ r. r.is_free) s.rules ≡ false
is_not_free s name tied =
    let named : bytes_eq s.name (codes "live") ≡ true = (bytes_eq-Decides s.name (codes "live")).1 name in
    not_both _ _ named tied
  where
    not_both : (a b : Bool) → a ≡ true → not (a && b) ≡ true → b ≡ false
    not_both true true e h = absurd (cc)
    not_both true false e h = refl
    not_both false b e h = absurd (cc)

entered_live : (a : App) (p : Text × List Text) (r : Option Shape) → find (λ s. answers_to p.0 (label_of s)) a.subs ≡ r
    → list_all is_tied_live a.subs ≡ true
    → option_map (λ q. q.0) (option_map (λ s. rows_at s p.1) r) ≡ Some (codes "live")
    → option_map_or (λ s. level_passes s [] nothing_held p.1 false) r true ≡ true → ⊥
entered_live a p None found tied is passes = absurd (cc)
entered_live a p (Some s) found tied is passes =
    let name : s.name ≡ codes "live" = cc in
    tied_takes_none s p.1 (is_not_free s name (found_passes is_tied_live _ a.subs s tied found)) passes

stopped_live : (a : App) (stop : Option (Text × List Text)) → list_all is_tied_live a.subs ≡ true
    → option_map (λ p. p.0) (entered a stop) ≡ Some (codes "live") → entered_passes a stop ≡ true → ⊥
stopped_live a None tied is passes = absurd (cc)
stopped_live a (Some p) tied is passes =
    entered_live a p (find (λ s. answers_to p.0 (label_of s)) a.subs) refl tied is passes

-- clap does not say of words of `live` that they are taken
pub live_is_not_taken : (words : List Text)
    → option_map (λ p. p.0) (subcommand_of command_line words) ≡ Some (codes "live")
    → ¬ (takes command_line words ≡ true)
live_is_not_taken words is taken =
    let line = built command_line in
    let arguments = argument_words command_line words in
    let stop = stop_after line.top.rules (names_of line) arguments in
    let built_takes_them = (both_true (is_simple command_line) (built_takes line nothing_held arguments) taken).1 in
    stopped_live line stop live_is_tied is
    (both_true (entered_passes line stop)
    (level_passes line.top (names_of line) nothing_held arguments (is_some (entered line stop))) built_takes_them).0
