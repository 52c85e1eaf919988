-- What the lines of a script say.
use Rattle.std.specs.Prelude.{ℕ, zero, suc, ◌+◌, Bool, List, [], ◌∷◌, length, Option, Some, None, option_map, unwrap_or, slice_get, if◌then◌else◌, ◌==◌, ◌&&◌, nat_le, codes}
use Rattle.std.specs.Option.{option_and_then}
use Rattle.std.specs.Char.{is_ascii_digit}
use Rattle.std.specs.List.{list_all}
use Rattle.std.specs.Str.{bytes_eq}
use Rattle.std.specs.Str.Parse.{digits_value}
use Rattle.feed_settings.specs.declared.framing.Framing.{Framing}
use Rattle.feed_settings.specs.declared.framing.Framing.TheVariants.{Close, Chunked}
use Rattle.feed_text.specs.Ascii.{space}
use Rattle.feed_note.specs.Lines.{onto_first}
use Rattle.feed_world.specs.declared.event.Event.{Event}
use Rattle.feed_world.specs.declared.event.Event.TheVariants as event
use Rattle.feed_play.specs.declared.script.Action.{Action}
use Rattle.feed_play.specs.declared.script.Action.TheVariants as action

abbrev pub is_space : ℕ → Bool
is_space b = b == space

-- the words of a line: what stands before, between and behind its spaces
unfoldable pub words : List ℕ → List (List ℕ)
words [] = [] ∷ []
words (b ∷ bs) = if is_space b then [] ∷ words bs else onto_first b (words bs)

-- 1 to 9 decimal digits
abbrev pub is_script_number : List ℕ → Bool
is_script_number word =
    nat_le 1 (length word) && nat_le (length word) 9 && list_all is_ascii_digit word

-- the number that a word says
abbrev pub script_number : List ℕ → Option ℕ
script_number word = if is_script_number word then Some (digits_value 10 word) else None

abbrev pub onto_numbers : ℕ → Option (List ℕ) → Option (List ℕ)
onto_numbers n numbers = option_map (λ ns. n ∷ ns) numbers

-- the numbers that the words say, where each of them says one
abbrev pub numbers_in : List (List ℕ) → Option (List ℕ)
numbers_in [] = Some []
numbers_in (word ∷ more) =
    option_and_then (λ n. onto_numbers n (numbers_in more)) (script_number word)

-- ---- a line is a name with numbers behind it

abbrev pub one_of : List ℕ → Option ℕ
one_of (i ∷ []) = Some i
one_of numbers = None

abbrev pub two_of : List ℕ → Option (ℕ × ℕ)
two_of (i ∷ n ∷ []) = Some (i, n)
two_of numbers = None

abbrev pub three_of : List ℕ → Option (ℕ × ℕ × ℕ)
three_of (i ∷ j ∷ n ∷ []) = Some (i, j, n)
three_of numbers = None

-- an event of one number, and of two
abbrev pub event_of_one : (ℕ → Event) → List ℕ → Option Action
event_of_one event_of numbers = option_map (λ i. action.Event (event_of i)) (one_of numbers)

abbrev pub event_of_two : (ℕ → ℕ → Event) → List ℕ → Option Action
event_of_two event_of numbers = option_map (λ p. action.Event (event_of p.0 p.1)) (two_of numbers)

-- ---- what a connect asks for; without a number for that nothing is to be sent again

-- the node listed for the mirror of this number; the primary, where none is
abbrev pub listed_for : List ℕ → ℕ → ℕ
listed_for upstreams zero = 0
listed_for upstreams (suc i) = unwrap_or (slice_get upstreams i) 0

-- the mirror connects to the node listed for it
abbrev pub connect_listed : List ℕ → List ℕ → Option Action
connect_listed upstreams (i ∷ []) =
    Some (action.Event (event.Connect i (listed_for upstreams i) 0))
connect_listed upstreams (i ∷ back ∷ []) =
    Some (action.Event (event.Connect i (listed_for upstreams i) back))
connect_listed upstreams numbers = None

-- the mirror connects to the node that is named behind it
abbrev pub connect_named : List ℕ → Option Action
connect_named (i ∷ j ∷ []) = Some (action.Event (event.Connect i j 0))
connect_named (i ∷ j ∷ back ∷ []) = Some (action.Event (event.Connect i j back))
connect_named numbers = None

-- the nodes that mirrors connect to are listed, or a connect names its own
abbrev pub connect_of : Option (List ℕ) → List ℕ → Option Action
connect_of (Some upstreams) numbers = connect_listed upstreams numbers
connect_of None numbers = connect_named numbers

-- ---- what a line asks for

-- what another name asks for, with these numbers
abbrev pub other_by : List ℕ → List ℕ → Option Action
other_by name numbers =
    if bytes_eq name (codes "commit") then option_map action.Commit (one_of numbers)
    else (if bytes_eq name (codes "serve") then event_of_one event.Serve numbers
    else (if bytes_eq name (codes "idle") then event_of_one event.Idle numbers
    else (if bytes_eq name (codes "deliver") then event_of_two event.Deliver numbers
    else (if bytes_eq name (codes "cut") then event_of_one event.Cut numbers
    else (if bytes_eq name (codes "save") then event_of_one event.Save numbers
    else (if bytes_eq name (codes "restart") then event_of_two event.Restart numbers
    else (if bytes_eq name (codes "show") then option_map action.Show (one_of numbers)
    else None)))))))

-- what the first line says of the world: how many commits a node keeps, how many changes may wait
-- for a token, how many nodes there are, and how the bodies of responses are framed; and the node
-- that each mirror connects to, where they are listed
pub record AskedWorld : Type 0 where
  pub history : ℕ
  pub staged : ℕ
  pub nodes : ℕ
  pub framing : Framing
  pub upstreams : Option (List ℕ)

-- what a name asks for, with these numbers
abbrev pub asked_by : AskedWorld → List ℕ → List ℕ → Option Action
asked_by asked name numbers =
    if bytes_eq name (codes "connect") then connect_of asked.upstreams numbers
    else other_by name numbers

abbrev pub asked_in : AskedWorld → List (List ℕ) → Option Action
asked_in asked [] = None
asked_in asked (name ∷ more) = option_and_then (asked_by asked name) (numbers_in more)

-- what a line asks for that is not the first
abbrev pub action_in : AskedWorld → List ℕ → Option Action
action_in asked line = asked_in asked (words line)

-- ---- the first line

-- the numbers of a world in which the nodes that mirrors connect to are listed
abbrev pub world_of : Framing → List ℕ → Option AskedWorld
world_of framing (history ∷ staged ∷ upstreams) =
    Some (record {
      history = history;
      staged = staged;
      nodes = length upstreams + 1;
      framing = framing;
      upstreams = Some upstreams;
    })
world_of framing numbers = None

-- the numbers of one in which a connect names the node
abbrev pub nodes_of : Framing → List ℕ → Option AskedWorld
nodes_of framing (history ∷ staged ∷ nodes ∷ []) =
    Some (record {
      history = history;
      staged = staged;
      nodes = nodes;
      framing = framing;
      upstreams = None;
    })
nodes_of framing numbers = None

-- how the bodies of responses are framed, by its word
abbrev pub framing_in : List ℕ → Option Framing
framing_in word =
    if bytes_eq word (codes "close") then Some Close
    else (if bytes_eq word (codes "chunked") then Some Chunked else None)

abbrev pub nodes_framed : List (List ℕ) → Framing → Option AskedWorld
nodes_framed numbers framing = option_and_then (nodes_of framing) (numbers_in numbers)

-- three numbers, and how bodies are framed
abbrev pub nodes_in : List (List ℕ) → Option AskedWorld
nodes_in (history ∷ staged ∷ nodes ∷ framing ∷ []) =
    option_and_then (nodes_framed (history ∷ staged ∷ nodes ∷ [])) (framing_in framing)
nodes_in more = None

abbrev pub world_in : List (List ℕ) → Option AskedWorld
world_in [] = None
world_in (name ∷ more) =
    if bytes_eq name (codes "world") then option_and_then (world_of Close) (numbers_in more)
    else (if bytes_eq name (codes "chunked")
    then option_and_then (world_of Chunked) (numbers_in more)
    else (if bytes_eq name (codes "nodes") then nodes_in more else None))

-- what a first line says
abbrev pub shape_in : List ℕ → Option AskedWorld
shape_in line = world_in (words line)
