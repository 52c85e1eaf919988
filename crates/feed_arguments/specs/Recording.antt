-- The commands `record` and `replay`, and `tables` at a time: their options, and what they ask for.
use Rattle.std.specs.Prelude.{◌≡◌, ◌⊎◌, ℕ, List, [], ◌∷◌, Option, Some, None, codes, option_map, unwrap_or}
use Rattle.clap.specs.Words.{App, Row, Rule, Text, new_app}
use Rattle.feed_arguments.specs.Addresses.{most_port}
use Rattle.feed_arguments.specs.Live.{IsFollowed, IsPortAsked}
use Rattle.feed_arguments.specs.Options.{base, compared_contest, contest, flag, host_header, needed, number_in, text_at, text_option, user_file, verbose, with_default, with_rules, AsksLimits, IsGiven, SaysNumber}
use Rattle.feed_arguments.specs.declared.request.RecordOptions.{RecordOptions}
use Rattle.feed_arguments.specs.declared.request.ReplayOptions.{ReplayOptions}
use Rattle.feed_arguments.specs.declared.request.AtTimeOptions.{AtTimeOptions}

-- how many times as fast as it happened a record may be replayed
abbrev pub most_speed : ℕ
most_speed = 1000000

abbrev pub file : Rule
file = needed (text_option (codes "file"))

abbrev pub times : Rule
times = text_option (codes "times")

abbrev pub at_time : Rule
at_time = text_option (codes "at-time")

abbrev pub url : Rule
url = text_option (codes "url")

-- `--host` and `--port`, which `--url` stands for
abbrev pub host : Rule
host = text_option (codes "host")

abbrev pub port : Rule
port = number_in (codes "port") most_port

abbrev pub no_recheck : Rule
no_recheck = flag (codes "no-recheck")

abbrev pub speed : Rule
speed = with_default (codes "1") (number_in (codes "speed") most_speed)

abbrev pub from_time : Rule
from_time = text_option (codes "from")

abbrev pub listen : Rule
listen = needed (text_option (codes "listen"))

-- ---- the commands

abbrev pub record_command : App
record_command =
    with_rules (new_app (codes "record"))
    (url ∷ host ∷ port ∷ base ∷ compared_contest ∷ host_header ∷ user_file ∷ file ∷ no_recheck
    ∷ verbose ∷ [])

abbrev pub replay_command : App
replay_command =
    with_rules (new_app (codes "replay"))
    (file ∷ times ∷ speed ∷ from_time ∷ contest ∷ listen ∷ verbose ∷ [])

-- ---- what their options ask for

-- the values of the options of `record`
pub record AsksRecord (rows : List Row) (options : RecordOptions) : Type 0 where
  pub followed_is : IsFollowed rows options.contest.now (Some options.upstream)
  pub file_is : text_at (codes "file") rows ≡ Some options.file.now
  pub no_recheck_is : IsGiven (codes "no-recheck") rows options.no_recheck
  pub verbose_is : IsGiven (codes "verbose") rows options.verbose

-- where screens come to: at this port, and at the address before it or at the machine itself
pub record IsServedAt (rows : List Row) (port : ℕ) (address : Text) : Type 0 where
  pub before : Option Text
  pub port_is : IsPortAsked (codes "listen") rows (Some port) before
  pub address_is : address ≡ unwrap_or before (codes "127.0.0.1")

-- the values of the options of `replay`
pub record AsksReplay (rows : List Row) (options : ReplayOptions) : Type 0 where
  pub file_is : text_at (codes "file") rows ≡ Some options.file.now
  pub times_are : text_at (codes "times") rows ≡ option_map (λ text. text.now) options.times
  pub speed_is : SaysNumber (codes "speed") most_speed rows options.speed
  pub from_is : text_at (codes "from") rows ≡ option_map (λ text. text.now) options.from
  pub contest_is : text_at (codes "contest") rows ≡ Some options.contest.now
  pub served_is : IsServedAt rows options.listen options.address.now
  pub verbose_is : IsGiven (codes "verbose") rows options.verbose

-- neither a time nor a file of times is given
pub record AsksNoTime (rows : List Row) : Type 0 where
  pub no_time : text_at (codes "at-time") rows ≡ None
  pub no_times : text_at (codes "times") rows ≡ None

-- the values of the options of `tables` at a time
pub record AsksAtTime (rows : List Row) (options : AtTimeOptions) : Type 0 where
  pub no_token : text_at (codes "at") rows ≡ None
  pub time_is : text_at (codes "at-time") rows ≡ Some options.time.now
  pub times_are : text_at (codes "times") rows ≡ Some options.times.now
  pub limits_are : AsksLimits rows options.limits
  pub verbose_is : IsGiven (codes "verbose") rows options.verbose
