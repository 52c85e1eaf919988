-- The command `probe`, and what its options ask for.
use Rattle.std.specs.Prelude.{◌≡◌, ℕ, List, [], ◌∷◌, Some, codes, option_map}
use Rattle.clap.specs.Words.{App, Row, Rule, new_app}
use Rattle.feed_arguments.specs.Options.{against, host_header, json, needed, number_in, text_alone, user_file, verbose, with_default, with_rules}
use Rattle.feed_arguments.specs.Options.{text_at, SaysNumber, IsGiven}
use Rattle.feed_arguments.specs.declared.request.ProbeOptions.{ProbeOptions}

-- the most seconds that a feed is read for
abbrev pub most_seconds : ℕ
most_seconds = 600

-- the feed, which stands without a name before it
abbrev pub url : Rule
url = needed (text_alone (codes "url"))

abbrev pub seconds : Rule
seconds = with_default (codes "45") (number_in (codes "seconds") most_seconds)

-- the options of `probe`
abbrev pub probed : List Rule
probed = url ∷ against ∷ user_file ∷ host_header ∷ seconds ∷ json ∷ verbose ∷ []

abbrev pub probe : App
probe = with_rules (new_app (codes "probe")) probed

-- the values of the options of `probe`
pub record AsksProbe (rows : List Row) (options : ProbeOptions) : Type 0 where
  pub url_is : text_at (codes "url") rows ≡ Some options.url.now
  pub against_is : text_at (codes "against") rows ≡ option_map (λ text. text.now) options.against
  pub user_file_is :
      text_at (codes "user-file") rows ≡ option_map (λ text. text.now) options.user_file
  pub host_header_is :
      text_at (codes "host-header") rows ≡ option_map (λ text. text.now) options.host_header
  pub seconds_are : SaysNumber (codes "seconds") most_seconds rows options.seconds
  pub json_is : IsGiven (codes "json") rows options.json
  pub verbose_is : IsGiven (codes "verbose") rows options.verbose
