-- The call of `live` that a server takes.
use Rattle.std.specs.Prelude.{◌≡◌, ℕ, Bool, true, false, List, [], ◌∷◌, ◌++◌, Option, Some, None, option_map, unwrap_or, codes, decimal, if◌then◌else◌}
use Rattle.feed_arguments.specs.FeedUrl.{IsFeedUrl}
use Rattle.feed_arguments.specs.Words.{Asks}
use Rattle.feed_arguments.specs.declared.request.LiveOptions.{LiveOptions}
use Rattle.feed_arguments.specs.declared.request.Request.TheVariants.{Live}
use Rattle.feed_arguments.specs.declared.request.UpstreamOptions.{UpstreamOptions}
use Rattle.feed_arguments.specs.declared.url.FeedUrl.{FeedUrl}
use Rattle.feed_probe.specs.declared.call.Call.{Call}
use Rattle.feed_probe.specs.declared.needs.Needs.{Needs}

-- ---- its words

-- an option with its value, if it has one
abbrev pub option_words : List ℕ → Option (List ℕ) → List (List ℕ)
option_words name None = []
option_words name (Some value) = name ∷ value ∷ []

-- the options that a server needs
abbrev pub needs_words : Needs → List (List ℕ)
needs_words needs =
    option_words (codes "--settle") (option_map decimal needs.settle)
    ++ (if needs.is_fresh then codes "--fresh" ∷ [] else [])

-- the words of a call
abbrev pub call_words : Call → List (List ℕ)
call_words call =
    codes "tunygarop" ∷ codes "live" ∷ codes "--url" ∷ call.url.now ∷ []
    ++ option_words (codes "--from") (option_map (λ text. text.now) call.further)
    ++ option_words (codes "--host-header") (option_map (λ text. text.now) call.host_header)
    ++ option_words (codes "--user-file") (option_map (λ text. text.now) call.user_file)
    ++ needs_words call.needs
    ++ codes "--listen" ∷ codes "0.0.0.0:8001" ∷ codes "--status" ∷ codes "9001"
    ∷ codes "--state" ∷ call.state.now ∷ []

-- ---- what they ask for

-- the feed that a URL names is what is followed of a contest
pub record IsAt (url : FeedUrl) (contest : List ℕ) (upstream : UpstreamOptions) : Type 0 where
  pub contest_is : url.contest.now ≡ contest
  pub host_is : url.host.now ≡ upstream.host.now
  pub port_is : url.port ≡ upstream.port
  pub base_is : url.base.now ≡ upstream.base.now

-- a text is such a URL
abbrev pub IsNamed : List ℕ → List ℕ → UpstreamOptions → Type 0
IsNamed text contest upstream = (url : FeedUrl) × IsFeedUrl text url × IsAt url contest upstream

-- no option takes from what a relay promises, and none has it do something else
pub record IsUsual (options : LiveOptions) : Type 0 where
  pub no_recheck : options.no_recheck ≡ false
  pub serve_old : options.serve_old ≡ false
  pub serve_broken : options.serve_broken ≡ false
  pub is_new : options.is_new ≡ false
  pub until_eof : options.until_eof ≡ false
  pub check : options.check ≡ false

-- these options of `live` are just those of the call
pub record IsCalled (call : Call) (options : LiveOptions) : Type 0 where
  pub upstream : UpstreamOptions
  pub upstream_is : options.upstream ≡ Some upstream
  pub named : IsNamed call.url.now options.contest.now upstream
  pub from_is :
      option_map (λ text. text.now) upstream.from ≡ option_map (λ text. text.now) call.further
  pub host_header_is :
      option_map (λ text. text.now) upstream.host_header
      ≡ option_map (λ text. text.now) call.host_header
  pub user_file_is :
      option_map (λ text. text.now) upstream.user_file
      ≡ option_map (λ text. text.now) call.user_file
  pub state_is : option_map (λ text. text.now) options.state ≡ Some call.state.now
  pub settle_is : options.settle ≡ unwrap_or call.needs.settle 2000
  pub fresh_is : options.fresh ≡ call.needs.is_fresh
  pub usual : IsUsual options

-- the words ask for `live` with just these
abbrev pub IsAsked : Call → List (List ℕ) → Type 0
IsAsked call words = (options : LiveOptions) × Asks words (Live options) × IsCalled call options
