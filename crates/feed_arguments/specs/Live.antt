-- The command `live`: its options, and what they ask for.
use Rattle.std.specs.Prelude.{◌≡◌, ◌≢◌, ◌⊎◌, ℕ, Bool, true, false, List, [], ◌∷◌, Option, Some, None, codes, is_some}
use Rattle.std.specs.Prelude.{option_map, unwrap_or, IsSomeAnd}
use Rattle.clap.specs.Words.{App, Row, Rule, new_app}
use Rattle.feed_settings.specs.Limits.{most_commits}
use Rattle.feed_arguments.specs.Addresses.{most_port}
use Rattle.feed_arguments.specs.FeedUrl.{IsFeedUrl}
use Rattle.feed_arguments.specs.Listening.{IsPortAt}
use Rattle.feed_arguments.specs.Options as options
use Rattle.feed_arguments.specs.Options.{flag, number_in, number_between, text_option, tied, with_default, with_rules, text_at}
use Rattle.feed_arguments.specs.Options.{SaysNumber, IsNumberUpTo, IsNumberIfGiven, IsGiven, IsFramed, AsksLimitsOr}
use Rattle.feed_arguments.specs.Upstream.{AsksUpstream}
use Rattle.feed_arguments.specs.declared.request.LiveOptions.{LiveOptions}
use Rattle.feed_arguments.specs.declared.url.FeedUrl.{FeedUrl}
use Rattle.feed_arguments.specs.declared.request.UpstreamOptions.{UpstreamOptions}
use Rattle.feed_arguments.specs.declared.request.Verbosity.{Verbosity}
use Rattle.feed_arguments.specs.declared.request.Verbosity.TheVariants as verbosity

-- the most screens, seconds of silence, and bytes that a screen may be late, that may be asked for
abbrev pub most_screens : ℕ
most_screens = 10000

-- how many bytes kept commits have at most where memory is not limited
abbrev pub kept_bytes : ℕ
kept_bytes = 268435456

abbrev pub most_idle : ℕ
most_idle = 3600

abbrev pub most_window : ℕ
most_window = 1073741824

-- how many bytes of long texts may wait to be taken by screens
abbrev pub most_pending : ℕ
most_pending = 1099511627776

-- the most milliseconds that a feed which was asked for from the start may be quiet before it is
-- shown
abbrev pub most_settle : ℕ
most_settle = 60000

-- the most seconds without a publication after which another server is asked, and that a request
-- may wait for a server to be heard
abbrev pub most_return : ℕ
most_return = 3600

abbrev pub most_hold : ℕ
most_hold = 3600

-- ---- the command

-- `--contest`, which `--url` stands for
abbrev pub contest : Rule
contest = tied (text_option (codes "contest"))

abbrev pub url : Rule
url = tied (text_option (codes "url"))

abbrev pub host : Rule
host = tied (text_option (codes "host"))

abbrev pub port : Rule
port = tied (number_in (codes "port") most_port)

abbrev pub base : Rule
base = tied options.base

abbrev pub listen : Rule
listen = tied (text_option (codes "listen"))

abbrev pub address : Rule
address = tied (text_option (codes "address"))

abbrev pub allow : Rule
allow = text_option (codes "allow")

abbrev pub per_address : Rule
per_address = number_in (codes "per-address") most_screens

abbrev pub status : Rule
status = text_option (codes "status")

abbrev pub status_address : Rule
status_address = tied (text_option (codes "status-address"))

abbrev pub screens : Rule
screens = with_default (codes "1000") (number_in (codes "screens") most_screens)

abbrev pub idle : Rule
idle = with_default (codes "120") (number_in (codes "idle") most_idle)

abbrev pub window : Rule
window = with_default (codes "1048576") (number_in (codes "window") most_window)

abbrev pub pending : Rule
pending = with_default (codes "67108864") (number_in (codes "pending") most_pending)

abbrev pub state : Rule
state = text_option (codes "state")

abbrev pub new : Rule
new = tied (flag (codes "new"))

abbrev pub settle : Rule
settle = with_default (codes "2000") (number_between (codes "settle") 0 most_settle)

abbrev pub fresh : Rule
fresh = flag (codes "fresh")

abbrev pub serve_broken : Rule
serve_broken = flag (codes "serve-broken")

abbrev pub no_recheck : Rule
no_recheck = flag (codes "no-recheck")

abbrev pub return_after : Rule
return_after = with_default (codes "30") (number_between (codes "return") 0 most_return)

abbrev pub hold : Rule
hold = with_default (codes "10") (number_between (codes "hold") 0 most_hold)

abbrev pub serve_old : Rule
serve_old = tied (flag (codes "serve-old"))

abbrev pub history : Rule
history = with_default (codes "65536") (number_in (codes "history") most_commits)

abbrev pub until_eof : Rule
until_eof = flag (codes "until-eof")

abbrev pub check : Rule
check = flag (codes "check")

abbrev pub verbose : Rule
verbose = tied (flag (codes "verbose"))

abbrev pub quiet : Rule
quiet = flag (codes "quiet")

-- the options that say what is followed, and as whom
abbrev pub upstream : List Rule
upstream =
    contest ∷ url ∷ host ∷ port ∷ base ∷ options.from ∷ options.host_header ∷ options.user_file ∷ []

-- those that say how a feed is asked for, when it is shown, and until when it is followed
abbrev pub settling : List Rule
settling = settle ∷ fresh ∷ serve_broken ∷ no_recheck ∷ return_after ∷ until_eof ∷ []

-- those that say to whom it is served
abbrev pub listener : List Rule
listener = listen ∷ address ∷ screens ∷ allow ∷ per_address ∷ []

-- those that say how it is served
abbrev pub pace : List Rule
pace = idle ∷ window ∷ pending ∷ options.chunked ∷ []

-- those that say what is kept, and when that is served
abbrev pub kept : List Rule
kept = state ∷ new ∷ hold ∷ serve_old ∷ []

-- the limits of the node that is served
abbrev pub limits : List Rule
limits = history ∷ options.staged ∷ options.memory ∷ []

-- those that say where it is watched, and what it reports
abbrev pub watching : List Rule
watching = status ∷ status_address ∷ check ∷ verbose ∷ quiet ∷ []

abbrev pub live : App
live =
    with_rules (with_rules
    (with_rules (with_rules (with_rules (with_rules (with_rules (new_app (codes "live"))
    upstream) settling) listener) pace) kept) limits) watching

-- ---- what its options ask for

-- no option says how a server is asked
pub record AsksNobody (rows : List Row) : Type 0 where
  pub no_from : text_at (codes "from") rows ≡ None
  pub no_host_header : text_at (codes "host-header") rows ≡ None
  pub no_user_file : text_at (codes "user-file") rows ≡ None

-- a server is followed where `--host` is given, and else standard input
abbrev pub IsUpstream : List Row → Option UpstreamOptions → Type 0
IsUpstream rows (Some upstream) = AsksUpstream rows upstream
IsUpstream rows None = (text_at (codes "host") rows ≡ None) × AsksNobody rows

-- the servers of which the first one is at this URL
pub record IsAtUrl (rows : List Row) (url : FeedUrl) (upstream : UpstreamOptions) : Type 0 where
  pub host_is : upstream.host.now ≡ url.host.now
  pub port_is : upstream.port ≡ url.port
  pub base_is : upstream.base.now ≡ url.base.now
  pub from_is : text_at (codes "from") rows ≡ option_map (λ text. text.now) upstream.from
  pub host_header_is :
      text_at (codes "host-header") rows ≡ option_map (λ text. text.now) upstream.host_header
  pub user_file_is :
      text_at (codes "user-file") rows ≡ option_map (λ text. text.now) upstream.user_file

-- a text is such a URL, of this contest
pub record IsByUrl (rows : List Row) (text name : List ℕ) (upstream : UpstreamOptions) : Type 0
  where
    pub url : FeedUrl
    pub url_is : IsFeedUrl text url
    pub name_is : name ≡ url.contest.now
    pub at : IsAtUrl rows url upstream

abbrev pub IsOfUrl : List Row → List ℕ → List ℕ → Option UpstreamOptions → Type 0
IsOfUrl rows text name (Some upstream) = IsByUrl rows text name upstream
IsOfUrl rows text name None = ⊥

-- the feed of this contest is followed, at these servers: as `--url` says where it is given
abbrev pub IsOf : List Row → Option (List ℕ) → List ℕ → Option UpstreamOptions → Type 0
IsOf rows None name upstream =
    (text_at (codes "contest") rows ≡ Some name) × IsUpstream rows upstream
IsOf rows (Some text) name upstream = IsOfUrl rows text name upstream

abbrev pub IsFollowed : List Row → List ℕ → Option UpstreamOptions → Type 0
IsFollowed rows name upstream = IsOf rows (text_at (codes "url") rows) name upstream

-- an option says a port, or an address of this machine and a port
abbrev pub IsPortAsked : List ℕ → List Row → Option ℕ → Option (List ℕ) → Type 0
IsPortAsked name rows port None = IsNumberIfGiven name most_port rows port
IsPortAsked name rows None (Some before) = ⊥
IsPortAsked name rows (Some number) (Some before) =
    IsSomeAnd (text_at name rows) (λ text. IsPortAt text before number)

-- the address that screens come to: the one before the port, or that of its option, and else the
-- machine itself
abbrev pub IsAddressAsked : List Row → Option (List ℕ) → List ℕ → Type 0
IsAddressAsked rows None address =
    address ≡ unwrap_or (text_at (codes "address") rows) (codes "127.0.0.1")
IsAddressAsked rows (Some before) address =
    (address ≡ before) × (text_at (codes "address") rows ≡ None)

-- that of those who watch, if it is given
abbrev pub IsStatusAddress : List Row → Option (List ℕ) → Option (List ℕ) → Type 0
IsStatusAddress rows None address = text_at (codes "status-address") rows ≡ address
IsStatusAddress rows (Some before) address =
    (address ≡ Some before) × (text_at (codes "status-address") rows ≡ None)

-- where screens come to, and those who watch
pub record AsksListener (rows : List Row) (listen : Option ℕ) (address : List ℕ)
    (status : Option ℕ) (status_address : Option (List ℕ)) : Type 0 where
  pub before_listen : Option (List ℕ)
  pub before_status : Option (List ℕ)
  pub listen_is : IsPortAsked (codes "listen") rows listen before_listen
  pub address_is : IsAddressAsked rows before_listen address
  pub status_is : IsPortAsked (codes "status") rows status before_status
  pub status_address_is : IsStatusAddress rows before_status status_address

-- as much is reported as the two options say
abbrev pub is_verbose : Verbosity → Bool
is_verbose verbosity.Verbose = true
is_verbose other = false

abbrev pub is_quiet : Verbosity → Bool
is_quiet verbosity.Quiet = true
is_quiet other = false

-- both of the two options are given that say how much is reported
abbrev pub AreBothGiven : List Row → Type 0
AreBothGiven rows = IsGiven (codes "verbose") rows true × IsGiven (codes "quiet") rows true

-- an option has a text
abbrev pub IsTextGiven : List ℕ → List Row → Type 0
IsTextGiven name rows = text_at name rows ≢ None

-- options that may clash, though each says something: both that say how much is reported; and one
-- that says an address, which may stand before a port, too
abbrev pub MayClash : List Row → Type 0
MayClash rows =
    AreBothGiven rows
    ⊎ (IsTextGiven (codes "address") rows ⊎ IsTextGiven (codes "status-address") rows)

-- the values of the options of `live`
pub record AsksLive (rows : List Row) (options : LiveOptions) : Type 0 where
  pub followed_is : IsFollowed rows options.contest.now options.upstream
  pub listener_is :
      AsksListener rows options.listen options.address.now options.status
      (option_map (λ text. text.now) options.status_address)
  pub allow_is : text_at (codes "allow") rows ≡ option_map (λ text. text.now) options.allow
  pub per_address_is :
      IsNumberIfGiven (codes "per-address") most_screens rows options.per_address
  pub screens_are : SaysNumber (codes "screens") most_screens rows options.screens
  pub idle_is : SaysNumber (codes "idle") most_idle rows options.idle
  pub window_is : SaysNumber (codes "window") most_window rows options.window
  pub pending_is : SaysNumber (codes "pending") most_pending rows options.pending
  pub framing_is : IsFramed rows options.framing
  pub state_is : text_at (codes "state") rows ≡ option_map (λ text. text.now) options.state
  pub new_is : IsGiven (codes "new") rows options.is_new
  pub is_some_use : (is_some options.listen ≡ true) ⊎ (is_some options.state ≡ true)
  pub settle_is : IsNumberUpTo (codes "settle") most_settle rows options.settle
  pub fresh_is : IsGiven (codes "fresh") rows options.fresh
  pub no_recheck_is : IsGiven (codes "no-recheck") rows options.no_recheck
  pub return_is : IsNumberUpTo (codes "return") most_return rows options.return_after
  pub hold_is : IsNumberUpTo (codes "hold") most_hold rows options.hold
  pub serve_old_is : IsGiven (codes "serve-old") rows options.serve_old
  pub serve_broken_is : IsGiven (codes "serve-broken") rows options.serve_broken
  pub until_eof_is : IsGiven (codes "until-eof") rows options.until_eof
  pub check_is : IsGiven (codes "check") rows options.check
  pub verbose_is : IsGiven (codes "verbose") rows (is_verbose options.verbosity)
  pub quiet_is : IsGiven (codes "quiet") rows (is_quiet options.verbosity)
  pub limits_are : AsksLimitsOr (Some kept_bytes) rows options.limits
