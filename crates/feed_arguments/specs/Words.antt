-- What the words of a command line ask for. Which of them name a command, and which are the values
-- of its options, is as the crate clap reads them (`subcommand_of`), for the command line defined
-- here.
use Rattle.std.specs.Prelude.{◌≡◌, ◌≢◌, ◌⊎◌, List, [], ◌∷◌, Option, None, Some, codes, option_map, true, false}
use Rattle.clap.specs.Simple.{on_top}
use Rattle.clap.specs.Words.{App, Row, Rule, Text, new_app, subcommand_of, takes, with_subcommand}
use Rattle.feed_settings.specs.Limits.{most_commits}
use Rattle.feed_arguments.specs.Addresses.{most_port}
use Rattle.feed_arguments.specs.Live.{live, AsksLive}
use Rattle.feed_arguments.specs.Options.{most_rounds, most_silence, at, stream, verbose, primary, screen, of, against, compared_contest, for_seconds, json, port, listen, contest, count, turn, chunked, back, host, from, base, host_header, user_file, reads, silence, resume, limits, with_rules}
use Rattle.feed_arguments.specs.Options.{text_at, SaysNumber, IsNumberUpTo, IsNumberIfGiven, IsGiven, IsFramed, AsksLimits}
use Rattle.feed_arguments.specs.Probe.{probe, AsksProbe}
use Rattle.feed_arguments.specs.Recording.{at_time, times, record_command, replay_command, AsksAtTime, AsksNoTime, AsksRecord, AsksReplay}
use Rattle.feed_arguments.specs.Upstream.{AsksUpstream}
use Rattle.feed_arguments.specs.declared.request.Local.TheVariants as local
use Rattle.clap.specs.declared.error.kind.ErrorKind.{ErrorKind}
use Rattle.clap.specs.declared.error.kind.ErrorKind.TheVariants as kind
use Rattle.feed_arguments.specs.declared.request.NoCommand.{NoCommand}
use Rattle.feed_arguments.specs.declared.request.NoCommand.TheVariants as reply
use Rattle.feed_arguments.specs.declared.request.Request.{Request}
use Rattle.feed_arguments.specs.declared.request.Request.TheVariants as request
use Rattle.feed_arguments.specs.declared.request.TablesOptions.{TablesOptions}
use Rattle.feed_arguments.specs.declared.request.CheckOptions.{CheckOptions}
use Rattle.feed_arguments.specs.declared.request.AuditOptions.{AuditOptions}
use Rattle.feed_arguments.specs.declared.request.CompareOptions.{CompareOptions}
use Rattle.feed_arguments.specs.declared.request.ServeOptions.{ServeOptions}
use Rattle.feed_arguments.specs.declared.request.PullOptions.{PullOptions}
use Rattle.feed_arguments.specs.declared.request.RelayOptions.{RelayOptions}

-- ---- the command line

-- the options that say what is followed
abbrev pub place : List Rule
place = host ∷ port ∷ from ∷ contest ∷ []

-- those that say as whom, and how far
abbrev pub followed : List Rule
followed = base ∷ host_header ∷ user_file ∷ reads ∷ silence ∷ []

-- a command with the options of `pull`
abbrev pub with_pull : App → App
with_pull command =
    with_rules (with_rules (with_rules (with_rules command place) followed) (resume ∷ verbose ∷ []))
    limits

-- the options that say what `serve` serves
abbrev pub served : List Rule
served = port ∷ contest ∷ count ∷ turn ∷ chunked ∷ back ∷ []

-- those that say which records are compared
abbrev pub audited : List Rule
audited = primary ∷ screen ∷ []

-- those that say which servers are compared
abbrev pub compared : List Rule
compared = of ∷ against ∷ compared_contest ∷ for_seconds ∷ []

abbrev pub tables : App
tables =
    with_rules (with_rules (new_app (codes "tables")) limits) (at ∷ at_time ∷ times ∷ verbose ∷ [])

abbrev pub check : App
check = with_rules (new_app (codes "check")) (stream ∷ verbose ∷ [])

abbrev pub audit : App
audit =
    with_rules (with_rules (with_rules (with_rules (new_app (codes "audit")) audited) compared)
    (json ∷ verbose ∷ [])) limits

abbrev pub play : App
play = new_app (codes "play")

abbrev pub serve : App
serve = with_rules (with_rules (with_rules (new_app (codes "serve")) served) (verbose ∷ [])) limits

abbrev pub pull : App
pull = with_pull (new_app (codes "pull"))

abbrev pub relay : App
relay = with_rules (with_pull (new_app (codes "relay"))) (listen ∷ count ∷ chunked ∷ [])

-- the program's name, with a version; one of the commands must follow
abbrev pub program : App
program =
    on_top (λ s. record s { has_version = true; subcommand_required = true })
    (new_app (codes "tunygarop"))

-- the program, with the commands that open no connection
abbrev pub local_program : App
local_program =
    with_subcommand
    (with_subcommand (with_subcommand (with_subcommand program tables.top) check.top) audit.top)
    play.top

-- the program, with those and the commands for trying
abbrev pub program_for_trying : App
program_for_trying =
    with_subcommand (with_subcommand (with_subcommand local_program serve.top) pull.top) relay.top

-- the program, with the command that looks at a server
abbrev pub program_for_looking : App
program_for_looking = with_subcommand program_for_trying probe.top

-- the program, with those and the commands for records
abbrev pub program_for_records : App
program_for_records =
    with_subcommand (with_subcommand program_for_looking record_command.top) replay_command.top

abbrev pub command_line : App
command_line = with_subcommand program_for_records live.top

-- ---- what words ask for

-- the values of the options of `tables`
pub record AsksTables (rows : List Row) (options : TablesOptions) : Type 0 where
  pub untimed : AsksNoTime rows
  pub at_is : text_at (codes "at") rows ≡ option_map (λ text. text.now) options.at
  pub limits_are : AsksLimits rows options.limits
  pub verbose_is : IsGiven (codes "verbose") rows options.verbose

-- the values of the options of `check`
pub record AsksCheck (rows : List Row) (options : CheckOptions) : Type 0 where
  pub stream_is : IsGiven (codes "stream") rows options.stream
  pub verbose_is : IsGiven (codes "verbose") rows options.verbose

-- no option says which servers are compared
pub record ComparesNone (rows : List Row) : Type 0 where
  pub of_is : text_at (codes "of") rows ≡ None
  pub against_is : text_at (codes "against") rows ≡ None
  pub contest_is : text_at (codes "contest") rows ≡ None
  pub seconds_are : text_at (codes "for") rows ≡ None

-- a record of this name is on standard input, as one without a name is
abbrev pub IsOnInput : Option Text → Type 0
IsOnInput None = Unit {0}
IsOnInput (Some name) = name ≡ codes "-"

-- both are
abbrev pub AreOnInput : Option Text → Option Text → Type 0
AreOnInput primary screen = IsOnInput primary × IsOnInput screen

-- the values of the options of `audit` that compares records, one of which at most is on standard
-- input
pub record AsksAudit (rows : List Row) (options : AuditOptions) : Type 0 where
  pub alone : ComparesNone rows
  pub primary_is : text_at (codes "primary") rows ≡ Some options.primary.now
  pub screen_is : text_at (codes "screen") rows ≡ option_map (λ text. text.now) options.screen
  pub apart : ¬ (AreOnInput (text_at (codes "primary") rows) (text_at (codes "screen") rows))
  pub json_is : IsGiven (codes "json") rows options.json
  pub verbose_is : IsGiven (codes "verbose") rows options.verbose
  pub limits_are : AsksLimits rows options.limits

-- the values of the options of `audit` that compares two servers
pub record AsksCompare (rows : List Row) (options : CompareOptions) : Type 0 where
  pub no_primary : text_at (codes "primary") rows ≡ None
  pub no_screen : text_at (codes "screen") rows ≡ None
  pub of_is : text_at (codes "of") rows ≡ Some options.of.now
  pub against_is : text_at (codes "against") rows ≡ Some options.against.now
  pub contest_is : text_at (codes "contest") rows ≡ Some options.contest.now
  pub seconds_are : IsNumberIfGiven (codes "for") most_rounds rows options.seconds
  pub json_is : IsGiven (codes "json") rows options.json
  pub verbose_is : IsGiven (codes "verbose") rows options.verbose
  pub limits_are : AsksLimits rows options.limits

-- the values of the options of `serve`
pub record AsksServe (rows : List Row) (options : ServeOptions) : Type 0 where
  pub port_is : SaysNumber (codes "port") most_port rows options.port
  pub contest_is : text_at (codes "contest") rows ≡ Some options.contest.now
  pub count_is : SaysNumber (codes "count") most_rounds rows options.count
  pub turn_is : IsNumberIfGiven (codes "turn") most_rounds rows options.turn
  pub back_is : IsNumberUpTo (codes "back") most_commits rows options.back
  pub framing_is : IsFramed rows options.framing
  pub verbose_is : IsGiven (codes "verbose") rows options.verbose
  pub limits_are : AsksLimits rows options.limits

-- the values of the options of `pull`
pub record AsksPull (rows : List Row) (options : PullOptions) : Type 0 where
  pub upstream_is : AsksUpstream rows options.upstream
  pub contest_is : text_at (codes "contest") rows ≡ Some options.contest.now
  pub most_reads_are : SaysNumber (codes "turns") most_rounds rows options.most_reads
  pub silence_is : IsNumberIfGiven (codes "silence") most_silence rows options.silence
  pub resume_is : IsGiven (codes "resume") rows options.resume
  pub verbose_is : IsGiven (codes "verbose") rows options.verbose
  pub limits_are : AsksLimits rows options.limits

-- the values of the options of `relay`
pub record AsksRelay (rows : List Row) (options : RelayOptions) : Type 0 where
  pub pull_is : AsksPull rows options.pull
  pub listen_is : SaysNumber (codes "listen") most_port rows options.listen
  pub count_is : SaysNumber (codes "count") most_rounds rows options.count
  pub framing_is : IsFramed rows options.framing

-- the command of this name, with these values of its options, is what is requested
abbrev pub AsksBy : Text → List Row → Request → Type 0
AsksBy name rows (request.Local (local.Tables options)) =
    (name ≡ codes "tables") × AsksTables rows options
AsksBy name rows (request.Local (local.Check options)) =
    (name ≡ codes "check") × AsksCheck rows options
AsksBy name rows (request.Local local.Play) = name ≡ codes "play"
AsksBy name rows (request.Audit options) = (name ≡ codes "audit") × AsksAudit rows options
AsksBy name rows (request.Compare options) = (name ≡ codes "audit") × AsksCompare rows options
AsksBy name rows (request.Probe options) = (name ≡ codes "probe") × AsksProbe rows options
AsksBy name rows (request.Serve options) = (name ≡ codes "serve") × AsksServe rows options
AsksBy name rows (request.Pull options) = (name ≡ codes "pull") × AsksPull rows options
AsksBy name rows (request.Relay options) = (name ≡ codes "relay") × AsksRelay rows options
AsksBy name rows (request.AtTime options) = (name ≡ codes "tables") × AsksAtTime rows options
AsksBy name rows (request.Record options) = (name ≡ codes "record") × AsksRecord rows options
AsksBy name rows (request.Replay options) = (name ≡ codes "replay") × AsksReplay rows options
AsksBy name rows (request.Live options) = (name ≡ codes "live") × AsksLive rows options

-- the command that was entered asks for this
pub record AsksAt (entered : Option (Text × List Row)) (asked : Request) : Type 0 where
  pub name : Text
  pub rows : List Row
  pub is : entered ≡ Some (name, rows)
  pub by : AsksBy name rows asked

-- the words ask for this
abbrev pub Asks : List Text → Request → Type 0
Asks words asked = AsksAt (subcommand_of command_line words) asked

-- no request is what the words ask for, if the command line takes them
abbrev pub AskInVain : List Text → Type 0
AskInVain words = takes command_line words ≡ true → (asked : Request) → ¬ (Asks words asked)

-- Why words are refused, as the crate clap states it (`takes`): memory ran out, or the command line
-- does not take them, or it takes them and yet they ask for nothing. Of no words of `live` does
-- clap say that they are taken, since options of it have rules on others.
abbrev pub RefusesBy : List Text → ErrorKind → Type 0
RefusesBy words kind.OutOfMemory = Unit {0}
RefusesBy words kind.ValueValidation = AskInVain words
RefusesBy words other = takes command_line words ≡ false

-- what is replied to a refusal of this kind
abbrev pub RepliesBy : ErrorKind → NoCommand → Type 0
RepliesBy why reply.Memory = Unit {0}
RepliesBy why (reply.Shown text) = (why ≡ kind.DisplayHelp) ⊎ (why ≡ kind.DisplayVersion)
RepliesBy why (reply.Refused text) = why ≢ kind.OutOfMemory

-- The words ask for nothing: if they are replied to with help or the version, then the command line
-- does not take them; if they are refused, then it does not take them, or they ask for no request.
abbrev pub AsksNothing : List Text → NoCommand → Type 0
AsksNothing words reply.Memory = Unit {0}
AsksNothing words (reply.Shown text) = takes command_line words ≡ false
AsksNothing words (reply.Refused text) = AskInVain words
