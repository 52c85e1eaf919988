use Rattle.std.proofs.Common.{rules, ◌≡◌, List, ℕ, Option, None, Some}
use Rattle.clap.specs.Words.{Row}
use Rattle.feed_arguments.proofs.UrlLemmas.{no_url}
use Rattle.feed_arguments.specs.FeedUrl.{RefusesUrl}
use Rattle.feed_arguments.specs.Live.{IsOfUrl}
use Rattle.feed_arguments.specs.declared.request.UpstreamOptions.{UpstreamOptions}
use Rattle.feed_arguments.specs.declared.url.UrlFault.{UrlFault}
use Rattle.feed_arguments.proofs.words.followed.followed_by_url.Goals as goal

none_of : (rows : List Row) (text name : List ℕ) (fault : UrlFault) (upstream : Option UpstreamOptions)
    → RefusesUrl text fault → IsOfUrl rows text name upstream → ⊥
none_of rows text name fault None why is = is
none_of rows text name fault (Some upstream) why is = no_url text fault is.url why is.url_is

pub returns-in_default-clause-none : goal.returns-in_default-clause-none
returns-in_default-clause-none c =
    λ _ name upstream is. none_of _ c.args.url.now name c.in_default.field-0 upstream c.in_default.ensures.err is
