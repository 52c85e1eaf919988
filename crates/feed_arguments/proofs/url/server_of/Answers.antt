use Rattle.std.proofs.Common.{rules, ◌≡◌, refl, sym, ap, ◌∙◌, List, ℕ, true, false}
use Rattle.feed_arguments.proofs.UrlLemmas.{no_server}
use Rattle.feed_arguments.proofs.url.server_of.Goals as goal

pub returns-else-is_url_host-2-clause-none : goal.returns-else-is_url_host-2-clause-none
returns-else-is_url_host-2-clause-none c =
    λ _ host port is. no_server c.args.text.now c.in_ok-host.host.now c.in_ok-host.port host port
    c.in_ok-host.ensures.some (sym c.is_url_host.ensures ∙ c.if-is_url_host.false)
    (sym c.is_url_host-2.ensures ∙ c.if-is_url_host-2.false) is
