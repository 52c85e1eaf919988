-- What the options of commands ask for that follow servers (CLICS Contest API 2023-06, event feed).
use Rattle.std.specs.Prelude.{◌≡◌, List, Some, option_map, codes}
use Rattle.clap.specs.Words.{Row}
use Rattle.feed_arguments.specs.Addresses.{most_port}
use Rattle.feed_arguments.specs.Options.{text_at, SaysNumber}
use Rattle.feed_arguments.specs.declared.request.UpstreamOptions.{UpstreamOptions}

-- the server that is followed first, and those that are asked where it fails
pub record AsksUpstream (rows : List Row) (upstream : UpstreamOptions) : Type 0 where
  pub host_is : text_at (codes "host") rows ≡ Some upstream.host.now
  pub port_is : SaysNumber (codes "port") most_port rows upstream.port
  pub from_is : text_at (codes "from") rows ≡ option_map (λ text. text.now) upstream.from
  pub base_is : text_at (codes "base") rows ≡ Some upstream.base.now
  pub host_header_is :
      text_at (codes "host-header") rows ≡ option_map (λ text. text.now) upstream.host_header
  pub user_file_is :
      text_at (codes "user-file") rows ≡ option_map (λ text. text.now) upstream.user_file
