use Rattle.std.proofs.Common.{rules, refl}
use Rattle.feed_arguments.proofs.UrlLemmas.{refuses_server}
use Rattle.feed_arguments.proofs.url.feed_url.Goals as goal

pub returns-in_default-clause-err : goal.returns-in_default-clause-err
returns-in_default-clause-err c =
    refuses_server c.args.text.now c.in_ok-server.server.now c.in_ok-server.path.now c.fault_of_server.result
    c.in_ok-server.ensures.ok (c.server_of.ensures.none (search rules)) c.fault_of_server.ensures

pub returns-in-None-clause-err : goal.returns-in-None-clause-err
returns-in-None-clause-err c =
    (c.in_ok-server.server.now, c.in_ok-server.path.now, c.in_ok-server.ensures.ok, c.in-None.ensures.none refl)
