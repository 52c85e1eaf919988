use Rattle.std.proofs.Common.{subst, inl, inr, List, ℕ, map, string_bytes}
use Rattle.std.proofs.lemmas.Result.{err_from_is_err_and}
use Rattle.feed_commands.specs.Pull.{RefusesOneOf}
use Rattle.feed_commands.proofs.commands.pull.servers_of.Goals as goal

pub returns-in_err-further-clause-err : goal.returns-in_err-further-clause-err
returns-in_err-further-clause-err c =
    let p = err_from_is_err_and c.from_residual-in_err-further.result c.from_residual-in_err-further.ensures.1 in
    let first = c.in_ok-push_server.ensures.made in
    rw (p.1, p.2) (inr (first.0, first.1, inl c.in_err-further.ensures.err))

pub returns-in_err-push_servers-clause-err : goal.returns-in_err-push_servers-clause-err
returns-in_err-push_servers-clause-err c =
    let p = err_from_is_err_and c.from_residual-in_err-push_servers.result c.from_residual-in_err-push_servers.ensures.1 in
    let first = c.in_ok-push_server.ensures.made in
    rw (p.1, p.2) (inr (
      first.0,
      first.1,
      inr (
        _,
        c.in_ok-further.ensures.ok,
        subst (λ l. RefusesOneOf c.args.upstream.now c.args.contest.now (map {B = List ℕ × ℕ} (λ a. (string_bytes a.0, a.1)) l) c.in_err-push_servers.field-0.0) c.deref.ensures.value c.in_err-push_servers.ensures.err,
      ),
    ))
