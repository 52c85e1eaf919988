use Rattle.std.proofs.Common.{ap, sym, subst, ◌∙◌, ◌<◌, ◌++◌, ◌∷◌, [], List, ℕ, length, map, string_bytes, arith}
use Rattle.std.proofs.lemmas.List.{length-map}
use Rattle.std.proofs.lemmas.Result.{err_from_is_err_and}
use Rattle.feed_commands.specs.Pull.{asked_at, server_asked, RefusesServer}
use Rattle.feed_commands.proofs.MappedLemmas.{mapped_at, more_mapped}
use Rattle.feed_commands.proofs.commands.pull.push_servers.Goals as goal

pub returns-in_err-push_server-clause-err : goal.returns-in_err-push_server-clause-err
returns-in_err-push_server-clause-err c =
    let p = err_from_is_err_and c.from_residual.result c.from_residual.ensures.1 in
    let lt : c.addresses.host-index < length c.args.addresses.now = c.addresses-test.true in
    let x = c.addresses-item.result in
    rw (p.1, p.2) (
      (string_bytes x.0, x.1),
      (
        c.addresses.host-index,
        omega (arith, lt, length-map {B = List ℕ × ℕ} c.args.addresses.now (λ a. (string_bytes a.0, a.1))),
        mapped_at _ c.args.addresses.now c.addresses.host-index _ x lt (sym c.addresses-item.is) _,
      ),
      subst (λ h. RefusesServer c.args.upstream.now c.args.contest.now (h, x.1) c.in_err-push_server.field-0.0) c.as_str.ensures.value c.in_err-push_server.ensures.err,
    )

pub addresses-preserved : goal.addresses-preserved
addresses-preserved c =
    let lt : c.addresses.host-index < length c.args.addresses.now = c.addresses-test.true in
    let x = c.addresses-item.result in
    more_mapped _ c.args.addresses.now c.addresses.host-index _ x lt (sym c.addresses-item.is) (asked_at c.args.upstream.now c.args.contest.now c.args.identity.now) _ _ _ c.addresses.invariant
    (c.in_ok-push_server.ensures.ok ∙ ap (λ h. map server_asked c.addresses.servers.items ++ asked_at c.args.upstream.now c.args.contest.now c.args.identity.now (h, x.1) ∷ []) c.as_str.ensures.value)
