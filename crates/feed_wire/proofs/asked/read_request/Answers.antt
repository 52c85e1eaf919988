use Rattle.std.proofs.Common.{◌≡◌, rules, Bool, drop, true, false, sym, ap, ◌∙◌, subst}
use Rattle.std.specs.Prelude.{slice_index}
use Rattle.std.proofs.lemmas.Result.{IfOk-weaker}
use Rattle.http_uri.specs.Uri.{Spells, uri_scheme, uri_authority, uri_data}
use Rattle.feed_wire.specs.Asked.{Asks}
use Rattle.feed_wire.specs.AskedFor.{asked_of, AsksBy}
use Rattle.feed_wire.proofs.AskedLemmas.{no_request, asks_by}
use Rattle.feed_wire.proofs.asked.read_request.Goals as goal

pub returns-then-not-begins_with_slash : goal.returns-then-not-begins_with_slash
returns-then-not-begins_with_slash c =
    let (head, at, size) = c.in-Some.ensures.found in
    let text : c.of-target.result.now ≡ head.target = c.of-target.ensures ∙ at.path in
    no_request c.args.bytes.now head (drop c.in-Some.head.len c.args.bytes.now)
    (record { reads = at.reads; size = size })
    (λ target is_path spells. let yes : c.begins_with_slash.result ≡ true =
    c.begins_with_slash.ensures.1 (ap (λ t. slice_index t 0) text ∙ is_path) in cc)

pub returns-in-Err-Invalid : goal.returns-in-Err-Invalid
returns-in-Err-Invalid c =
    let (head, at, size) = c.in-Some.ensures.found in
    let text : c.of-target.result.now ≡ head.target = c.of-target.ensures ∙ at.path in
    let none = rw c.in-Err-Invalid.field-0-is at c.in-Err-Invalid.ensures in
    no_request c.args.bytes.now head (drop c.in-Some.head.len c.args.bytes.now)
    (record { reads = at.reads; size = size })
    (λ target is_path spells. none.err (λ same. let f : ◌≡◌ {A = Bool} false true = same in cc)
    (uri_scheme target) (uri_authority target) (uri_data target)
    (subst (λ t. Spells t target) (sym text) spells))

pub returns-in-Ok : goal.returns-in-Ok
returns-in-Ok c =
    let (head, at, size) = c.in-Some.ensures.found in
    let bytes = c.args.bytes.now in
    let contest = c.args.contest.now in
    let text : c.of-target.result.now ≡ head.target = c.of-target.ensures ∙ at.path in
    let method : c.of-method.result.now ≡ head.method = c.of-method.ensures ∙ at.method in
    let slash : slice_index c.of-target.result.now 0 ≡ 47 = c.begins_with_slash.ensures.0
    (search rules) in
    IfOk-weaker c.asked_by.result
    (λ asked. AsksBy c.of-method.result.now c.in-Ok.uri c.in-Some.head.version contest
    (asked_of asked)) (λ asked. Asks bytes contest (asked_of asked))
    (λ asked by. asks_by bytes contest c.of-method.result.now c.of-target.result.now head
    (drop c.in-Some.head.len bytes) c.in-Some.head.version c.in-Ok.uri (asked_of asked)
    (record { reads = at.reads; size = size }) text slash c.in-Ok.ensures.ok method at.version by)
    c.asked_by.ensures
