use Rattle.std.proofs.Common.{◌∙◌, ◌+◌, refl, sym, ap, Bool, []}
use Rattle.std.specs.Prelude.{Result, map}
use Rattle.std.proofs.lemmas.Result.{err_from_is_err_and}
use Rattle.httparse.specs.Borrowed.{header_parts}
use Rattle.feed_follow.specs.declared.fault.FollowFault.{FollowFault}
use Rattle.feed_follow.proofs.CodingLemmas.{and_then, by_codings, rest_of, no_rest, more_coding, framing_is, framed_by}
use Rattle.feed_follow.proofs.coding.body_framing.Goals as goal

pub fields-init : goal.fields-init
fields-init c = refl

pub fields-preserved : goal.fields-preserved
fields-preserved c =
    let fields = c.args.fields.now in
    let i = c.fields.field-index in
    c.fields.invariant ∙ more_coding fields i _ c.fields.is_chunked c.as_bytes.result.now
    c.fields-test.true c.as_bytes.ensures.value
    ∙ ap (λ (r : Result Bool FollowFault). and_then r
    (λ next. by_codings next (rest_of fields (i + 1)))) (sym c.in_ok-is_chunked.ensures.value)

pub returns-in_err-is_chunked-clause-value : goal.returns-in_err-is_chunked-clause-value
returns-in_err-is_chunked-clause-value c =
    let p = err_from_is_err_and c.from_residual.result c.from_residual.ensures.1 in
    let fields = c.args.fields.now in
    let i = c.fields.field-index in
    rw (p.1, p.2)
    (sym (framing_is (map header_parts fields)
    ∙ ap (λ (r : Result Bool FollowFault). and_then r (framed_by (map header_parts fields)))
    (c.fields.invariant ∙ more_coding fields i _ c.fields.is_chunked c.as_bytes.result.now
    c.fields-test.true c.as_bytes.ensures.value
    ∙ ap (λ (r : Result Bool FollowFault). and_then r
    (λ next. by_codings next (rest_of fields (i + 1))))
    (sym c.in_err-is_chunked.ensures.value))))

pub returns-then-is_chunked-clause-value : goal.returns-then-is_chunked-clause-value
returns-then-is_chunked-clause-value c =
    let fields = c.args.fields.now in
    sym (framing_is (map header_parts fields)
    ∙ ap (λ (r : Result Bool FollowFault). and_then r (framed_by (map header_parts fields)))
    (c.fields.invariant ∙ ap (by_codings c.fields.is_chunked)
    (no_rest fields c.fields.field-index c.fields-test.false)
    ∙ ap (λ (b : Bool). by_codings b []) c.if-is_chunked.true))

pub returns-else-is_chunked-clause-value : goal.returns-else-is_chunked-clause-value
returns-else-is_chunked-clause-value c =
    let fields = c.args.fields.now in
    c.framing_by_length.ensures.value
    ∙ sym (framing_is (map header_parts fields)
    ∙ ap (λ (r : Result Bool FollowFault). and_then r (framed_by (map header_parts fields)))
    (c.fields.invariant ∙ ap (by_codings c.fields.is_chunked)
    (no_rest fields c.fields.field-index c.fields-test.false)
    ∙ ap (λ (b : Bool). by_codings b []) c.if-is_chunked.false))
