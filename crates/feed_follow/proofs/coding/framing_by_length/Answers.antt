use Rattle.std.proofs.Common.{◌∙◌, refl, sym, ap, ◌+◌}
use Rattle.std.specs.Prelude.{Result, map, codes}
use Rattle.std.proofs.lemmas.Result.{err_from_is_err_and}
use Rattle.httparse.specs.Borrowed.{header_parts}
use Rattle.feed_follow.specs.declared.fault.FollowFault.{FollowFault}
use Rattle.feed_follow.specs.declared.coding.BodyFraming.{BodyFraming}
use Rattle.feed_follow.specs.Coding.{values_of}
use Rattle.feed_follow.proofs.CodingLemmas.{and_then, lengths_of, rest_of, no_rest, more_length, other_field, by_all}
use Rattle.feed_follow.proofs.coding.framing_by_length.Goals as goal
use Rattle.feed_follow.proofs.coding.framing_by_length.Goals.{then-is_word+in_ok-framing, else-is_word}

pub fields-init : goal.fields-init
fields-init c = refl

pub fields-preserved : goal.fields-preserved
fields-preserved c =
    let fields = c.args.fields.now in
    let i = c.fields.field-index in
    let within = c.fields-test.true in
    elim c.if-is_word.branch [
      | then-is_word+in_ok-framing w ↦
          rw w.framing-is
          (c.fields.invariant ∙ more_length fields i _ c.fields.framing c.as_bytes.result.now within
          c.as_bytes.ensures.value (sym c.is_word.ensures ∙ w.if-is_word.true)
          ∙ ap (λ (r : Result BodyFraming FollowFault). and_then r
          (λ next. lengths_of next (rest_of fields (i + 1))))
          (sym w.in_ok-framing.ensures.value))
      | else-is_word w ↦
          rw w.framing-is
          (c.fields.invariant ∙ other_field fields i _ c.fields.framing c.as_bytes.result.now within
          c.as_bytes.ensures.value (sym c.is_word.ensures ∙ w.if-is_word.false))
    ]

pub returns-in_err-framing-clause-value : goal.returns-in_err-framing-clause-value
returns-in_err-framing-clause-value c =
    let p = err_from_is_err_and c.from_residual.result c.from_residual.ensures.1 in
    let fields = c.args.fields.now in
    let i = c.fields.field-index in
    rw (p.1, p.2)
    (sym (by_all (values_of (codes "content-length") (map header_parts fields)) ∙ c.fields.invariant
    ∙ more_length fields i _ c.fields.framing c.as_bytes.result.now c.fields-test.true
    c.as_bytes.ensures.value (sym c.is_word.ensures ∙ c.if-is_word.true)
    ∙ ap (λ (r : Result BodyFraming FollowFault). and_then r
    (λ next. lengths_of next (rest_of fields (i + 1)))) (sym c.in_err-framing.ensures.value)))

pub returns-clause-value : goal.returns-clause-value
returns-clause-value c =
    let fields = c.args.fields.now in
    sym (by_all (values_of (codes "content-length") (map header_parts fields)) ∙ c.fields.invariant
    ∙ ap (lengths_of c.fields.framing) (no_rest fields c.fields.field-index c.fields-test.false))
