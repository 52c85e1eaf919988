use Rattle.std.proofs.Common.{◌≡◌, ◌++◌, length, take, sym, ap, ◌∙◌, append_assoc, append-nil}
use Rattle.std.proofs.Math.Seq.{take-append_seam}
use Rattle.feed_wire.proofs.request.append_value.Goals as goal

pub loop-part-preserved : goal.loop-part-preserved
loop-part-preserved c =
    let (done, is, whole) = c.loop-part.invariant in (
      done ++ c.in-Some.part.now,
      c.in_ok-extend_from_slice.ensures.items
          ∙ ap (λ l. c.loop-part.out.items ++ l) c.as_bytes-in-loop-part.ensures.value
          ∙ ap (λ l. l ++ c.in-Some.part.now) is ∙ append_assoc _ done c.in-Some.part.now,
      whole ∙ ap (λ l. done ++ l) c.in-Some.ensures.steps
          ∙ sym (append_assoc done c.in-Some.part.now _),
    )

pub returns-in_err-extend_from_slice-clause-kept : goal.returns-in_err-extend_from_slice-clause-kept
returns-in_err-extend_from_slice-clause-kept c =
    let (done, is, whole) = c.loop-part.invariant in
    let from = c.args.out.now.items in
    let grown : c.extend_from_slice.new.self.items ≡ from
    ++ done = c.in_err-extend_from_slice.ensures.items ∙ is in
    ap (take (length from)) grown ∙ take-append_seam from done

pub returns-clause-ok : goal.returns-clause-ok
returns-clause-ok c =
    let (done, is, whole) = c.loop-part.invariant in
    is ∙ ap (λ l. c.args.out.now.items ++ l)
    (sym (whole ∙ ap (λ l. done ++ l) c.in-None.ensures.steps ∙ append-nil done))

pub returns-clause-kept : goal.returns-clause-kept
returns-clause-kept c =
    let (done, is, whole) = c.loop-part.invariant in
    let from = c.args.out.now.items in ap (take (length from)) is ∙ take-append_seam from done
