use Rattle.std.proofs.Common.{◌≡◌, ◌<◌, ◌≤◌, ◌-◌, length, take, drop, sym, subst, arith, take-append-drop, length-take, inl, inr}
use Rattle.std.proofs.lemmas.Bool.{cases_lt}
use Rattle.std.proofs.lemmas.List.{take_all}
use Rattle.std.proofs.lemmas.Result.{err_from_is_err_and}
use Rattle.feed_follow.specs.declared.follower.Part.TheVariants.{Sized, Done}
use Rattle.feed_follow.specs.Feeding.{BodyGoesOn, BodyStops, HasFed}
use Rattle.feed_follow.proofs.BodyLemmas.{sized_stops, sized_ends, sized_goes_on}
use Rattle.feed_follow.proofs.body.feed_sized.Goals as goal

pub returns-in_err-feed_payload-clause-err : goal.returns-in_err-feed_payload-clause-err
returns-in_err-feed_payload-clause-err c =
    let p = err_from_is_err_and c.from_residual.result c.from_residual.ensures.1 in
    let len = c.len_within-len.result in
    let piece = c.args.piece.now in
    let fault = c.in_err-feed_payload.field-0.0 in
    let new = c.feed_payload.new.mirror in
    let few : length (take len piece) ≤ c.args.left = omega (arith, length-take len piece) in
    rw (p.1, p.2)
    (subst (λ t. BodyStops (Sized c.args.left) t c.args.mirror.now new fault)
    (take-append-drop len piece)
    (sized_stops c.args.left (take len piece) (drop len piece) c.args.mirror.now new fault few
    c.in_err-feed_payload.ensures.err))

pub returns-then-left-len-clause-ok : goal.returns-then-left-len-clause-ok
returns-then-left-len-clause-ok c =
    let len = c.len_within-len.result in
    let piece = c.args.piece.now in
    let new = c.feed_payload.new.mirror in
    let full : length (take len piece) ≡ c.args.left = omega (arith, length-take len piece) in
    subst (λ t. BodyGoesOn (Sized c.args.left) t c.args.mirror.now new Done)
    (take-append-drop len piece)
    (sized_ends c.args.left (take len piece) (drop len piece) c.args.mirror.now new full
    c.in_ok-feed_payload.ensures.ok)

pub returns-else-left-len-clause-ok : goal.returns-else-left-len-clause-ok
returns-else-left-len-clause-ok c =
    let len = c.len_within-len.result in
    let piece = c.args.piece.now in
    let left = c.args.left in
    let new = c.feed_payload.new.mirror in
    let all : length piece ≤ len =
    elim (cases_lt len (length piece)) [
      | inl some ↦ let whole = c.len_within-len.ensures.all some in absurd
          (omega arith)
      | inr none ↦ none
    ] in
    let same : len ≡ length piece = omega arith in
    let fits : len ≤ left = c.len_within-len.ensures.fits in
    let less : length piece < left = omega arith in
    let fed : HasFed c.args.mirror.now piece new = subst (λ t. HasFed c.args.mirror.now t new)
    (take_all len piece all) c.in_ok-feed_payload.ensures.ok in
    subst (λ n. BodyGoesOn (Sized left) piece c.args.mirror.now new (Sized (left - n))) (sym same)
    (sized_goes_on left piece c.args.mirror.now new less fed)
