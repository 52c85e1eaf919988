use Rattle.std.proofs.Common.{◌≡◌, ◌<◌, ◌≤◌, ◌-◌, length, take, drop, subst, arith, take-append-drop, length-take}
use Rattle.std.proofs.lemmas.Result.{err_from_is_err_and}
use Rattle.feed_wire.specs.declared.chunk.Chunking.TheVariants.{InBytes, BytesEnd}
use Rattle.feed_follow.specs.Feeding.{StopsInChunks}
use Rattle.feed_wire.proofs.ChunkedRuns.{some_run, all_run}
use Rattle.feed_follow.proofs.BodyLemmas.{stops_in_data, feeds_data}
use Rattle.feed_follow.proofs.body.feed_data.Goals as goal

pub returns-in_err-feed_payload-clause-err : goal.returns-in_err-feed_payload-clause-err
returns-in_err-feed_payload-clause-err c =
    let p = err_from_is_err_and c.from_residual.result c.from_residual.ensures.1 in
    let len = c.len_within-len.result in
    let bytes = c.args.bytes.now in
    let few : length (take len bytes) ≤ c.args.left = omega (arith, length-take len bytes) in
    rw (p.1, p.2)
    (subst (λ t. StopsInChunks (InBytes c.args.left) t c.args.mirror.now c.feed_payload.new.mirror
    c.in_err-feed_payload.field-0.0) (take-append-drop len bytes)
    (stops_in_data c.args.left (take len bytes) (drop len bytes) c.args.mirror.now
    c.feed_payload.new.mirror c.in_err-feed_payload.field-0.0 few
    c.in_err-feed_payload.ensures.err))

pub returns-then-left-len-clause-ok : goal.returns-then-left-len-clause-ok
returns-then-left-len-clause-ok c =
    let len = c.len_within-len.result in
    let bytes = take len c.args.bytes.now in
    let left = c.args.left in
    let full : left ≡ length bytes = omega (arith, length-take len c.args.bytes.now) in
    feeds_data left bytes BytesEnd c.args.mirror.now c.feed_payload.new.mirror
    (all_run bytes left full c.requires.left) c.in_ok-feed_payload.ensures.ok

pub returns-else-left-len-clause-ok : goal.returns-else-left-len-clause-ok
returns-else-left-len-clause-ok c =
    let len = c.len_within-len.result in
    let bytes = take len c.args.bytes.now in
    let left = c.args.left in
    let fits : len ≤ left = c.len_within-len.ensures.fits in
    let short : length bytes ≡ len = omega (arith, length-take len c.args.bytes.now) in
    let less : 0 < left - len = omega arith in
    feeds_data left bytes (InBytes (left - len)) c.args.mirror.now c.feed_payload.new.mirror
    (some_run bytes left (left - len) (omega arith) less) c.in_ok-feed_payload.ensures.ok
