use Rattle.std.proofs.Common.{rules, ◌≡◌, ◌≤◌, ◌+◌, ◌<◌, refl, sym, ap, ◌∙◌, subst, arith, inl, take}
use Rattle.std.proofs.Common.{◌++◌, length, length-take}
use Rattle.std.proofs.KnownBytes.{Keeps-refl}
use Rattle.std.proofs.lemmas.Result.{err_from_is_err_and}
use Rattle.feed_follow.specs.Follower.{GoesOn}
use Rattle.feed_http.specs.HeadReading.{read_bytes}
use Rattle.feed_http.specs.Device.{counted}
use Rattle.feed_http.proofs.DeviceLemmas.{rose_more}
use Rattle.feed_http.proofs.FollowingLemmas.{GoesOnAt, goes_at_first, broke_off, ended, met}
use Rattle.feed_http.proofs.FollowingLemmas.{not_closed, on_in_head, on_in_body, over_done}
use Rattle.feed_http.proofs.FollowingLemmas.{over_refused}
use Rattle.feed_http.proofs.following.push_response.Goals.{in-Head, in-Body}
use Rattle.feed_http.proofs.following.push_response.Goals as goal

pub pieces-init : goal.pieces-init
pieces-init g c =
    record { goes = goes_at_first _ _ _ c.requires; reads = inl (omega arith); quiet = refl }

pub returns-in-Ok-eq0-clause-came : goal.returns-in-Ok-eq0-clause-came
returns-in-Ok-eq0-clause-came g c =
    let none : c.in-Ok-eq0.field-0 ≡ 0 = omega arith in
    let some : 0 < length c.read_some.new.buf = omega arith in
    let read = c.in-Ok-eq0.ensures.bytes in
    ended _ _ _ _ _ _ _ c.read_some.new.buf c.in-Ok-eq0.field-0 c.pieces.invariant.goes none
    read.0 (read.1 none some)

pub returns-in-Ok-eq0-clause-reads : goal.returns-in-Ok-eq0-clause-reads
returns-in-Ok-eq0-clause-reads g c =
    let reads = rose_more _ _ _ _ c.pieces.invariant.reads c.read_some.ensures.reads in
    (c.pieces.counter + 1, omega arith, reads)

pub returns-in-Err-clause-came : goal.returns-in-Err-clause-came
returns-in-Err-clause-came g c =
    broke_off _ _ _ _ _ _ _ c.pieces.invariant.goes c.in-Err.ensures.bytes

pub returns-in-Err-clause-failures : goal.returns-in-Err-clause-failures
returns-in-Err-clause-failures g c =
    c.in-Err.ensures.failures ∙ ap (λ n. counted n 1) c.pieces.invariant.quiet

pub returns-in-Err-clause-reads : goal.returns-in-Err-clause-reads
returns-in-Err-clause-reads g c =
    let reads = rose_more _ _ _ _ c.pieces.invariant.reads c.read_some.ensures.reads in
    (c.pieces.counter + 1, omega arith, reads)

pub returns-in_err-push-clause-came : goal.returns-in_err-push-clause-came
returns-in_err-push-clause-came g c =
    let p = err_from_is_err_and c.from_residual.result c.from_residual.ensures.1 in
    let goes = c.pieces.invariant.goes in
    let piece = take c.in-Ok.len c.read_some.new.buf in
    let short : length piece ≤ read_bytes =
    omega (arith, length-take c.in-Ok.len c.read_some.new.buf) in
    let of = c.in_err-push.field-0.0 in
    let fails = c.in_err-push.ensures.err c.args.mirror.now goes.bytes goes.standing goes.follows in
    let other = not_closed c.args.mirror.now c.pieces.follower.had_token goes.bytes piece goes.standing
    c.push.new.mirror of c.follow_laws.ensures goes.going goes.follows.stands fails in
    rw (p.1, p.2)
    (other, met _ _ _ _ _ _ _ goes piece c.in-Ok.ensures.bytes.0 short c.push.new.mirror of fails)

pub returns-in_err-push-clause-reads : goal.returns-in_err-push-clause-reads
returns-in_err-push-clause-reads g c =
    let reads = rose_more _ _ _ _ c.pieces.invariant.reads c.read_some.ensures.reads in
    (c.pieces.counter + 1, omega arith, reads)

pub returns-in-Done-clause-came : goal.returns-in-Done-clause-came
returns-in-Done-clause-came g c =
    let goes = c.pieces.invariant.goes in
    let piece = take c.in-Ok.len c.read_some.new.buf in
    let short : length piece ≤ read_bytes =
    omega (arith, length-take c.in-Ok.len c.read_some.new.buf) in
    let on = c.in_ok-push.ensures.ok c.args.mirror.now goes.bytes goes.standing goes.follows in
    over_done _ _ _ _ _ _ _ goes piece c.in-Ok.ensures.bytes.0 short c.push.new.self
    c.push.new.mirror
    (subst (GoesOn c.args.mirror.now (goes.bytes ++ piece) c.push.new.self c.push.new.mirror)
    c.in-Done.is on)

pub returns-in-Done-clause-reads : goal.returns-in-Done-clause-reads
returns-in-Done-clause-reads g c =
    let reads = rose_more _ _ _ _ c.pieces.invariant.reads c.read_some.ensures.reads in
    (c.pieces.counter + 1, omega arith, reads)

pub returns-in-TokenRefused-clause-came : goal.returns-in-TokenRefused-clause-came
returns-in-TokenRefused-clause-came g c =
    let goes = c.pieces.invariant.goes in
    let piece = take c.in-Ok.len c.read_some.new.buf in
    let short : length piece ≤ read_bytes =
    omega (arith, length-take c.in-Ok.len c.read_some.new.buf) in
    let on = c.in_ok-push.ensures.ok c.args.mirror.now goes.bytes goes.standing goes.follows in
    over_refused _ _ _ _ _ _ _ goes piece c.in-Ok.ensures.bytes.0 short c.push.new.self
    c.push.new.mirror
    (subst (GoesOn c.args.mirror.now (goes.bytes ++ piece) c.push.new.self c.push.new.mirror)
    c.in-TokenRefused.is on)

pub returns-in-TokenRefused-clause-reads : goal.returns-in-TokenRefused-clause-reads
returns-in-TokenRefused-clause-reads g c =
    let reads = rose_more _ _ _ _ c.pieces.invariant.reads c.read_some.ensures.reads in
    (c.pieces.counter + 1, omega arith, reads)

pub pieces-preserved : goal.pieces-preserved
pieces-preserved g c =
    let goes = c.pieces.invariant.goes in
    let source = g.R.FeedRead.remaining c.args.reader.now in
    let left = g.R.FeedRead.remaining c.read_some.new.self in
    let start = c.args.mirror.now in
    let follower = c.push.new.self in
    let mirror = c.push.new.mirror in
    let piece = take c.in-Ok.len c.read_some.new.buf in
    let given = c.in-Ok.ensures.bytes.0 in
    let short : length piece ≤ read_bytes =
    omega (arith, length-take c.in-Ok.len c.read_some.new.buf) in
    let on = c.in_ok-push.ensures.ok start goes.bytes goes.standing goes.follows in
    record {
      goes = elim c.match-branch-2.branch [
        | in-Head w ↦ subst (λ e. GoesOnAt source left start e follower mirror) (sym w.at_end-is)
            (on_in_head source _ left start _ _ _ goes piece given short follower mirror
            (subst (GoesOn start (goes.bytes ++ piece) follower mirror) w.in-Head.is on))
        | in-Body w ↦ subst (λ e. GoesOnAt source left start e follower mirror) (sym w.at_end-is)
            (on_in_body source _ left start _ _ _ goes piece given short follower mirror
            (subst (GoesOn start (goes.bytes ++ piece) follower mirror) w.in-Body.is on))
      ];
      reads = rose_more _ _ _ _ c.pieces.invariant.reads c.read_some.ensures.reads;
      quiet = c.in-Ok.ensures.failures ∙ c.pieces.invariant.quiet;
    }

pub returns-clause-came : goal.returns-clause-came
returns-clause-came g c =
    (broke_off _ _ _ _ _ _ _ c.pieces.invariant.goes (Keeps-refl _), search rules)
