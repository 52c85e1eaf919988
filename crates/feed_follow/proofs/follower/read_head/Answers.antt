use Rattle.std.proofs.Common.{◌≡◌, ◌-◌, [], ◌++◌, ◌∙◌, refl, ap, inl, inr, length, take, drop}
use Rattle.std.specs.Prelude.{min}
use Rattle.std.proofs.lemmas.Result.{err_from_is_err_and, IfOk-weaker, MatchResult-weaker}
use Rattle.feed_follow.specs.Keeping.{kept_bytes, HeadGoesOn}
use Rattle.feed_follow.specs.Feeding.{BodyGoesOn}
use Rattle.feed_wire.proofs.ResponseLemmas.{looked_end}
use Rattle.feed_follow.proofs.HeadLemmas.{in_piece, too_long}
use Rattle.feed_follow.proofs.PushLemmas.{stops_in_head, refuses, whole_goes_on, whole_stops}
use Rattle.feed_follow.proofs.follower.read_head.Goals as goal

pub returns-in_err-whole-clause-err : goal.returns-in_err-whole-clause-err
returns-in_err-whole-clause-err c = λ unfinished.
    let p = err_from_is_err_and c.from_residual.result c.from_residual.ensures.1 in
    let kept = kept_bytes c.args.kept.now in
    let piece = c.args.piece.now in
    let len = c.min-len.result in
    let fault = c.in_err-whole.field-0.0 in
    let few : len ≡ min (length piece) (8192 - length kept) = c.min-len.ensures
    ∙ ap (λ n. min (length piece) (8192 - n)) c.kept_len-before.ensures in
    rw (p.1, p.2) (elim c.in_err-whole.ensures.err [
      | inl is ↦ rw is refl
      | inr stop ↦ stops_in_head c.args.had_token kept piece c.args.mirror.now fault
          (in_piece c.args.had_token kept piece len fault
          (looked_end kept piece len c.requires few) stop)
    ])

pub returns-then-len-piece-clause-err : goal.returns-then-len-piece-clause-err
returns-then-len-piece-clause-err c = λ unfinished.
    let kept = kept_bytes c.args.kept.now in
    let piece = c.args.piece.now in
    let len = c.min-len.result in
    let few : len ≡ min (length piece) (8192 - length kept) = c.min-len.ensures
    ∙ ap (λ n. min (length piece) (8192 - n)) c.kept_len-before.ensures in
    let open_head = rw c.in_default.is at c.in_ok-whole.ensures.unfinished in (
      too_long c.args.had_token kept piece len c.requires few c.if-len-piece.true
          open_head,
      refl,
    )

pub returns-in_default-says-clause-ok : goal.returns-in_default-says-clause-ok
returns-in_default-says-clause-ok c = λ unfinished.
    let kept = kept_bytes c.args.kept.now in
    let piece = c.args.piece.now in
    let len = c.min-len.result in
    let read = rw c.in-Some.is at c.in_ok-whole.ensures.whole in
    refuses c.args.had_token kept piece len c.in-Some.whole c.args.mirror.now c.cut.new.self
    read
    c.in_default-says.is c.cut.ensures

pub returns-clause-ok : goal.returns-clause-ok
returns-clause-ok c = λ unfinished.
    let kept = kept_bytes c.args.kept.now in
    let piece = c.args.piece.now in
    let len = c.min-len.result in
    let s = c.saturating_sub.result in
    let found = c.in-Some.whole in
    let mid = c.begin.new.self in
    let new = c.feed_body.new.mirror in
    let more = kept_bytes c.look_further.new.kept in
    let read = rw c.in-Some.is at c.in_ok-whole.ensures.whole in
    let at : s ≡ found.len - length kept = c.saturating_sub.ensures
    ∙ ap (λ n. found.len - n) c.kept_len-before.ensures in
    IfOk-weaker c.feed_body.result
    (BodyGoesOn c.first_part.result (take (length piece - s) (drop s piece)) mid new)
    (HeadGoesOn c.args.had_token (kept ++ piece) c.args.mirror.now more new)
    (λ to goes. whole_goes_on c.args.had_token kept piece len found c.in-Body.framing
    c.first_part.result s c.args.mirror.now mid new unfinished
    read c.in-Body.is c.first_part.ensures
    at
    (record { limits = c.begin.ensures.limits; notes = []; stands = c.begin.ensures.stands }) more
    to goes)
    c.feed_body.ensures.ok

pub returns-clause-err : goal.returns-clause-err
returns-clause-err c = λ unfinished.
    let kept = kept_bytes c.args.kept.now in
    let piece = c.args.piece.now in
    let len = c.min-len.result in
    let s = c.saturating_sub.result in
    let found = c.in-Some.whole in
    let mid = c.begin.new.self in
    let new = c.feed_body.new.mirror in
    let read = rw c.in-Some.is at c.in_ok-whole.ensures.whole in
    let at : s ≡ found.len - length kept = c.saturating_sub.ensures
    ∙ ap (λ n. found.len - n) c.kept_len-before.ensures in
    MatchResult-weaker c.feed_body.result c.feed_body.ensures.err (λ _ x. x)
    (λ fault stops. whole_stops c.args.had_token kept piece len found c.in-Body.framing
    c.first_part.result s c.args.mirror.now mid new unfinished
    read c.in-Body.is c.first_part.ensures
    at
    (record { limits = c.begin.ensures.limits; notes = []; stands = c.begin.ensures.stands }) fault
    stops)
