use Rattle.std.proofs.Common.{◌≡◌, [], get_or, drop, sym, ◌∙◌, subst}
use Rattle.std.proofs.lemmas.List.{take_more}
use Rattle.std.proofs.Math.Seq.{split_at}
use Rattle.std.specs.Prelude.{Some}
use Rattle.feed_wire.specs.ChunkReading.{next}
use Rattle.feed_follow.specs.Feeding.{FeedsChunks}
use Rattle.feed_wire.proofs.ChunkedRuns.{place_stays}
use Rattle.feed_follow.proofs.BodyLemmas.{feeds_byte, feeds_nothing}
use Rattle.feed_follow.proofs.body.feed_chunk.Goals as goal

pub returns-in-None-clause-err : goal.returns-in-None-clause-err
returns-in-None-clause-err c = record {
  prefix = [];
  byte = get_or c.args.bytes.now 0 0;
  later = drop 1 c.args.bytes.now;
  place = c.args.at;
  split = split_at c.args.bytes.now 0 0 c.requires.some;
  feeds = feeds_nothing c.args.at c.args.mirror.now;
  going = c.requires.going;
  refused = sym c.after_byte.ensures ∙ c.in-None.is;
}

pub returns-in-Some-clause-ok : goal.returns-in-Some-clause-ok
returns-in-Some-clause-ok c =
    let byte = get_or c.args.bytes.now 0 0 in
    let moves : next c.args.at byte ≡ Some c.in-Some.to = sym c.after_byte.ensures ∙ c.in-Some.is in
    subst (λ t. FeedsChunks c.args.at t c.args.mirror.now c.in-Some.to c.args.mirror.now)
    (sym (take_more c.args.bytes.now 0 0 c.requires.some))
    (feeds_byte c.args.at c.in-Some.to byte c.args.mirror.now c.in_default.not-InBytes moves)

pub returns-in-Some-clause-place : goal.returns-in-Some-clause-place
returns-in-Some-clause-place c =
    place_stays c.args.at c.in-Some.to (get_or c.args.bytes.now 0 0) c.requires.place
    (sym c.after_byte.ensures ∙ c.in-Some.is)
