use Rattle.std.proofs.Common.{refl, arith}
use Rattle.std.proofs.lemmas.Simd.{zip2_splat}
use Rattle.feed_text.specs.Reading.{is_stop}
use Rattle.feed_text.proofs.Runs.{hit, turned, either, masked}
use Rattle.feed_text.proofs.run.stops.Goals as goal

pub returns : goal.returns
returns c =
    let v = c.args.block in
    let long = c.fits-block.0 in
    masked _ is_stop v _ (omega arith) c.fits-block.1 (either _ _ v (zip2_splat hit v 16 92 long) (turned v 16 long)) refl
