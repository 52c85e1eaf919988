use Rattle.std.proofs.Common.{refl, arith}
use Rattle.std.proofs.lemmas.Simd.{zip2_splat}
use Rattle.feed_text.specs.Nesting.{is_opening}
use Rattle.feed_text.proofs.Runs.{hit, either, masked}
use Rattle.feed_text.proofs.nesting.opening_mask.Goals as goal

pub returns : goal.returns
returns c =
    let v = c.args.block in
    let long = c.fits-block.0 in
    masked _ is_opening v _ (omega arith) c.fits-block.1 (either _ _ v (zip2_splat hit v 16 123 long) (zip2_splat hit v 16 91 long)) refl
