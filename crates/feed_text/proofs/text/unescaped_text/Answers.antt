use Rattle.std.proofs.Common.{◌≡◌, drop, arith, rules}
use Rattle.feed_text.specs.Ascii.{quotation_mark}
use Rattle.feed_text.specs.Reading.{first}
use Rattle.feed_text.proofs.Plain.{content_utf8}
use Rattle.feed_text.proofs.text.unescaped_text.Goals as goal

pub from_utf8_unchecked-requires : goal.from_utf8_unchecked-requires
from_utf8_unchecked-requires c =
    let s = c.args.slice.now in
    let inside = c.in_ok-inside.inside.now in
    let end = c.skip_unescaped-end.result.now in
    let here : first s ≡ quotation_mark = grind arith in
    let behind : inside ≡ drop 1 s = grind arith in
    content_utf8 s inside end c.prefix.result.now c.requires here behind c.skip_unescaped-end.ensures (search rules) c.prefix.ensures
