use Rattle.std.proofs.Common.{rules, sym, arith}
use Rattle.std.proofs.lemmas.List.{take_all}
use Rattle.std.proofs.lemmas.Str.{utf8_valid_len-IsUtf8}
use Rattle.std.specs.Prelude.{IsUtf8}
use Rattle.std.specs.Str.Lossy.{utf8_valid_len}
use Rattle.feed_verdicts.proofs.lines.whole_characters.Goals as goal

pub returns-in-Ok : goal.returns-in-Ok
returns-in-Ok c =
    let bytes = c.args.bytes.now in
    let valid : IsUtf8 bytes = search rules in
    let all = utf8_valid_len-IsUtf8 bytes valid in
    sym (take_all (utf8_valid_len bytes) bytes (omega arith))
