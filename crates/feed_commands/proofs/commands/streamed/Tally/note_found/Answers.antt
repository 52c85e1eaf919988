use Rattle.std.proofs.Common.{arith}
use Rattle.feed_commands.proofs.StreamedLemmas.{noted_repeats, noted_tokenless, noted_older, noted_misnamed, noted_lines}
use Rattle.feed_commands.proofs.commands.streamed.Tally.note_found.Goals as goal

pub read-requires-clause-lines : goal.read-requires-clause-lines
read-requires-clause-lines c =
    let r = c.requires.room in
    noted_lines r.passed r.notes _ (r.tallied).read ((r.tallied).found c.if-self.true) _ r.few (omega arith)

pub read-requires-clause-repeats : goal.read-requires-clause-repeats
read-requires-clause-repeats c = let r = c.requires.room in noted_repeats r.passed r.notes _ (r.tallied).read ((r.tallied).found c.if-self.true)

pub read-requires-clause-tokenless : goal.read-requires-clause-tokenless
read-requires-clause-tokenless c = let r = c.requires.room in noted_tokenless r.passed r.notes _ (r.tallied).read ((r.tallied).found c.if-self.true)

pub read-requires-clause-older : goal.read-requires-clause-older
read-requires-clause-older c = let r = c.requires.room in noted_older r.passed r.notes _ (r.tallied).read ((r.tallied).found c.if-self.true)

pub read-requires-clause-misnamed : goal.read-requires-clause-misnamed
read-requires-clause-misnamed c = let r = c.requires.room in noted_misnamed r.passed r.notes _ (r.tallied).read ((r.tallied).found c.if-self.true)
