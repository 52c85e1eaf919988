use Rattle.std.proofs.Common.{[], sym, ◌∙◌}
use Rattle.feed_wire.specs.declared.chunk.Chunking.TheVariants.{LineStart}
use Rattle.feed_wire.proofs.ChunkedRuns.{stands_on, starts, is_prefix, prefix_reads, body_run, refused_byte, runs_bring}
use Rattle.feed_wire.proofs.laws.chunk_laws.Goals as goal

pub returns : goal.returns
returns c = record {
  prefixes = λ text payload to reads. is_prefix to text payload
      (stands_on LineStart to text payload [] [] reads starts);
  read = λ text payload prefix. prefix_reads text payload prefix;
  whole = λ text payload body. body_run text payload body;
  refused = λ at b text payload other reads none. refused_byte at b text payload other reads none;
  once = λ text payload other to too reads also. sym (runs_bring LineStart to text payload reads)
      ∙ runs_bring LineStart too text other also;
}
