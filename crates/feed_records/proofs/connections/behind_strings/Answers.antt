use Rattle.std.proofs.Common.{rules, arith}
use Rattle.feed_records.proofs.Quoted.{since_from, status_from}
use Rattle.feed_records.proofs.connections.behind_strings.Goals as goal

pub returns-then-line-from-eq34-clause-token : goal.returns-then-line-from-eq34-clause-token
returns-then-line-from-eq34-clause-token c = since_from c.args.line.now c.bytes.from (omega arith) (omega arith) (search rules)

pub returns-then-line-from-eq34-clause-status : goal.returns-then-line-from-eq34-clause-status
returns-then-line-from-eq34-clause-status c = status_from c.args.line.now c.bytes.from (omega arith) (omega arith) (search rules)
