use Rattle.feed_audit.proofs.Ordered.{no_clear}
use Rattle.feed_audit.proofs.difference.puts.Goals as goal

pub returns-in-Some-Clear : goal.returns-in-Some-Clear
returns-in-Some-Clear c contents is =
    no_clear contents c.args.changes.now _ _ is c.in-Some-Clear.ensures.value c.in-Some-Clear.field-0-is
