use Rattle.std.proofs.Common.{◌∙◌, subst}
use Rattle.feed_http.specs.Exchange.{wrote_by}
use Rattle.feed_http.specs.Writing.{Writes}
use Rattle.feed_http.proofs.asking.ask.Goals as goal

pub returns : goal.returns
returns g c =
    let writer = g.W.FeedWrite in
    subst (λ t. Writes (wrote_by writer.contents writer.failures c.args.writer.now c.write_bytes.new.writer) t c.write_bytes.result)
    (c.as_slice.ensures.value ∙ c.in_ok-text.ensures) c.write_bytes.ensures
