use Rattle.std.proofs.Common.{rules, subst}
use Rattle.feed_records.specs.Connections.{marked, named}
use Rattle.feed_records.specs.Parting.{IsOpening}
use Rattle.feed_records.specs.declared.connections.Opening.TheVariants.{Named}
use Rattle.feed_records.proofs.Connecting.{alone_feed}
use Rattle.feed_records.proofs.connections.read_opening.Goals as goal

pub returns-in-Some-Marked : goal.returns-in-Some-Marked
returns-in-Some-Marked c e before =
    alone_feed before _ _ c.args.line.now _ c.feed.ensures.feed c.feed.ensures.since (marked c.args.line.now (subst (IsOpening c.args.line.now) c.in-Some-Marked.field-0-is c.in-Some-Marked.ensures.some))

pub returns-in_ok-to_vec-in-Some-Named : goal.returns-in_ok-to_vec-in-Some-Named
returns-in_ok-to_vec-in-Some-Named c e before =
    let named_is : IsOpening c.args.line.now (Named c.in-Some-Named.token) = subst (IsOpening c.args.line.now) c.in-Some-Named.field-0-is c.in-Some-Named.ensures.some in
    alone_feed before _ _ c.args.line.now _ c.feed-in-Some-Named.ensures.feed (search rules)
    (named c.args.line.now c.in-Some-Named.token.now named_is.0 named_is.1)
