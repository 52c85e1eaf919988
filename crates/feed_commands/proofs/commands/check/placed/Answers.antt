use Rattle.feed_commands.proofs.LineLemmas.{survey_stops, survey_places}
use Rattle.feed_commands.proofs.commands.check.placed.Goals as goal

pub returns : goal.returns
returns c stops =
    survey_places c.args.bytes.now c.line_of.result.now c.args.fault c.from-reported.result c.in_line.result c.line_of.ensures c.from-reported.ensures c.in_line.ensures
    (survey_stops c.args.bytes.now c.args.fault c.from-reported.result c.from-reported.ensures stops)
