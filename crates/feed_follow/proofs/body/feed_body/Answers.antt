use Rattle.feed_follow.proofs.BodyLemmas.{rest_stays}
use Rattle.feed_follow.proofs.body.feed_body.Goals as goal

pub returns-in_default-clause-ok : goal.returns-in_default-clause-ok
returns-in_default-clause-ok c =
    rest_stays c.args.part c.args.piece.now c.args.mirror.now c.in_default.not-Sized
    c.in_default.not-InChunks c.in_default.not-ToEnd
