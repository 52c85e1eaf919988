use Rattle.feed_world.proofs.Following.{open_as_asked, places_stay, all_is_reached, responses_carry, mirrors_follow, fails_keep, refusals_keep}
use Rattle.feed_world.proofs.laws.following_laws.Goals as goal

pub returns-clause-opens : goal.returns-clause-opens
returns-clause-opens c =
    open_as_asked c.answer_laws.ensures.asked c.sending_laws.ensures.starts

pub returns-clause-places : goal.returns-clause-places
returns-clause-places c = places_stay

pub returns-clause-reached : goal.returns-clause-reached
returns-clause-reached c = all_is_reached

pub returns-clause-carried : goal.returns-clause-carried
returns-clause-carried c =
    responses_carry c.followed_laws.ensures.responses c.followed_laws.ensures.ends

pub returns-clause-follow : goal.returns-clause-follow
returns-clause-follow c = mirrors_follow c.world_laws.ensures.prefixes c.reading_laws.ensures.one

pub returns-clause-fails : goal.returns-clause-fails
returns-clause-fails c = fails_keep c.world_laws.ensures.prefixes c.reading_laws.ensures.one

pub returns-clause-refusals : goal.returns-clause-refusals
returns-clause-refusals c = refusals_keep c.followed_laws.ensures.refusals
