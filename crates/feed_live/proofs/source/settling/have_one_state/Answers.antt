use Rattle.feed_live.proofs.AfreshLemmas.{both_show, first_none, second_none}
use Rattle.feed_live.proofs.source.settling.have_one_state.Goals as goal

pub returns-in-Some-Some : goal.returns-in-Some-Some
returns-in-Some-Some c =
    let both = both_show c.args.one.now.shown.published c.args.other.now.shown.published c.in-Some-Some.one.now.contents c.in-Some-Some.other.now.contents c.in-Some-Some.ensures c.in-Some-Some.ensures' in
    (λ same. both.0 (c.same.ensures.0 same), λ is. c.same.ensures.1 (both.1 is))

pub returns-in_default : goal.returns-in_default
returns-in_default c = (λ same. absurd (cc), λ is. absurd (second_none c.args.one.now.shown.published c.args.other.now.shown.published c.in_default.ensures' is))

pub returns-in_default-2 : goal.returns-in_default-2
returns-in_default-2 c = (λ same. absurd (cc), λ is. absurd (first_none c.args.one.now.shown.published c.args.other.now.shown.published c.in_default.ensures is))
