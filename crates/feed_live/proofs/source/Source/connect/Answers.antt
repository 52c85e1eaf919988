use Rattle.std.proofs.Common.{◌≡◌, ◌∙◌, sym, ap, subst, [], Some}
use Rattle.std.specs.Prelude.{IfSome, is_none}
use Rattle.feed_node.specs.States.{published_token}
use Rattle.feed_follow.specs.Standing.{in_head}
use Rattle.feed_hub.specs.Upstream.{IsFollowing}
use Rattle.feed_live.specs.declared.source.Reach.TheVariants.{Connects}
use Rattle.feed_live.specs.Relaying.{pursuit, WasLeft, MayFollow, following_mirror, servers_of}
use Rattle.feed_live.specs.Upstream.{IsRequestOf}
use Rattle.feed_live.proofs.RelayLemmas.{begun_follows, begun_honest, begins_in_log, one_more_honest}
use Rattle.feed_live.proofs.SourceLemmas.{begins_so, fails_so, left_still, never_heard}
use Rattle.feed_live.proofs.source.Source.connect.Goals as goal

pub returns-then-is_err-clause-follows : goal.returns-then-is_err-clause-follows
returns-then-is_err-clause-follows g c =
    let failed = fails_so c.connect-begun.result _ _ c.place.result (sym c.is_err.ensures.value ∙ c.if-is_err.true) c.connect-begun.ensures.begins in
    left_still (subst (λ e. WasLeft c.args.self.now c.lost-then-is_err.new.self e (g.L.Link.exchanges c.lost-then-is_err.new.link)) failed c.lost-then-is_err.ensures.left)

pub returns-then-is_err-clause-refused : goal.returns-then-is_err-clause-refused
returns-then-is_err-clause-refused g c = c.lost-then-is_err.ensures.refused

pub returns-then-is_err-clause-heard : goal.returns-then-is_err-clause-heard
returns-then-is_err-clause-heard g c = λ none. c.lost-then-is_err.ensures.heard ∙ never_heard c.args.self.now c.why_not.result none

pub returns-clause-follows : goal.returns-clause-follows
returns-clause-follows g c =
    let shown = c.args.self.now.answers.shown.mirror in
    let asking : c.followed_of.result.now ≡ following_mirror c.in-Ok.coming shown = c.followed_of.ensures ∙ ap (λ s. following_mirror c.in-Ok.coming s) c.mirror.ensures in
    let following : c.followed_of-followed.result.now ≡ following_mirror c.in-Ok.coming shown = c.followed_of-followed.ensures ∙ ap (λ s. following_mirror c.in-Ok.coming s) c.mirror-2.ensures in
    let begins = begins_so c.connect-begun.result _ _ c.place.result (sym c.is_err.ensures.value ∙ c.if-is_err.false) c.connect-begun.ensures.begins in
    λ screens limits log servers contest sockets follows. (
      follows.0,
      (
        λ honest. follows.1.0 (one_more_honest limits log servers _ _ _ begins (begun_honest limits log servers c.in-Ok.coming _ _ c.begin_shown.ensures.shown honest)),
        λ known.
            let asks = subst (λ k. IfSome k.since (λ token. published_token k.node ≡ Some token)) asking c.request.ensures.since in
            let is_request = subst (λ s. IsRequestOf s c.place.result (following_mirror c.in-Ok.coming shown) c.in-Ok-Some.request.items) follows.0
            (subst (λ p. IsRequestOf (servers_of c.args.self.now) p (following_mirror c.in-Ok.coming shown) c.in-Ok-Some.request.items) (sym c.place.ensures.place)
            (subst (λ k. IsRequestOf (servers_of c.args.self.now) c.args.self.now.upstream.place k c.in-Ok-Some.request.items) asking
            (subst (λ made. IfSome made (λ text. IsRequestOf (servers_of c.args.self.now) c.args.self.now.upstream.place c.followed_of.result.now text.items)) c.in-Ok-Some.field-0-is c.in-Ok-Some.ensures.asks))) in
            let begun = subst (λ k. IsFollowing k [] in_head c.opened.new.self.follower k) following c.opened.ensures.follows in
            subst (λ u. MayFollow limits log servers (g.L.Link.exchanges c.begin_shown.new.link) (pursuit (is_none c.in-Ok.coming) (Connects c.args.desk.now.time) c.in-Ok-Some.request.items u c.opened.new.self.follower (following_mirror c.in-Ok.coming shown))) (sym c.clear.ensures.items)
            (begun_follows limits log servers c.in-Ok.coming c.place.result c.in-Ok-Some.request.items _ _ _ c.args.desk.now.time c.opened.new.self.follower (following_mirror c.in-Ok.coming shown)
            begins c.begin_shown.ensures.shown known
            (λ honest. let here = follows.1.0 honest in begins_in_log limits log servers c.in-Ok.coming shown c.in-Ok.ensures.mirror here.limits_are here.shown_is)
            asks is_request begun),
      ),
    )
