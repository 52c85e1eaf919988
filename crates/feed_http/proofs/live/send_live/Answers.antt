use Rattle.std.proofs.Common.{◌≡◌, refl, sym, ◌∙◌, [], ◌++◌, length, arith, inl, inr, ap, subst, length-append, eqb-true}
use Rattle.std.proofs.KnownBytes.{Appends-nil}
use Rattle.std.proofs.lemmas.Result.{err_from_is_err_and}
use Rattle.feed_http.specs.Live.{intake_of, none_sent, turn_taken}
use Rattle.feed_http.specs.Sending.{Sent, WroteCommits}
use Rattle.feed_http.specs.Serving.{commit_frames}
use Rattle.feed_http.proofs.LiveLemmas.{cut_short, sent_on, frames_on, all_lost, all_new, lost_late, held_on, accepts_limits, one_turn_more, none_left}
use Rattle.feed_http.proofs.LostLemmas.{never_kept, turn_loses}
use Rattle.feed_http.proofs.WritingLemmas.{passed}
use Rattle.feed_http.proofs.live.send_live.Goals as goal

pub turns-init : goal.turns-init
turns-init g c = record { run = ([], none_sent, refl, Appends-nil _); quiet = refl; held = λ h. inr h; lost = λ long. inl refl; limits = refl; behind = record { turns = 0; left = refl } }

pub returns-in_err-sent : goal.returns-in_err-sent
returns-in_err-sent g c =
    let (sent, run, count, wrote) = c.turns.invariant.run in
    let node_is : c.node.result.now.shown ≡ c.turns.primary.node = c.node.ensures.node in
    let p = err_from_is_err_and c.from_residual.result c.from_residual.ensures.1 in
    passed _ p.1 p.2 c.turns.invariant.quiet refl
    (λ part. cut_short c.args.terms.turn (intake_of c.args.primary.now c.args.input.now.items) c.args.session.now sent (intake_of c.turns.primary c.turns.input.items) c.turns.session c.args.terms.framing _ _ _ run wrote
    (subst (λ n. WroteCommits n c.turns.session c.args.terms.framing (g.W.FeedWrite.contents c.turns.writer) (g.W.FeedWrite.contents c.send_commits.new.writer)) node_is part))
    (λ why none. absurd none) c.in_err-sent.ensures.sent

pub returns-then-gone : goal.returns-then-gone
returns-then-gone g c =
    let (sent, run, count, wrote) = c.turns.invariant.run in
    let (done, quiet) = c.in_ok-sent.ensures.sent in
    let (more, sends, all, many, appended) = done in
    let start = intake_of c.args.primary.now c.args.input.now.items in
    let now = intake_of c.turns.primary c.turns.input.items in
    let node_is : c.node.result.now.shown ≡ c.turns.primary.node = c.node.ensures.node in
    let goes_on = subst (λ n. Sent n c.turns.session more c.send_commits.new.session) node_is sends in
    let over = all_lost c.node.result.now.shown c.turns.primary.node c.send_commits.new.session c.in_ok-sent.gone node_is c.if-gone.true all in (
      record {
        sent = sent ++ more;
        has_sent = sent_on c.args.terms.turn start c.args.session.now sent now c.turns.session c.send_commits.new.session more run goes_on;
        over = over;
        count_is = omega (arith, length-append sent more, count, many, c.saturating_add-count.ensures);
        frames = frames_on c.args.terms.framing sent more _ _ _ wrote appended;
        only_long = λ is. lost_late c.args.terms.turn start now c.turns.session c.send_commits.new.session more c.node.ensures.consistent goes_on over (c.turns.invariant.held c.requires.held);
        each_long = λ long. refl;
      },
      quiet ∙ c.turns.invariant.quiet,
    )

pub returns-then-is_empty : goal.returns-then-is_empty
returns-then-is_empty g c =
    let (sent, run, count, wrote) = c.turns.invariant.run in
    let (done, quiet) = c.in_ok-sent.ensures.sent in
    let (more, sends, all, many, appended) = done in
    let start = intake_of c.args.primary.now c.args.input.now.items in
    let before = intake_of c.turns.primary c.turns.input.items in
    let node_is : c.node.result.now.shown ≡ c.turns.primary.node = c.node.ensures.node in
    let goes_on = subst (λ n. Sent n c.turns.session more c.send_commits.new.session) node_is sends in
    let new = all_new c.node.result.now.shown c.turns.primary.node c.send_commits.new.session c.in_ok-sent.gone node_is c.if-gone.false all in
    let none : c.turns.input.len ≡ 0 = eqb-true c.turns.input.len 0 (sym c.is_empty.ensures ∙ c.if-is_empty.true) in
    let empty : length c.turns.input.items ≡ 0 = sym c.turns.input.ok.0 ∙ none in
    let nothing_left = none_left c.turns.primary c.turns.input.items empty in (
      record {
        sent = sent ++ more;
        has_sent = sent_on c.args.terms.turn start c.args.session.now sent before c.turns.session c.send_commits.new.session more run goes_on;
        over = (new, nothing_left);
        count_is = omega (arith, length-append sent more, count, many, c.saturating_add-count.ensures);
        frames = frames_on c.args.terms.framing sent more _ _ _ wrote appended;
        only_long = λ is. absurd (cc);
        each_long = λ long. elim (c.turns.invariant.lost long) [
          | inl same ↦ (let left = ap (λ i. length i.batches) (sym same) in let gone : length before.batches ≡ 0 = ap length nothing_left in absurd (omega (arith, long.1)))
          | inr past ↦ absurd (never_kept start before c.turns.session c.send_commits.new.session more c.turns.invariant.limits c.node.ensures.primary c.node.ensures.consistent past goes_on new)
        ];
      },
      quiet ∙ c.turns.invariant.quiet,
    )

pub turns-preserved : goal.turns-preserved
turns-preserved g c =
    let (sent, run, count, wrote) = c.turns.invariant.run in
    let (done, quiet) = c.in_ok-sent.ensures.sent in
    let (more, sends, all, many, appended) = done in
    let start = intake_of c.args.primary.now c.args.input.now.items in
    let before = intake_of c.turns.primary c.turns.input.items in
    let now = intake_of c.take_turn.new.primary c.take_turn.new.input.items in
    let node_is : c.node.result.now.shown ≡ c.turns.primary.node = c.node.ensures.node in
    let goes_on = subst (λ n. Sent n c.turns.session more c.send_commits.new.session) node_is sends in
    let new = all_new c.node.result.now.shown c.turns.primary.node c.send_commits.new.session c.in_ok-sent.gone node_is c.if-gone.false all in
    let takes = c.in_ok-take_turn.ensures.ok in
    record {
      run = (
        sent ++ more,
        turn_taken (sent ++ more) before now c.send_commits.new.session
            (sent_on c.args.terms.turn start c.args.session.now sent before c.turns.session c.send_commits.new.session more run goes_on) new takes,
        omega (arith, length-append sent more, count, many, c.saturating_add-count.ensures),
        frames_on c.args.terms.framing sent more _ _ _ wrote appended,
      );
      quiet = quiet ∙ c.turns.invariant.quiet;
      held = λ h. held_on c.args.terms.turn start before now c.turns.session c.send_commits.new.session more c.turns.invariant.limits c.turns.invariant.behind c.node.ensures.consistent goes_on new takes (c.turns.invariant.held h);
      lost = λ long. inr (elim (c.turns.invariant.lost long) [
        | inl same ↦ turn_loses c.args.terms.turn start before now c.send_commits.new.session same c.node.ensures.primary new takes long
        | inr past ↦ absurd (never_kept start before c.turns.session c.send_commits.new.session more c.turns.invariant.limits c.node.ensures.primary c.node.ensures.consistent past goes_on new)
      ]);
      limits = accepts_limits c.turns.primary _ c.take_turn.new.primary takes.accepted ∙ c.turns.invariant.limits;
      behind = one_turn_more c.args.terms.turn start before now c.turns.invariant.behind takes;
    }

pub returns-in_err-take_turn : goal.returns-in_err-take_turn
returns-in_err-take_turn g c =
    let (sent, run, count, wrote) = c.turns.invariant.run in
    let (done, quiet) = c.in_ok-sent.ensures.sent in
    let (more, sends, all, many, appended) = done in
    let start = intake_of c.args.primary.now c.args.input.now.items in
    let before = intake_of c.turns.primary c.turns.input.items in
    let node_is : c.node.result.now.shown ≡ c.turns.primary.node = c.node.ensures.node in
    let goes_on = subst (λ n. Sent n c.turns.session more c.send_commits.new.session) node_is sends in
    let new = all_new c.node.result.now.shown c.turns.primary.node c.send_commits.new.session c.in_ok-sent.gone node_is c.if-gone.false all in
    let p = err_from_is_err_and c.from_residual-in_err-take_turn.result c.from_residual-in_err-take_turn.ensures.1 in
    rw (p.1, p.2) (
      (
        commit_frames c.args.terms.framing (sent ++ more),
        record {
          sent = sent ++ more;
          before = before;
          token = c.send_commits.new.session;
          has_sent = sent_on c.args.terms.turn start c.args.session.now sent before c.turns.session c.send_commits.new.session more run goes_on;
          nothing_new = new;
          refuses = c.in_err-take_turn.ensures.err;
          text_is = refl;
        },
        frames_on c.args.terms.framing sent more _ _ _ wrote appended,
      ),
      quiet ∙ c.turns.invariant.quiet,
    )
