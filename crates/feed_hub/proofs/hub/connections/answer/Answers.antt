use Rattle.std.proofs.Common.{rules, ◌<◌, ◌^◌, ◌∙◌, sym, subst, ap, refl, length, Some}
use Rattle.feed_node.specs.Texts.{published_text}
use Rattle.feed_answer.specs.Answered.{parts_of, AnswersTo}
use Rattle.feed_answer.specs.Served.{opening_text}
use Rattle.feed_hub.specs.Steps.{opened}
use Rattle.feed_hub.proofs.hub.connections.answer.Goals as goal

pub returns-in_ok-screen-in-Whole-clause-answers : goal.returns-in_ok-screen-in-Whole-clause-answers
returns-in_ok-screen-in-Whole-clause-answers c =
    let a = c.in-Whole.answered in
    let answer = parts_of a.status a.framing a.bytes.items a.session in
    let found = rw c.in-Whole.is at c.in_ok-answered.ensures.answers in
    let fits : length a.bytes.items < 2 ^ 64 = search rules in
    record {
      answer = answer;
      answers = subst (λ n. AnswersTo c.args.head.now c.args.served.now.contest.now n c.args.framing 0 answer) c.node.ensures found;
      fits = fits;
      opens = c.in_ok-screen-in-Whole.ensures a.status
          ∙ ap (λ t. opened (parts_of a.status a.framing t a.session) c.args.served.now.time) c.in_ok-bytes_of-in-Whole.ensures;
      status_is = refl;
    }

pub returns-in_ok-screen-in-Snapshot-clause-answers : goal.returns-in_ok-screen-in-Snapshot-clause-answers
returns-in_ok-screen-in-Snapshot-clause-answers c =
    let f = c.in-Snapshot.framing in
    let s = Some c.in-Snapshot.session in
    let text = c.in_ok-text-in-Snapshot.ensures.text in
    let found = rw c.in-Snapshot.is at c.in_ok-answered.ensures.answers in
    record {
      answer = parts_of 200 f (opening_text f (published_text c.args.answering.now.mirror.node.published)) s;
      answers = subst (λ n. AnswersTo c.args.head.now c.args.served.now.contest.now n c.args.framing 0 (parts_of 200 f (opening_text f (published_text n.published)) s))
          c.node.ensures found;
      fits = subst (λ t. length t < 2 ^ 64) text c.in_ok-text-in-Snapshot.ensures.fits;
      opens = c.in_ok-screen-in-Snapshot.ensures 200 ∙ ap (λ t. opened (parts_of 200 f t s) c.args.served.now.time) text;
      status_is = refl;
    }

pub returns-in_ok-screen-in-Snapshot-clause-shared : goal.returns-in_ok-screen-in-Snapshot-clause-shared
returns-in_ok-screen-in-Snapshot-clause-shared c shared =
    c.in_ok-text-in-Snapshot.ensures.shared shared ∙ ap Some (sym (ap (λ s. s.own) (c.in_ok-screen-in-Snapshot.ensures 200)))
