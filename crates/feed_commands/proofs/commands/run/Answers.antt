use Rattle.std.proofs.Common.{rules, refl, subst, inl, inr, map}
use Rattle.feed_arguments.specs.Words.{Asks}
use Rattle.feed_commands.proofs.commands.run.Goals as goal

pub returns-in-Some : goal.returns-in-Some
returns-in-Some g c =
    let words = map (λ word. word.now) c.args.words.now in
    inl (record {
      asked = c.in-Some.local.now;
      asks = subst (Asks words) c.in-Some.ensures.some c.in-Ok.ensures.ok;
      done = λ e. (c.run_local.ensures.ok e, c.run_local.ensures.unreported e);
      failed = c.run_local.ensures.err;
      unrefused = c.run_local.ensures.statuses.0;
      greatest = c.run_local.ensures.statuses.1;
    })

pub returns-in-None : goal.returns-in-None
returns-in-None g c =
    inr (inl (record {
      asked = c.in-Ok.request;
      asks = c.in-Ok.ensures.ok;
      other = c.local_of.ensures.none (search rules);
      refused = refl;
      untouched = refl;
    }))

pub returns-in-Err : goal.returns-in-Err
returns-in-Err g c =
    inr (inr (record {
      reply = c.in-Err.reply;
      asks = c.in-Err.ensures.err;
      unread = refl;
      replied = c.answer_words.ensures.out;
      reports = c.answer_words.ensures.err;
    }))
