use Rattle.std.proofs.Common.{rules, ◌∙◌, sym, inl, inr}
use Rattle.feed_play.specs.Player.{Plays, StopsScript}
use Rattle.std.proofs.lemmas.Result.{err_from_is_err_and}
use Rattle.feed_commands.proofs.InputLemmas.{play_fails}
use Rattle.feed_commands.proofs.PlayLemmas.{told_by}
use Rattle.feed_commands.proofs.commands.play.print_played.Goals as goal

pub returns-in-Ok-played-2-clause-err : goal.returns-in-Ok-played-2-clause-err
returns-in-Ok-played-2-clause-err g c =
    let script = c.as_slice.result.now in
    let told = c.as_slice-2.result.now in
    record {
      script = script;
      told = told;
      whole = search rules;
      plays = inl (told_by (Plays script) _ _ told c.new-told.ensures.items c.as_slice-2.ensures.value c.in-Ok-played-2.ensures.ok);
      printed = c.in-Err.ensures.prefix;
    }

pub returns-clause-err : goal.returns-clause-err
returns-clause-err g c =
    let script = c.as_slice.result.now in
    let told = c.as_slice-2.result.now in
    let why = c.in-Err-played-2.fault in
    record {
      script = script;
      told = told;
      whole = search rules;
      plays = inr (record {
        why = why;
        stops = told_by (λ text. StopsScript script text why) _ _ told c.new-told.ensures.items c.as_slice-2.ensures.value c.in-Err-played-2.ensures.err;
        no_memory = sym c.is_want_of_memory.ensures ∙ c.if-is_want_of_memory.false;
      });
      printed = c.in-Err.ensures.prefix;
    }

pub returns-then-is_want_of_memory-clause-err : goal.returns-then-is_want_of_memory-clause-err
returns-then-is_want_of_memory-clause-err g c =
    let script = c.as_slice.result.now in
    let told = c.as_slice-2.result.now in
    let why = c.in-Err-played-2.fault in
    record {
      script = script;
      told = told;
      whole = search rules;
      stops = told_by (λ text. StopsScript script text why) _ _ told c.new-told.ensures.items c.as_slice-2.ensures.value c.in-Err-played-2.ensures.err;
      line = search rules;
      printed = inr (sym c.is_want_of_memory.ensures ∙ c.if-is_want_of_memory.true, record { failed = c.in-Err.ensures.failed; printed = c.in-Err.ensures.prefix });
    }

pub returns-in_err-script-clause-err : goal.returns-in_err-script-clause-err
returns-in_err-script-clause-err g c =
    let p = err_from_is_err_and c.from_residual.result c.from_residual.ensures.1 in
    rw (p.1, p.2) (play_fails _ c.in_err-script.field-0.0 c.in_err-script.ensures.err (search rules))
