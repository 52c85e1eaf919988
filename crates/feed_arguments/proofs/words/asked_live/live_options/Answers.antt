use Rattle.std.proofs.Common.{rules, inl, inr, subst, codes, ◌≡◌, None}
use Rattle.clap.specs.Words.{found_of, rows_of}
use Rattle.feed_arguments.proofs.WordsLemmas.{no_use}
use Rattle.feed_arguments.specs.Live.{IsPortAsked}
use Rattle.feed_arguments.specs.Options.{text_at}
use Rattle.feed_arguments.proofs.words.asked_live.live_options.Goals as goal

pub returns-in_err-screens-clause-none : goal.returns-in_err-screens-clause-none
returns-in_err-screens-clause-none c = λ e options asks. absurd
    (c.number.ensures.none (search rules) options.screens asks.screens_are)

pub returns-in_err-idle-clause-none : goal.returns-in_err-idle-clause-none
returns-in_err-idle-clause-none c = λ e options asks. absurd
    (c.number-2.ensures.none (search rules) options.idle asks.idle_is)

pub returns-in_err-window-clause-none : goal.returns-in_err-window-clause-none
returns-in_err-window-clause-none c = λ e options asks. absurd
    (c.number-3.ensures.none (search rules) options.window asks.window_is)

pub returns-in_err-settle-clause-none : goal.returns-in_err-settle-clause-none
returns-in_err-settle-clause-none c = λ e options asks. absurd
    (c.number_up_to.ensures.none (search rules) options.settle asks.settle_is)

pub returns-in_err-return_after-clause-none : goal.returns-in_err-return_after-clause-none
returns-in_err-return_after-clause-none c =
    λ e options asks. absurd (c.number_up_to-2.ensures.none (search rules) options.return_after asks.return_is)

pub returns-in_err-hold-clause-none : goal.returns-in_err-hold-clause-none
returns-in_err-hold-clause-none c = λ e options asks. absurd
    (c.number_up_to-3.ensures.none (search rules) options.hold asks.hold_is)

pub returns-in_err-pending-clause-none : goal.returns-in_err-pending-clause-none
returns-in_err-pending-clause-none c = λ e options asks. absurd
    (c.number-4.ensures.none (search rules) options.pending asks.pending_is)

pub returns-in_err-per_address-clause-none : goal.returns-in_err-per_address-clause-none
returns-in_err-per_address-clause-none c = λ e options asks. absurd
    (c.number_if_given.ensures.none (search rules) options.per_address asks.per_address_is)

pub returns-in_err-verbosity-clause-none : goal.returns-in_err-verbosity-clause-none
returns-in_err-verbosity-clause-none c = λ e options asks. inl (c.verbosity.ensures.none (search rules))

pub returns-in_err-limits-clause-none : goal.returns-in_err-limits-clause-none
returns-in_err-limits-clause-none c = λ e options asks. absurd
    (c.live_limits.ensures.none (search rules) options.limits asks.limits_are)

pub returns-in_err-listener-clause-none : goal.returns-in_err-listener-clause-none
returns-in_err-listener-clause-none c = λ e options asks.
    c.listener_asked.ensures.none (search rules) _ _ _ _ asks.listener_is

pub returns-then-is_none-2-clause-none : goal.returns-then-is_none-2-clause-none
returns-then-is_none-2-clause-none c = λ e options asks.
    let rows = rows_of (found_of c.args.matches.now) in
    let mine = c.in_ok-listener.ensures.some in
    let unheard : c.in_ok-listener.listener.listen ≡ None = search rules in
    let unkept : text_at (codes "state") rows ≡ None = search rules in
    absurd (no_use rows options.listen options.state mine.before_listen asks.listener_is.before_listen
    (subst (λ port. IsPortAsked (codes "listen") rows port mine.before_listen) unheard mine.listen_is) unkept
    asks.listener_is.listen_is asks.state_is asks.is_some_use)
