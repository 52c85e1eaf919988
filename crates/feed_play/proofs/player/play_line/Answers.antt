use Rattle.std.proofs.Common.{◌∙◌, sym, ap, Some}
use Rattle.feed_play.proofs.PlayerLemmas.{through, OnOk-weaker, happens, commits, shows, shows_not}
use Rattle.feed_play.proofs.player.play_line.Goals as goal

pub returns-in-Show-clause-ok : goal.returns-in-Show-clause-ok
returns-in-Show-clause-ok c =
    through _ _ _ c.at-in-Show.ensures.ok
    (OnOk-weaker _ (shows _ c.args.lines.now c.in-Show.node c.args.world.now _ _ (sym c.read_action.ensures ∙ c.in-Some.is ∙ ap Some c.in-Show.is)) c.show.ensures.ok)

pub returns-in-Show-clause-err : goal.returns-in-Show-clause-err
returns-in-Show-clause-err c =
    shows_not _ c.args.lines.now _ _ _ c.in-Show.node c.args.world.now (sym c.read_action.ensures ∙ c.in-Some.is ∙ ap Some c.in-Show.is) c.number-number.ensures c.at-in-Show.ensures.err c.show.ensures.err

pub returns-in_ok-changes-in-Commit-clause-ok : goal.returns-in_ok-changes-in-Commit-clause-ok
returns-in_ok-changes-in-Commit-clause-ok c =
    through _ _ _ c.at-in-Commit.ensures.ok
    (OnOk-weaker _ (commits _ c.args.lines.now c.in-Commit.count c.in_ok-changes-in-Commit.changes _ c.args.world.now _ _ _ (sym c.read_action.ensures ∙ c.in-Some.is ∙ ap Some c.in-Commit.is) c.in_ok-changes-in-Commit.ensures.ok) c.play_event.ensures.ok)

pub returns-in-Event-clause-ok : goal.returns-in-Event-clause-ok
returns-in-Event-clause-ok c =
    through _ _ _ c.at-in-Event.ensures.ok
    (OnOk-weaker _ (happens _ c.args.lines.now c.in-Event.event c.args.world.now _ _ _ (sym c.read_action.ensures ∙ c.in-Some.is ∙ ap Some c.in-Event.is)) c.play_event-in-Event.ensures.ok)
