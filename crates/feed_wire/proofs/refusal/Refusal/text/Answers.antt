use Rattle.std.proofs.Common.{sym, ap, ◌∙◌}
use Rattle.feed_wire.specs.Answer.{refusal_text}
use Rattle.feed_wire.proofs.RefusalTexts.{large_head, unreadable, not_get, other_path, nothing_published, token_not_held}
use Rattle.feed_wire.proofs.refusal.Refusal.text.Goals as goal

pub returns-in-LargeHead : goal.returns-in-LargeHead
returns-in-LargeHead c = sym (ap refusal_text c.in-LargeHead.is ∙ large_head)

pub returns-in-Unreadable : goal.returns-in-Unreadable
returns-in-Unreadable c = sym (ap refusal_text c.in-Unreadable.is ∙ unreadable)

pub returns-in-NotGet : goal.returns-in-NotGet
returns-in-NotGet c = sym (ap refusal_text c.in-NotGet.is ∙ not_get)

pub returns-in-OtherPath : goal.returns-in-OtherPath
returns-in-OtherPath c = sym (ap refusal_text c.in-OtherPath.is ∙ other_path)

pub returns-in-NothingPublished : goal.returns-in-NothingPublished
returns-in-NothingPublished c = sym (ap refusal_text c.in-NothingPublished.is ∙ nothing_published)

pub returns-in-TokenNotHeld : goal.returns-in-TokenNotHeld
returns-in-TokenNotHeld c = sym (ap refusal_text c.in-TokenNotHeld.is ∙ token_not_held)
