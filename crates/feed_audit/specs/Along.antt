-- What is known of the primary's states where its record was read so far.
use Rattle.std.specs.Prelude.{ℕ, List, Option, IfSome}
use Rattle.feed_settings.specs.Limits.{Limits}
use Rattle.feed_node.specs.States.{NodeState, published_tables}
use Rattle.feed_audit.specs.Pasts.{IsPast}
use Rattle.feed_audit.specs.Walks.{IsSince}
use Rattle.feed_audit.specs.declared.past.Past.{Past}
use Rattle.feed_audit.specs.declared.since.Since.{Since}

-- those that are kept end with what the primary's mirror shows
abbrev pub KeepsAlong : Limits → List ℕ → Option Past → NodeState → NodeState → Type 0
KeepsAlong limits text past ours theirs =
    IfSome past (λ past. IsPast limits text past (published_tables ours) (published_tables theirs))

-- and of what both sides published since they showed the same
pub record IsAlong (limits : Limits) (text : List ℕ) (since : Since) (past : Option Past)
    (ours theirs : NodeState) : Type 0 where
  pub since_is : IsSince since ours theirs
  pub keeps : KeepsAlong limits text past ours theirs
