-- The states of a state file are those of the log that the relay followed.
use Rattle.std.proofs.Common.{◌≡◌, sym, ap, ◌∙◌, subst, ℕ, ◌≤◌, ◌++◌, append_assoc, length, Option, None, Some}
use Rattle.feed_settings.specs.Limits.{Limits}
use Rattle.feed_node.specs.Publishing.{Published}
use Rattle.feed_node.specs.Mirroring.{first_opening}
use Rattle.feed_node.specs.Steps.{ReadingIsOne}
use Rattle.feed_node.specs.States.{NodeState}
use Rattle.feed_world.specs.Log.{Log}
use Rattle.feed_world.specs.Position.{Position, IsPlaceOfLog, node_where}
use Rattle.feed_laws.specs.Files.{FilesRestore}
use Rattle.feed_audit.specs.States.{IsStateOf, StatesArePublished, published_after}
use Rattle.feed_files.specs.Audited.{state_at, FilesAreOfLog, FilesAgree}

-- what a node at a place of the log has published
published_there : (limits : Limits) (log : Log) (place : Option Position) → IsPlaceOfLog limits log place → (state : Published)
    → (node_where log place).published ≡ Some state → (k : ℕ) × (k ≤ length log.commits) × (state ≡ state_at log k)
published_there limits log None is state e = absurd (cc)
published_there limits log (Some p) is state e = (p.at, is.in_log, cc)

pub files_are_of_log : ReadingIsOne → FilesRestore → StatesArePublished → FilesAreOfLog
files_are_of_log one restore laws limits log nodes written text behind r is_log in_log recorded cut state is =
    let p = laws.published limits text state is in
    let whole : p.bytes ++ (p.behind ++ behind) ≡ written = sym (append_assoc p.bytes p.behind behind) ∙ ap (λ t. t ++ behind) (sym p.whole) ∙ cut in
    let shown = (restore limits log nodes written p.bytes (p.behind ++ behind) r is_log in_log recorded whole).reads in
    let same = one.notes limits first_opening p.bytes shown.notes p.notes shown.nothing_bad p.read in
    published_there limits log shown.at shown.is_place state
    (sym (ap (λ (n : NodeState). n.published) shown.shows) ∙ ap (published_after limits) same ∙ p.shown)

pub files_agree : FilesAreOfLog → FilesAgree
files_agree of limits log nodes written text behind r primary is_log in_log recorded cut has state is =
    let k = of limits log nodes written text behind r is_log in_log recorded cut state is in
    subst (IsStateOf limits primary) (sym k.2) (has k.0 k.1)
