-- The codes of what nodes and mirrors show, which their models need.
use Rattle.std.specs.Prelude.{refl, ℕ, Bool, List, Option}
use Rattle.std.specs.Coded.{Coded, code_by, coded×, coded_list, coded_option, coded_ℕ, coded_bool}
use Rattle.feed_settings.specs.Limits.{Limits, History}
use Rattle.feed_changes.specs.declared.change.Change.{Change}
use Rattle.feed_tables.specs.Tables.{Contents}
use Rattle.feed_tables.specs.Codes.{text_code, change_code, contents_code}
use Rattle.feed_node.specs.Publishing.{Published}
use Rattle.feed_node.specs.declared.commit.Commit.{Commit}
use Rattle.feed_node.specs.Log.{PrimaryState}
use Rattle.feed_node.specs.States.{NodeState, Node}
use Rattle.feed_node.specs.Shown.{Latest}
use Rattle.feed_node.specs.Staging.{StagingState}
use Rattle.feed_node.specs.Mirroring.{OpenConnection, MirrorState}

abbrev pub published_code : Coded Published
published_code = code_by
    (Contents × List ℕ) (coded× contents_code text_code) (λ p. (p.tables, p.token))
    (λ p. record { tables = p.0; token = p.1 }) (λ _. refl)

abbrev pub commit_code : Coded Commit
commit_code = code_by
    (List Change × List ℕ) (coded× (coded_list change_code) text_code) (λ c. (c.changes, c.token))
    (λ p. record { changes = p.0; token = p.1 }) (λ _. refl)

abbrev pub state_code : Coded NodeState
state_code = code_by
    (Option Published × (List (List ℕ) × List Commit))
    (coded× (coded_option published_code) (coded× (coded_list text_code) (coded_list commit_code)))
    (λ n. (n.published, (n.held, n.kept)))
    (λ p. record { published = p.0; held = p.1.0; kept = p.1.1 }) (λ _. refl)

abbrev pub history_code : Coded History
history_code = code_by
    (ℕ × Option ℕ) (coded× coded_ℕ (coded_option coded_ℕ)) (λ h. (h.commits, h.bytes))
    (λ p. record { commits = p.0; bytes = p.1 }) (λ _. refl)

abbrev pub latest_code : Coded Latest
latest_code = code_by
    (List Commit × History) (coded× (coded_list commit_code) history_code)
    (λ l. (l.items, l.history)) (λ p. record { items = p.0; history = p.1 }) (λ _. refl)

abbrev pub node_code : Coded Node
node_code = code_by
    (NodeState × History) (coded× state_code history_code) (λ n. (n.shown, n.history))
    (λ p. record { shown = p.0; history = p.1 }) (λ _. refl)

abbrev pub limits_code : Coded Limits
limits_code = code_by
    (History × (ℕ × Option ℕ)) (coded× history_code (coded× coded_ℕ (coded_option coded_ℕ)))
    (λ l. (l.history, (l.staged, l.memory)))
    (λ p. record { history = p.0; staged = p.1.0; memory = p.1.1 }) (λ _. refl)

abbrev pub standing_code : Coded StagingState
standing_code = code_by
    (Node × (Bool × List Change)) (coded× node_code (coded× coded_bool (coded_list change_code)))
    (λ s. (s.node, (s.afresh, s.changes)))
    (λ p. record { node = p.0; afresh = p.1.0; changes = p.1.1 }) (λ _. refl)

abbrev pub connection_code : Coded OpenConnection
connection_code = code_by
    (List Change × (List ℕ × Bool)) (coded× (coded_list change_code) (coded× text_code coded_bool))
    (λ c. (c.changes, (c.unfinished, c.awaits_reset)))
    (λ p. record { changes = p.0; unfinished = p.1.0; awaits_reset = p.1.1 }) (λ _. refl)

abbrev pub mirror_code : Coded MirrorState
mirror_code = code_by
    (Limits × (NodeState × (Option (List ℕ) × Option OpenConnection))) (coded× limits_code
    (coded× state_code (coded× (coded_option text_code) (coded_option connection_code))))
    (λ m. (m.limits, (m.node, (m.since, m.connection))))
    (λ p. record { limits = p.0; node = p.1.0; since = p.1.1.0; connection = p.1.1.1 }) (λ _. refl)

abbrev pub primary_code : Coded PrimaryState
primary_code = code_by
    (Limits × (ℕ × NodeState)) (coded× limits_code (coded× coded_ℕ state_code))
    (λ s. (s.limits, (s.count, s.node))) (λ p. record { limits = p.0; count = p.1.0; node = p.1.1 })
    (λ _. refl)
