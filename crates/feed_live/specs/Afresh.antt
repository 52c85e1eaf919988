-- What is known of what comes afresh, beside what is shown.
use Rattle.std.specs.Prelude.{◌≡◌, ◌↔◌, IsTrue, Bool, true, false, ◌&&◌, ◌||◌, not, ℕ, List, bytes_eq, is_some, is_none, Option, Some, None}
use Rattle.feed_node.specs.Mirroring.{MirrorState}
use Rattle.feed_node.specs.Publishing.{Published}
use Rattle.feed_node.specs.States.{NodeState, published_token, holds_token}
use Rattle.feed_live.specs.declared.source.Source.{Source}
use Rattle.feed_live.specs.declared.source.settling.ending.End.{End}
use Rattle.feed_live.specs.declared.source.settling.ending.End.TheVariants.{Whole, Cut, Bad}

-- both are there, and the same
abbrev pub are_one : Option (List ℕ) → Option (List ℕ) → Bool
are_one (Some one) (Some other) = bytes_eq one other
are_one (Some one) None = false
are_one None other = false

-- two nodes have published at one token
abbrev pub have_one_token : NodeState → NodeState → Bool
have_one_token one other = are_one (published_token one) (published_token other)

-- both have published, and the same tables
abbrev pub AreSameTables : Option Published → Option Published → Type 0
AreSameTables (Some one) (Some other) = one.tables ≡ other.tables
AreSameTables (Some one) None = ⊥
AreSameTables None other = ⊥

-- two nodes show the same tables
abbrev pub HaveOneState : NodeState → NodeState → Type 0
HaveOneState one other = AreSameTables one.published other.published

-- what comes has published, which gave it a token to ask with
abbrev pub has_come : Option MirrorState → Bool
has_come None = false
has_come (Some coming) = is_some coming.since

-- what comes holds a token
abbrev pub holds_it : Option MirrorState → Option (List ℕ) → Bool
holds_it (Some coming) (Some token) = holds_token coming.node token
holds_it (Some coming) None = false
holds_it None token = false

-- Screens may go on from what is shown with what comes: it had the same state at that token, and
-- still holds it.
abbrev pub goes_on_from : Source → Bool
goes_on_from source =
    source.settling.is_same
    && holds_it source.coming (published_token source.answers.shown.mirror.node)

abbrev pub token_that_came : Option MirrorState → Option (List ℕ)
token_that_came None = None
token_that_came (Some coming) = published_token coming.node

-- What comes from a server with tokens of its own is at the state and the token that are shown.
abbrev pub is_at_shown : Source → Bool
is_at_shown source =
    source.settling.is_strange && goes_on_from source
    && are_one (token_that_came source.coming) (published_token source.answers.shown.mirror.node)

-- What comes is at the token that is shown for the first time.
abbrev pub is_to_compare : Source → MirrorState → Bool
is_to_compare source coming =
    not source.settling.is_compared && have_one_token coming.node source.answers.shown.mirror.node

-- It is compared then, once: whether it has the state that is shown. One that has it counts as
-- heard.
pub record Compares (old new : Source) (coming : MirrorState) : Type 0 where
  pub once : is_to_compare old coming ≡ true → new.settling.is_compared ≡ true
  pub same : is_to_compare old coming ≡ true → IsTrue new.settling.is_same
      ↔ HaveOneState coming.node old.answers.shown.mirror.node
  pub heard : is_to_compare old coming ≡ true
      → new.is_heard ≡ (old.is_heard || new.settling.is_same)
  pub stays : is_to_compare old coming ≡ false
      → (new.settling ≡ old.settling) × (new.is_heard ≡ old.is_heard)

-- A feed broke: it was cut, or has a line that can't be followed. Only a complete body did not.
abbrev pub is_broken : End → Bool
is_broken Whole = false
is_broken Cut = true
is_broken (Bad line) = true

-- One that broke may be shown: nothing is, and such a feed is asked for.
abbrev pub may_show_broken : Source → Bool
may_show_broken source =
    source.settling.serves_broken
    && is_none (published_token source.answers.shown.mirror.node)
