-- When a relay answers with what it shows.
use Rattle.std.specs.Prelude.{Bool, ◌&&◌, ◌||◌, ◌==◌, not, is_some, is_none}
use Rattle.feed_node.specs.States.{published_token}
use Rattle.feed_live.specs.declared.source.Source.{Source}
use Rattle.feed_live.specs.Leading.{asks_all}

-- nothing was shown yet, and what comes is to settle
abbrev pub is_first_start : Source → Bool
is_first_start source =
    is_some source.coming && is_none (published_token source.answers.shown.mirror.node)

-- The next connection asks for everything, though our token is known.
abbrev pub wants_all : Source → Bool
wants_all source = asks_all source.leading source.upstream.place

-- What the next connection sends is to settle before it is shown: it asks for everything, and that
-- is to settle, or each connection asks so, or this one does.
abbrev pub is_to_settle : Source → Bool
is_to_settle source =
    source.settling.is_always || wants_all source
    || (is_none source.answers.shown.mirror.since && not (source.settling.pause == 0))

-- Requests may be answered: a server was heard, and what comes at a first start has settled.
abbrev pub has_heard : Source → Bool
has_heard source = source.is_heard && not (is_first_start source)

-- A request for everything is answered with it: requests may be answered, and something is shown.
abbrev pub is_answering : Source → Bool
is_answering source =
    has_heard source && is_some (published_token source.answers.shown.mirror.node)
