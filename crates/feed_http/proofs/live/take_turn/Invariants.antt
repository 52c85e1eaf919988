-- So many batches were taken from the start and accepted.
use Rattle.std.proofs.Common.{◌-◌, ◌≡◌, ◌≤◌, List, ◌++◌, length}
use Rattle.feed_changes.specs.declared.change.Change.{Change}
use Rattle.feed_http.specs.Live.{intake_of, Accepts}
use Rattle.feed_http.proofs.live.take_turn.Given as goal

abbrev pub invariant-batches : goal.invariant-batches
invariant-batches l =
    let before = intake_of l.initial.primary l.initial.input.items in
    let now = intake_of l.primary l.input.items in
    record {
      taken : (earlier : List (List Change)) × Accepts before.primary earlier now.primary
          × (before.batches ≡ earlier ++ now.batches) × (length earlier ≡ l.made);
      within : l.made ≤ l.turn;
    }

abbrev pub decreases-batches : goal.decreases-batches
decreases-batches l = l.turn - l.made
