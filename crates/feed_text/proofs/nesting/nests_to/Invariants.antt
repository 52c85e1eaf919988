use Rattle.std.proofs.Common.{◌≡◌, ℕ, ◌+◌, ◌<◌, ◌≤◌, take}
use Rattle.feed_text.proofs.Places.{openings, closings, is_inside, is_escaped}
use Rattle.feed_text.proofs.nesting.nests_to.Given as goal

abbrev pub invariant-loop-i : goal.invariant-loop-i
invariant-loop-i l = record {
  opened : l.opened ≡ openings (take l.i l.text);
  closed : l.closed ≡ closings (take l.i l.text);
  inside : l.inside ≡ is_inside (take l.i l.text);
  escaped : l.escaped ≡ is_escaped (take l.i l.text);
  few_opened : l.opened ≤ l.i;
  few_closed : l.closed ≤ l.i;
  below : (end : ℕ) → end ≤ l.i → openings (take end l.text) < closings (take end l.text) + l.level;
}
