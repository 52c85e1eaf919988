-- How far back a screen may be: the window, and the commits that are longer than that.
use Rattle.std.specs.Prelude.{ℕ, ◌+◌, ◌-◌, ◌^◌, min, nat_le, nat_lt, if◌then◌else◌}
use Rattle.feed_hub.specs.declared.turn.Mark.{Mark}
use Rattle.feed_hub.specs.declared.turn.Spared.{Spared}

-- how many bytes are spared where the log ends here: those of the long commits, until more than the
-- window was said after the last of them
abbrev pub spared_at : Spared → ℕ → ℕ → ℕ
spared_at spared end window = if nat_le (end - spared.end) window then spared.bytes else 0

-- all long commits together, or the last one alone where all would have more than 64 MiB
abbrev pub spared_with : ℕ → ℕ → ℕ
spared_with bytes last = if nat_lt 67108864 bytes then last else bytes

-- what is spared once the log goes on from one place to another: with one commit more, if that is
-- longer than the window
abbrev pub spared_after : Spared → ℕ → ℕ → ℕ → Spared
spared_after spared from to window =
    if nat_le (to - from) window then spared
    else record {
      bytes = spared_with (min (spared_at spared from window + (to - from)) (2 ^ 64 - 1))
          (to - from);
      end = to;
    }

-- the mark, or the next one once it is so old: then what lies before that was said as long ago
abbrev pub marked : Mark → ℕ → ℕ → ℕ → Mark
marked mark now stall end =
    if nat_lt (now - mark.since) stall then mark
    else record { place = mark.next; next = end; since = now }
