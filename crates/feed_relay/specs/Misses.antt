-- How calls that open no connection are counted.
use Rattle.std.specs.Prelude.{ℕ, Option, None, Some}
use Rattle.feed_http.specs.Device.{counted}

-- the count of misses after a call: one more where the call opened no connection
abbrev pub misses_after : {A : Type 0} → ℕ → Option A → ℕ
misses_after count (Some _) = count
misses_after count None = counted count 1
