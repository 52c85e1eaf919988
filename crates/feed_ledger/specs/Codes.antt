-- How the logic stores entries.
use Rattle.std.specs.Prelude.{◌≡◌, ℕ, Bool, true, false, List, [], cond, ◌==◌, Result, Ok, Err, refl}
use Rattle.std.specs.Coded.{Coded, code_by, coded×, coded_ℕ, coded_bool, coded_list, coded_result}
use mathlib.Core.Path.{ap}
use Rattle.feed_ledger.specs.Entries.{Entry, accepted, read, wrote, closed, begun, looked, shown_once, shown_all, came, came_to_end, waited, reported, failed}
use Rattle.feed_device.specs.declared.device.Stop.{Stop}
use Rattle.feed_device.specs.declared.device.Stop.TheVariants.{Waits, Gone, Failed}

abbrev stop_number : Stop → ℕ
stop_number Waits = 0
stop_number Gone = 1
stop_number Failed = 2

abbrev stop_at : ℕ → Stop
stop_at n = cond (n == 0) Waits (cond (n == 1) Gone Failed)

pub stop_at-stop_number : (stop : Stop) → stop_at (stop_number stop) ≡ stop
stop_at-stop_number Waits = refl
stop_at-stop_number Gone = refl
stop_at-stop_number Failed = refl

abbrev stop_code : Coded Stop
stop_code = code_by ℕ coded_ℕ stop_number stop_at stop_at-stop_number

abbrev Parts : Type 0
Parts = ℕ × (ℕ × (Bool × (Bool × (Result ℕ Stop × (Result Bool Stop × List ℕ)))))

abbrev to_parts : Entry → Parts
to_parts (accepted at was_taken) = (0, (at, (was_taken, (true, (Ok 0, (Ok true, []))))))
to_parts (read at answer bytes) = (1, (at, (true, (true, (answer, (Ok true, bytes))))))
to_parts (wrote at answer bytes) = (2, (at, (true, (true, (answer, (Ok true, bytes))))))
to_parts (closed at) = (3, (at, (true, (true, (Ok 0, (Ok true, []))))))
to_parts (begun server was_begun) = (4, (server, (was_begun, (true, (Ok 0, (Ok true, []))))))
to_parts (looked answer) = (5, (0, (true, (true, (Ok 0, (answer, []))))))
to_parts (shown_once unread) = (6, (unread, (true, (true, (Ok 0, (Ok true, []))))))
to_parts (shown_all unread) = (7, (unread, (true, (true, (Ok 0, (Ok true, []))))))
to_parts (came bytes) = (8, (0, (true, (true, (Ok 0, (Ok true, bytes))))))
to_parts came_to_end = (9, (0, (true, (true, (Ok 0, (Ok true, []))))))
to_parts (waited due takes_input is_over) = (10, (due, (takes_input, (is_over, (Ok 0, (Ok true, []))))))
to_parts reported = (11, (0, (true, (true, (Ok 0, (Ok true, []))))))
to_parts failed = (12, (0, (true, (true, (Ok 0, (Ok true, []))))))

abbrev from_parts : Parts → Entry
from_parts p =
    cond (p.0 == 0) (accepted p.1.0 p.1.1.0) (cond (p.0 == 1) (read p.1.0 p.1.1.1.1.0 p.1.1.1.1.1.1)
    (cond (p.0 == 2) (wrote p.1.0 p.1.1.1.1.0 p.1.1.1.1.1.1) (cond (p.0 == 3) (closed p.1.0)
    (cond (p.0 == 4) (begun p.1.0 p.1.1.0) (cond (p.0 == 5) (looked p.1.1.1.1.1.0)
    (cond (p.0 == 6) (shown_once p.1.0) (cond (p.0 == 7) (shown_all p.1.0)
    (cond (p.0 == 8) (came p.1.1.1.1.1.1) (cond (p.0 == 9) came_to_end
    (cond (p.0 == 10) (waited p.1.0 p.1.1.0 p.1.1.1.0) (cond (p.0 == 11) reported failed)))))))))))

pub from_parts-to_parts : (entry : Entry) → from_parts (to_parts entry) ≡ entry
from_parts-to_parts (accepted at was_taken) = refl
from_parts-to_parts (read at answer bytes) = refl
from_parts-to_parts (wrote at answer bytes) = refl
from_parts-to_parts (closed at) = refl
from_parts-to_parts (begun server was_begun) = refl
from_parts-to_parts (looked answer) = refl
from_parts-to_parts (shown_once unread) = refl
from_parts-to_parts (shown_all unread) = refl
from_parts-to_parts (came bytes) = refl
from_parts-to_parts came_to_end = refl
from_parts-to_parts (waited due takes_input is_over) = refl
from_parts-to_parts reported = refl
from_parts-to_parts failed = refl

abbrev pub entries_code : Coded (List Entry)
entries_code = coded_list (code_by Parts
    (coded× coded_ℕ (coded× coded_ℕ (coded× coded_bool (coded× coded_bool
    (coded× (coded_result coded_ℕ stop_code) (coded× (coded_result coded_bool stop_code)
    (coded_list coded_ℕ)))))))
    to_parts from_parts from_parts-to_parts)
