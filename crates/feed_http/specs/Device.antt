-- What a contract says of the devices that a feed is read from and written to.
use Rattle.std.specs.Prelude.{◌≡◌, ℕ, ◌+◌, ◌-◌, ◌^◌, ◌<◌, ◌≤◌, ◌⊎◌, min, List, ◌++◌, Option, Result, Ok, Err}
use Rattle.std.specs.Io.KnownBytes.{Appends, Consumes}

-- a count after n more, in a u64 that stays at its greatest value
abbrev pub counted : ℕ → ℕ → ℕ
counted count n = min (count + n) (2 ^ 64 - 1)

-- the count of failures after a call: one more where the call failed
abbrev pub failures_after : {A E : Type 0} → ℕ → Result A E → ℕ
failures_after count (Ok _) = count
failures_after count (Err _) = counted count 1

-- the device failed between these two counts of failures: the count rose, or it can rise no more
abbrev pub HasFailed : ℕ → ℕ → Type 0
HasFailed old new = (old < new) ⊎ (new ≡ 2 ^ 64 - 1)

-- between these two counts there were so many calls: the count rose by that, or it can rise no more
abbrev pub RoseBy : ℕ → ℕ → ℕ → Type 0
RoseBy old new calls = (new ≡ old + calls) ⊎ (new ≡ 2 ^ 64 - 1)

-- between these two counts there were at most so many calls
abbrev pub RoseAtMost : ℕ → ℕ → ℕ → Type 0
RoseAtMost old new most = (calls : ℕ) × (calls ≤ most) × RoseBy old new calls

-- some prefix of the text was appended to the known bytes
abbrev pub AppendsPrefix : Option (List ℕ) → Option (List ℕ) → List ℕ → Type 0
AppendsPrefix old new text =
    (prefix : List ℕ) × (rest : List ℕ) × (text ≡ prefix ++ rest) × Appends old new prefix

-- the bytes that a device lost were appended to these bytes
abbrev pub Moved : Option (List ℕ) → Option (List ℕ) → List ℕ → List ℕ → Type 0
Moved old new before after = (given : List ℕ) × (after ≡ before ++ given) × Consumes old new given

-- the same, but that further bytes which the device lost were not kept
abbrev pub MovedSome : Option (List ℕ) → Option (List ℕ) → List ℕ → List ℕ → Type 0
MovedSome old new before after =
    (given : List ℕ) × (lost : List ℕ) × (after ≡ before ++ given)
    × Consumes old new (given ++ lost)
