-- How often devices are called, where that is counted: so a contract can say that one is.
use Rattle.std.specs.Prelude.{◌≡◌, ◌≢◌, ℕ, suc, ◌+◌, Bool, List, ◌∷◌, ◌++◌, Option, None, option_map, Result}
use Rattle.feed_device.specs.declared.device.Stop.{Stop}

-- once more
abbrev pub CalledOnce : Option ℕ → Option ℕ → Type 0
CalledOnce old new = new ≡ option_map (λ count. suc count) old

-- as often as before, or more often
abbrev pub CalledSince : Option ℕ → Option ℕ → Type 0
CalledSince old new = (more : ℕ) × (new ≡ option_map (λ count. more + count) old)

-- at least once more
abbrev pub CalledAtLeastOnce : Option ℕ → Option ℕ → Type 0
CalledAtLeastOnce old new = (more : ℕ) × (new ≡ option_map (λ count. suc more + count) old)

-- how often something is done at each number
abbrev pub AllCalls : Type 0
AllCalls = ℕ → Option ℕ

-- as often as before at each number
abbrev pub NotCalled : AllCalls → AllCalls → Type 0
NotCalled old new = (at : ℕ) → new at ≡ old at

-- and at each but this one
abbrev pub OthersNotCalled : AllCalls → AllCalls → ℕ → Type 0
OthersNotCalled old new at = (other : ℕ) → other ≢ at → new other ≡ old other

-- What a device answered each time that it was called, the latest first, where that is known.
abbrev pub Answers : Type 0 → Type 0
Answers A = Option (List (Result A Stop))

-- it was called once more, and answered this
abbrev pub HasAnswered : {A : Type 0} → Result A Stop → Answers A → Answers A → Type 0
HasAnswered answer old new = new ≡ option_map (λ all. answer ∷ all) old

-- it was not called, or several times
abbrev pub AnsweredSince : {A : Type 0} → Answers A → Answers A → Type 0
AnsweredSince {A} old new =
    (more : List (Result A Stop)) × (new ≡ option_map (λ all. more ++ all) old)

-- it was called at least once
abbrev pub AnsweredAtLeastOnce : {A : Type 0} → Answers A → Answers A → Type 0
AnsweredAtLeastOnce {A} old new = (answer : Result A Stop) × (more : List (Result A Stop))
    × (new ≡ option_map (λ all. (answer ∷ more) ++ all) old)

-- How often a connection to a server was begun, and what the device answered where it was looked at,
-- whether it is open, where it was read, and where it was offered bytes.
pub record LinkCalls : Type 0 where
  pub begun : Option ℕ
  pub looked : Answers Bool
  pub read : Answers ℕ
  pub written : Answers ℕ

abbrev pub uncounted : LinkCalls
uncounted = record { begun = None; looked = None; read = None; written = None }

-- one was begun, and nothing else was done
pub record HasBegun (old new : LinkCalls) : Type 0 where
  pub begun : CalledOnce old.begun new.begun
  pub looked : new.looked ≡ old.looked
  pub read : new.read ≡ old.read
  pub written : new.written ≡ old.written

-- it was looked at, whether it is open
pub record HasLooked (answer : Result Bool Stop) (old new : LinkCalls) : Type 0 where
  pub begun : new.begun ≡ old.begun
  pub looked : HasAnswered answer old.looked new.looked
  pub read : new.read ≡ old.read
  pub written : new.written ≡ old.written

-- it was read from
pub record HasRead (answer : Result ℕ Stop) (old new : LinkCalls) : Type 0 where
  pub begun : new.begun ≡ old.begun
  pub looked : new.looked ≡ old.looked
  pub read : HasAnswered answer old.read new.read
  pub written : new.written ≡ old.written

-- it was offered bytes
pub record HasWritten (answer : Result ℕ Stop) (old new : LinkCalls) : Type 0 where
  pub begun : new.begun ≡ old.begun
  pub looked : new.looked ≡ old.looked
  pub read : new.read ≡ old.read
  pub written : HasAnswered answer old.written new.written
