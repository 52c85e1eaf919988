-- The connections to servers, one after another.
use Rattle.std.specs.Prelude.{◌≡◌, ℕ, ◌-◌, List, [], ◌∷◌, ◌++◌, take, length, Option, option_map, Result, MatchResult}

-- what screens are shown of what came over one connection: nothing; what the first so many bytes
-- published, at its token alone; or all that is published from so many bytes on
pub data Shown : Type 0 where
  nothing_shown : Shown
  once_at : ℕ → Shown
  all_from : ℕ → Shown

-- what went over one connection: the number of the server, the bytes that were written to it, those
-- that were read from it, and what is shown of these
pub record Exchange : Type 0 where
  pub server : ℕ
  pub asked : List ℕ
  pub received : List ℕ
  pub shown : Shown

-- all connections so far, the latest one first, where they are known
abbrev pub Exchanges : Type 0
Exchanges = Option (List Exchange)

-- one more is begun, to this server, over which nothing went
abbrev pub one_more : ℕ → List Exchange → List Exchange
one_more server before =
    record { server = server; asked = []; received = []; shown = nothing_shown } ∷ before

-- these bytes more were written to the latest one
abbrev pub asked_more : List ℕ → List Exchange → List Exchange
asked_more bytes [] = []
asked_more bytes (latest ∷ before) =
    record {
      server = latest.server;
      asked = latest.asked ++ bytes;
      received = latest.received;
      shown = latest.shown;
    } ∷ before

-- these bytes more were read from it
abbrev pub received_more : List ℕ → List Exchange → List Exchange
received_more bytes [] = []
received_more bytes (latest ∷ before) =
    record {
      server = latest.server;
      asked = latest.asked;
      received = latest.received ++ bytes;
      shown = latest.shown;
    } ∷ before

-- once something of a connection is shown, that stays so
abbrev pub shown_first : Shown → Shown → Shown
shown_first nothing_shown now = now
shown_first (once_at count) now = once_at count
shown_first (all_from count) now = all_from count

-- of the latest one, this is shown from here on: what came there, but so many bytes, counts
abbrev pub shown_so : (ℕ → Shown) → ℕ → List Exchange → List Exchange
shown_so how unread [] = []
shown_so how unread (latest ∷ before) =
    record {
      server = latest.server;
      asked = latest.asked;
      received = latest.received;
      shown = shown_first latest.shown (how (length latest.received - unread));
    } ∷ before

-- a connection to this server was begun, or nothing was
abbrev pub BeginsLink : {A E : Type 0} → Exchanges → Exchanges → Result A E → ℕ → Type 0
BeginsLink old new result server =
    MatchResult result (λ _. new ≡ option_map (one_more server) old) (λ _. new ≡ old)

-- a write took so many of these bytes, from the first on, or it took nothing
abbrev pub WritesSome : {E : Type 0} → Exchanges → Exchanges → Result ℕ E → List ℕ → Type 0
WritesSome old new result bytes =
    MatchResult result (λ count. new ≡ option_map (asked_more (take count bytes)) old)
    (λ _. new ≡ old)

-- a read gave so many of these bytes, from the first on, or it gave nothing
abbrev pub Receives : {E : Type 0} → Exchanges → Exchanges → Result ℕ E → List ℕ → Type 0
Receives old new result bytes =
    MatchResult result (λ count. new ≡ option_map (received_more (take count bytes)) old)
    (λ _. new ≡ old)
