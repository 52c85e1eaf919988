-- Bodies that end stay so.
use Rattle.std.proofs.Common.{◌≡◌, refl, ◌∙◌, ℕ, ◌⊎◌, List, Option, Some, None, inl, inr, sym, subst, ap}
use Rattle.feed_hub.specs.declared.hub.Hub.{Hub}
use Rattle.feed_hub.specs.declared.screen.Screen.{Screen}
use Rattle.feed_hub.specs.declared.screen.Way.{Way}
use Rattle.feed_hub.specs.declared.screen.Way.TheVariants.{CatchesUp, OnLog, Stops, Over}
use Rattle.feed_hub.specs.declared.seats.Key.{Key}
use Rattle.feed_hub.specs.declared.seats.Seat.{Seat}
use Rattle.feed_hub.specs.declared.seats.Seat.TheVariants.{Asks, Watches}
use Rattle.feed_hub.specs.Backlog.{Backlog}
use Rattle.feed_hub.specs.Seats.{seat_at, KeepsThose, EndsSeat, IsCut}
use Rattle.feed_hub.specs.Steps.{ended_at}
use Rattle.feed_screens.specs.Serving.{HasEnd, IsEnding, AllEnd}

ended_ends : (way : Way) (log : Backlog) (told : Option (List ℕ)) (now : ℕ) (s : Screen) → s.way ≡ way → HasEnd (ended_at way log told now s).way
ended_ends (CatchesUp token) log told now s is = tt
ended_ends (OnLog at) log None now s is = tt
ended_ends (OnLog at) log (Some token) now s is = tt
ended_ends (Stops token) log told now s is = subst HasEnd (sym is) tt
ended_ends Over log told now s is = subst HasEnd (sym is) tt

seat_ends : (log : Backlog) (told : Option (List ℕ)) (now : ℕ) (old new : Option Seat) → EndsSeat log told now old new → IsEnding new
seat_ends log told now None new ends = subst IsEnding (sym ends) tt
seat_ends log told now (Some (Asks asking)) new ends = subst IsEnding (sym ends) tt
seat_ends log told now (Some (Watches s)) new (t, is, becomes) =
    subst IsEnding (sym is) (subst (λ u. HasEnd u.way) (sym becomes) (ended_ends s.way log told now s refl))

pub all_ended : (old new : Hub) (log : Backlog) (told : Option (List ℕ)) (now : ℕ)
    → ((key : Key) → EndsSeat log told now (seat_at old.seats.slab key) (seat_at new.seats.slab key) ⊎ IsCut old.seats.slab new.seats.slab key) → AllEnd new
all_ended old new log told now left key = by (left key)
  where
    by : EndsSeat log told now (seat_at old.seats.slab key) (seat_at new.seats.slab key) ⊎ IsCut old.seats.slab new.seats.slab key → IsEnding (seat_at new.seats.slab key)
    by (inl ends) = seat_ends log told now (seat_at old.seats.slab key) (seat_at new.seats.slab key) ends
    by (inr cut) = subst IsEnding (sym cut.cut) tt

pub end_same : (old new : Hub) → new.seats ≡ old.seats → AllEnd old → AllEnd new
end_same old new same all key = subst IsEnding (sym (ap (λ s. seat_at s.slab key) same)) (all key)

pub end_kept : {Holds : Seat → Type 0} (old new : Hub) → KeepsThose Holds old.seats.slab new.seats.slab → AllEnd old → AllEnd new
end_kept old new keeps all key = by (seat_at new.seats.slab key) refl
  where
    by : (seat : Option Seat) → seat_at new.seats.slab key ≡ seat → IsEnding (seat_at new.seats.slab key)
    by None is = subst IsEnding (sym is) tt
    by (Some seat) is = subst IsEnding ((keeps.kept key seat is).0 ∙ sym is) (all key)
