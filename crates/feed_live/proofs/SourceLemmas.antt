-- How the steps of a source stay at places of the log.
use Rattle.std.proofs.Common.{◌≡◌, ◌≤◌, refl, ap, sym, ◌∙◌, subst, ℕ, zero, suc, ◌-◌, arith, List, [], ◌∷◌, length, Option}
use Rattle.std.specs.Prelude.{Bool, false, true, ◌&&◌, ◌||◌, if◌then◌else◌, is_some, None, Some, IfSome, MatchOption, IsSome, Contains, slice_get, Result, Ok, Err, option_map}
use Rattle.std.specs.Result.{is_err}
use Rattle.feed_settings.specs.Limits.{Limits}
use Rattle.feed_node.specs.Publishing.{Published}
use Rattle.feed_node.specs.Mirroring.{MirrorState}
use Rattle.feed_node.specs.States.{NodeState, nothing_published, published_token, IsConsistent, HoldsItsTokens}
use Rattle.feed_follow.specs.Follower.{FollowerState}
use Rattle.feed_world.specs.Log.{Log}
use Rattle.feed_device.specs.Links.{Exchanges, BeginsLink, one_more}
use Rattle.feed_screens.specs.declared.screens.Screens.{Screens}
use Rattle.feed_live.specs.declared.source.Reach.{Reach}
use Rattle.feed_live.specs.declared.source.Reach.TheVariants.{Connects, Asks}
use Rattle.feed_live.specs.declared.source.Source.{Source}
use Rattle.feed_live.specs.Relaying.{pursuit, MayFollow, WasLeft, StillFollows, within_turn}
use Rattle.feed_live.specs.Upstream.{Servers, AreKnownHonest}
use Rattle.feed_device.specs.declared.report.Why.{Why}
use Rattle.feed_hub.specs.Upstream.{later}
use Rattle.feed_live.specs.Leaving.{IsBy, LooksInTime, heard_time, is_end, late_time, look_at, newest_time, quiet_at}
use Rattle.feed_live.proofs.RelayLemmas.{with_left, opens_follows}

-- the server was left
pub left_still : {old new : Source} {before after : Exchanges} → WasLeft old new before after
    → (screens : Screens) → StillFollows (within_turn before old old.rest.items screens) (within_turn after new new.rest.items screens)
left_still {old} {new} left screens limits log servers contest sockets follows =
    (left.servers ∙ follows.0, with_left limits log servers left new.rest.items follows.1.0)

-- the connection is open
pub with_open : (limits : Limits) (log : Log) (servers : Servers) {X : Type 0} (is_shown : Bool) (reach : Reach) (request unread : List ℕ) (before after : Exchanges) (since : ℕ) (follower : Option FollowerState) (mirror : MirrorState)
    → reach ≡ Connects since → after ≡ before
    → (AreKnownHonest limits log servers before → X) × (IsSome before → MayFollow limits log servers before (pursuit is_shown reach request unread follower mirror))
    → (AreKnownHonest limits log servers after → X) × (IsSome after → MayFollow limits log servers after (pursuit is_shown (Asks 0) request unread follower mirror))
with_open limits log servers is_shown reach request unread before after since follower mirror is same follows = (
  λ honest. follows.0 (subst (λ e. AreKnownHonest limits log servers e) same honest),
  λ known.
      let here = follows.1 (subst (λ e. IsSome e) same known) in
      subst (λ e. MayFollow limits log servers e (pursuit is_shown (Asks 0) request unread follower mirror)) (sym same)
      (opens_follows limits log servers is_shown request unread before since follower mirror
      (subst (λ r. MayFollow limits log servers before (pursuit is_shown r request unread follower mirror)) is here)),
)

-- a connection was begun, which did not fail
pub begins_so : {A E : Type 0} (result : Result A E) (old new : Exchanges) (server : ℕ) → is_err result ≡ false → BeginsLink old new result server → new ≡ option_map (one_more server) old
begins_so (Ok a) old new server none begins = begins
begins_so (Err e) old new server none begins = absurd (cc)

-- none was begun
pub fails_so : {A E : Type 0} (result : Result A E) (old new : Exchanges) (server : ℕ) → is_err result ≡ true → BeginsLink old new result server → new ≡ old
fails_so (Ok a) old new server is begins = absurd (cc)
fails_so (Err e) old new server is begins = begins

-- what holds of a value, if there is one, gives this
pub some_so : {A : Type 0} {P Q : A → Type 0} (found : Option A) → ((value : A) → P value → Q value) → IfSome found P → IfSome found Q
some_so None change given = tt
some_so (Some value) change given = change value given

-- no later than what is no later
pub at_most_so : {a b c : ℕ} → a ≤ b → b ≤ c → a ≤ c
at_most_so one two = omega (arith, one, two)

pub by_sooner : (at : Option ℕ) {sooner due : ℕ} → sooner ≤ due → IsBy at due → IsBy at sooner
by_sooner None before by = tt
by_sooner (Some at) before by = omega (arith, before, by)

-- ---- tokens

among_at : (xs : List (List ℕ)) (i : ℕ) (x : List ℕ) → slice_get xs i ≡ Some x → Contains xs x
among_at [] i x e = absurd (cc)
among_at (y ∷ ys) zero x e = (0, omega arith, cc)
among_at (y ∷ ys) (suc i) x e = let (k, within, is) = among_at ys i x e in (suc k, omega (arith, within), is)

-- the published token is held
pub newest_held : (node : NodeState) (token : List ℕ) → IsConsistent node → published_token node ≡ Some token → Contains node.held token
newest_held node token consistent is = by node.published consistent is
  where
    by : (published : Option Published) → MatchOption published (node ≡ nothing_published) (HoldsItsTokens node) → option_map (λ p. p.token) published ≡ Some token
        → Contains node.held token
    by None consistent is = absurd (cc)
    by (Some p) holds is = among_at node.held (length node.held - 1) token (holds.newest ∙ is)

heard_if_any : (b : Bool) (since : Option ℕ) → since ≡ None → is_some (if b then None else option_map (λ since. later since 1000) since) ≡ false
heard_if_any true since none = refl
heard_if_any false since none = ap (λ at. is_some (option_map (λ since. later since 1000) at)) none

as_before : (heard ends : Bool) → (heard || ends && false) ≡ heard
as_before true ends = refl
as_before false true = refl
as_before false false = refl

-- one whose head has not come is not heard
pub never_heard : (source : Source) (why : Why) → source.body_since ≡ None → (source.is_heard || is_end why && is_some (heard_time source)) ≡ source.is_heard
never_heard source why none =
    let quiet : is_some (heard_time source) ≡ false = heard_if_any (source.is_heard || source.is_fresh || is_some source.rechecking.again) source.body_since none in
    ap (λ q. source.is_heard || is_end why && q) quiet ∙ as_before source.is_heard (is_end why)

-- a relay that looks sooner looks in time
pub looks_sooner : {source : Source} {sooner due : ℕ} → sooner ≤ due → LooksInTime source due → LooksInTime source sooner
looks_sooner {source} by looks =
    record {
      late = by_sooner (late_time source) by looks.late;
      first = by_sooner (look_at source source.reach) by looks.first;
      quiet = by_sooner (quiet_at source source.reach) by looks.quiet;
      heard = by_sooner (heard_time source) by looks.heard;
      newest = by_sooner (newest_time source) by looks.newest;
    }

pub some_none : (x : List ℕ) → Some x ≡ None → ⊥
some_none x e = cc
