-- A mirror that was brought all that was sent is where the last of it was sent.
use Rattle.std.proofs.Common.{◌≡◌, refl, sym, ap, ◌∙◌, subst, ℕ, zero, suc, ◌+◌, ◌-◌, ◌≤◌, Bool, true, false, arith, List, [], ◌∷◌, ◌++◌, length, Option, Some, None, IfSome, nat_le, leb-false, nat_lt, ltb-false, length-append, slice_get}
use Rattle.std.specs.Prelude.{if◌then◌else◌}
use Rattle.std.specs.Option.{option_and_then}
use Rattle.feed_settings.specs.Limits.{Limits, History}
use Rattle.feed_world.specs.Connection.{Part, Snapshot, Commit, Line_feed, Connection, part_text, parts_text, come_by, block_onto, blocks_within, blocks_come, moved_by, GoOn, first_parts}
use Rattle.feed_world.specs.Log.{Log, numbered}
use Rattle.feed_world.specs.Position.{Position, renewed}
use Rattle.feed_world.specs.States.{ConnectionState, FollowingMirror, WorldState, AreLinked, AreMirrors, IsWorld, IsAsFarAs, HasReadAll}
use Rattle.feed_world.specs.World.{Mirror, World, place_at, connection_at}
use Rattle.feed_world.proofs.Responses.{come_all}

abbrev pub blocks_of : List Part → List Part
blocks_of [] = []
blocks_of (part ∷ parts) = block_onto part (blocks_of parts)

within : (a b : ℕ) (part : Part) (bs cs : List Part) → bs ≡ cs → (if nat_le a (a + b) then block_onto part bs else []) ≡ block_onto part cs
within a b part bs cs e = by (nat_le a (a + b)) refl
  where
    by : (t : Bool) → nat_le a (a + b) ≡ t → (if t then block_onto part bs else []) ≡ block_onto part cs
    by true f = ap (block_onto part) e
    by false f = let less = leb-false a (a + b) f in absurd (omega arith)

pub all_blocks : (log : Log) (parts : List Part) (n : ℕ) → n ≡ length (parts_text log parts) → blocks_within log parts n ≡ blocks_of parts
all_blocks log [] n e = refl
all_blocks log (part ∷ parts) n e =
    let a = length (part_text log part) in
    let b = length (parts_text log parts) in
    let whole : n ≡ a + b = e ∙ length-append (part_text log part) (parts_text log parts) in
    let rest : n - a ≡ b = omega (arith, whole) in
    subst (λ m. (if nat_le a m then block_onto part (blocks_within log parts (n - a)) else []) ≡ block_onto part (blocks_of parts)) (sym whole)
    (within a b part (blocks_within log parts (n - a)) (blocks_of parts) (all_blocks log parts (n - a) rest))

-- a mirror that has the number of what was sent before, or a later one, has that of the last
goes_to : (history : History) (log : Log) (parts : List Part) (k last : ℕ) (p : Position) → k ≤ p.at → GoOn k parts last → IsAsFarAs (moved_by history log (Some p) (blocks_of parts)) last
goes_to history log [] k last p e g = omega (arith, e, g)
goes_to history log (Line_feed ∷ parts) k last p e g = goes_to history log parts k last p e g
goes_to history log (Commit n ∷ parts) k last p e g = goes_to history log parts (k + 1) last (if nat_lt p.at n then renewed history log n p.low else p) (by (nat_lt p.at n) refl) g.1
  where
    by : (b : Bool) → nat_lt p.at n ≡ b → k + 1 ≤ (if b then renewed history log n p.low else p).at
    by true is = omega (arith, g.0)
    by false is = let less = ltb-false p.at n is in omega (arith, g.0)
goes_to history log (Snapshot n ∷ parts) k last p e g = absurd g

pub comes_to : (history : History) (log : Log) (before : Option Position) (fresh : Bool) (start last : ℕ) (more : List Part)
    → (fresh ≡ false → (own : Position) × (before ≡ Some own) × (own.low ≤ start) × (start ≤ own.at)) → GoOn start more last
    → IsAsFarAs (moved_by history log before (blocks_of (first_parts fresh start ++ more))) last
comes_to history log before true start last more s g = goes_to history log more start last (record { at = start; low = start }) (omega arith) g
comes_to history log before false start last more s g =
    let own = s refl in
    subst (λ o. IsAsFarAs (moved_by history log o (blocks_of more)) last) (sym own.1) (goes_to history log more start last own.0 own.3 g)

read_all : (limits : Limits) (log : Log) (m : Mirror) (c : Connection) (f : FollowingMirror) (s : ConnectionState) → AreLinked limits log m (Some c) f (Some s) → HasReadAll log m.place c
read_all limits log m c f s h all =
    let r = h.1 in
    let o = r.opened in
    let order = o.order in
    let come : come_by log c c.delivered ≡ length (parts_text log c.parts) = come_all log c c.delivered (omega (arith, all)) in
    let blocks : blocks_come log c c.delivered ≡ blocks_of (first_parts c.fresh c.start ++ order.more) = all_blocks log c.parts (come_by log c c.delivered) come ∙ ap blocks_of order.parts in
    subst (λ place. IsAsFarAs place c.last) (sym (r.place ∙ ap (moved_by limits.history log r.before) blocks)) (comes_to limits.history log r.before c.fresh c.start c.last order.more o.start order.go_on)

linked_all : (limits : Limits) (log : Log) (m : Mirror) (f : FollowingMirror) (c : Option Connection) (s : Option ConnectionState) → AreLinked limits log m c f s → IfSome c (HasReadAll log m.place)
linked_all limits log m f None s h = tt
linked_all limits log m f (Some c) None h = absurd h
linked_all limits log m f (Some c) (Some s) h = read_all limits log m c f s h

all_at : (limits : Limits) (log : Log) (ms : List Mirror) (fs : List FollowingMirror) (i : ℕ) → AreMirrors limits log ms fs
    → IfSome (option_and_then (λ m. m.connection) (slice_get ms i)) (HasReadAll log (option_and_then (λ m. m.place) (slice_get ms i)))
all_at limits log [] fs i h = tt
all_at limits log (m ∷ ms) [] i h = absurd h
all_at limits log (m ∷ ms) (f ∷ fs) zero h = linked_all limits log m f m.connection f.connection h.0.linked
all_at limits log (m ∷ ms) (f ∷ fs) (suc i) h = all_at limits log ms fs i h.1

pub has_read_all : (w : World) (s : WorldState) → IsWorld w s → (i : ℕ) → IfSome (connection_at w i) (HasReadAll (numbered w.log) (place_at w i))
has_read_all w s h zero = tt
has_read_all w s h (suc i) = all_at w.limits (numbered w.log) w.mirrors s.followers i h.nodes.mirrors
