use Rattle.std.proofs.Common.{◌≡◌, refl, sym}
use Rattle.std.specs.FinMap.{entries}
use Rattle.feed_tables.proofs.Held.{in_same, same_by_in}
use Rattle.feed_tables.proofs.MapsOver.{entries_are}
use Rattle.feed_tables.proofs.map.Map.same.Goals as goal

pub returns-then-not-is_in : goal.returns-then-not-is_in
returns-then-not-is_in g c =
    let mine = c.args.self.now in
    let theirs = c.args.other.now in
    let here : c.self.inside.tree ≡ entries mine = entries_are c.self.inside.tree mine c.self.invariant.0 c.self.view_is in (
      λ clash. absurd (cc),
      λ same. c.if-not-is_in.ensures.1 (rw here (in_same mine theirs same)),
    )

pub returns : goal.returns
returns g c =
    let mine = c.args.self.now in
    let theirs = c.args.other.now in
    let here : c.self.inside.tree ≡ entries mine = entries_are c.self.inside.tree mine c.self.invariant.0 c.self.view_is in
    let there : c.other.inside.tree ≡ entries theirs = entries_are c.other.inside.tree theirs c.other.invariant.0 c.other.view_is in (
      λ is. same_by_in mine theirs
          (rw (← here) (c.if-not-is_in.ensures.0 refl))
          (rw (← there) (c.is_in-2.ensures.0 is)),
      λ same. c.is_in-2.ensures.1 (rw there (in_same theirs mine (sym same))),
    )
