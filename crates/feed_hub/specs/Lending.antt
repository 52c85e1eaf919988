-- What a mirror that answers many ends as, where it was lent to be changed.
use Rattle.std.specs.Prelude.{None}
use Rattle.std.proofs.lemmas.Option.{none-some}
use Rattle.std.specs.Borrow.{Lends, MutBor, Fml}
use Rattle.feed_node.specs.Mirroring.{MirrorState}
use Rattle.feed_node.specs.contracts.mirror.Mirror.{the_row as mirror_row}
use Rattle.feed_hub.specs.declared.answering.Answering.{Answering}
use Rattle.feed_hub.specs.contracts.answering.Answering.{the_row}

-- the same with this mirror, and with no text kept
abbrev pub with_mirror : Answering → MirrorState → Answering
with_mirror answering mirror =
    record answering
    { mirror = mirror; opening = None; fits = λ text none. absurd (none-some text none) }

-- it ends with the mirror as it was left
abbrev pub LendsMirror : MutBor Answering → MutBor MirrorState → Fml
LendsMirror answering lent = Lends the_row mirror_row answering lent (with_mirror answering.now)
