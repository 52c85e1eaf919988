-- What texts begin with.
use Rattle.std.proofs.Common.{◌≡◌, sym, ap, ◌∙◌, ℕ, List, ◌++◌, length, take, drop, append_assoc, Bool, true, false, arith}
use Rattle.std.specs.Prelude.{if◌then◌else◌, Result, Ok, Err, OnOk, OnErr}
use Rattle.std.proofs.Math.Seq.{take-append_seam}
use Rattle.std.proofs.lemmas.List.{take-append-drop, take_all}
use Rattle.feed_text.specs.Beginnings.{Begins}

-- what begins with p and more begins with p
pub Begins-append : (p x y q : List ℕ) → q ≡ p ++ x → Begins q y → Begins p y
Begins-append p x y q e h =
    let whole : y ≡ p ++ (x ++ drop (length q) y) = sym (take-append-drop (length q) y) ∙ ap (λ l. l ++ drop (length q) y) (h ∙ e) ∙ append_assoc p x (drop (length q) y) in
    ap (take (length p)) whole ∙ take-append_seam p _

pub Begins-same : (p y : List ℕ) → y ≡ p → Begins p y
Begins-same p y e = ap (take (length p)) e ∙ take_all (length p) p (omega arith)

-- what was appended, or not, stands behind p
pub Begins-or_same : (appended : Bool) (p x y : List ℕ) → y ≡ (if appended then p ++ x else p) → Begins p y
Begins-or_same true p x y e = ap (take (length p)) e ∙ take-append_seam p x
Begins-or_same false p x y e = Begins-same p y e

pub Begins-either : {A E : Type 0} (r : Result A E) (p x y : List ℕ) → OnOk r (y ≡ p ++ x) → OnErr r (y ≡ p) → Begins p y
Begins-either (Ok v) p x y done failed = Begins-or_same true p x y done
Begins-either (Err v) p x y done failed = Begins-same p y failed
