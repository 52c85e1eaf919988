use Rattle.std.proofs.Common.{◌≡◌, ◌≢◌, List, ℕ, ◌++◌, ◌+◌, length, take, drop, true, false, sym, ap, ◌∙◌, take-append-drop}
use Rattle.std.specs.Prelude.{Option, Some, None, MatchOption}
use Rattle.std.specs.Borrow.{Bor}
use Rattle.std.specs.Str.{bytes_eq}
use Rattle.std.proofs.lemmas.Slice.Eq.{bytes_eq-Decides}
use Rattle.std.proofs.Math.Seq.{take-append_seam}
use Rattle.feed_wire.proofs.request_target.behind.Goals as goal

none_behind : (text prefix : List ℕ) → bytes_eq (take (length prefix) text) prefix ≡ false
    → (rest : List ℕ) → text ≢ prefix ++ rest
none_behind text prefix differs rest is =
    let same : take (length prefix) text ≡ prefix = ap (take (length prefix)) is
    ∙ take-append_seam prefix rest in
    let yes : bytes_eq (take (length prefix) text) prefix ≡ true =
    (bytes_eq-Decides (take (length prefix) text) prefix).1 same in
    cc

some_behind : (text prefix : List ℕ) → bytes_eq (take (length prefix) text) prefix ≡ true
    → text ≡ prefix ++ drop (length prefix) text
some_behind text prefix same =
    let is : take (length prefix) text ≡ prefix =
    (bytes_eq-Decides (take (length prefix) text) prefix).0 same in
    sym (take-append-drop (length prefix) text) ∙ ap (λ l. l ++ drop (length prefix) text) is

strips : (o : Option (Bor (List ℕ))) (text prefix : List ℕ)
    → MatchOption o (bytes_eq (take (length prefix) text) prefix ≡ false)
    (λ x. (bytes_eq (take (length prefix) text) prefix ≡ true) × (x.now ≡ drop (length prefix) text)
    × (length x.now + length prefix ≡ length text))
    → MatchOption o ((rest : List ℕ) → text ≢ prefix ++ rest) (λ rest. text ≡ prefix ++ rest.now)
strips None text prefix differs = none_behind text prefix differs
strips (Some x) text prefix (same, is, many) = some_behind text prefix same
    ∙ ap (λ l. prefix ++ l) (sym is)

pub returns : goal.returns
returns c = strips c.strip_prefix.result c.args.text.now c.args.prefix.now
    c.strip_prefix.ensures.cases
