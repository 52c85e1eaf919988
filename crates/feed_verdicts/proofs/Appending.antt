-- Texts that are appended one after the other.
use Rattle.std.proofs.Common.{◌≡◌, ◌∙◌, ap, ℕ, List, ◌++◌, append_assoc, Result, Ok, Err, OnOk, if◌then◌else◌}
use Rattle.std.specs.Prelude.{is_ok}

-- what an append comes to at the end
pub on_ok_extended : {E : Type 0} (r : Result (Unit {0}) E) (n m q w : List ℕ) → n ≡ (if is_ok r then m ++ q else m) → m ++ q ≡ w → OnOk r (n ≡ w)
on_ok_extended (Ok u) n m q w e f = e ∙ f
on_ok_extended (Err x) n m q w e f = tt

-- one text more, behind all those that were appended
more : (o m w q : List ℕ) → m ≡ o ++ w → m ++ q ≡ o ++ (w ++ q)
more o m w q e = ap (λ l. l ++ q) e ∙ append_assoc o w q

pub parts3 : (o n1 n2 a b c : List ℕ) → n1 ≡ o ++ a → n2 ≡ n1 ++ b → n2 ++ c ≡ o ++ (a ++ b ++ c)
parts3 o n1 n2 a b c e1 e2 = more o n2 (a ++ b) c (e2 ∙ more o n1 a b e1)

pub parts4 : (o n1 n2 n3 a b c d : List ℕ) → n1 ≡ o ++ a → n2 ≡ n1 ++ b → n3 ≡ n2 ++ c → n3 ++ d ≡ o ++ (a ++ b ++ c ++ d)
parts4 o n1 n2 n3 a b c d e1 e2 e3 = more o n3 (a ++ b ++ c) d (e3 ∙ parts3 o n1 n2 a b c e1 e2)

pub parts5 : (o n1 n2 n3 n4 a b c d e : List ℕ) → n1 ≡ o ++ a → n2 ≡ n1 ++ b → n3 ≡ n2 ++ c → n4 ≡ n3 ++ d
    → n4 ++ e ≡ o ++ (a ++ b ++ c ++ d ++ e)
parts5 o n1 n2 n3 n4 a b c d e e1 e2 e3 e4 = more o n4 (a ++ b ++ c ++ d) e (e4 ∙ parts4 o n1 n2 n3 a b c d e1 e2 e3)

pub parts7 : (o n1 n2 n3 n4 n5 n6 a b c d e f g : List ℕ) → n1 ≡ o ++ a → n2 ≡ n1 ++ b → n3 ≡ n2 ++ c → n4 ≡ n3 ++ d → n5 ≡ n4 ++ e
    → n6 ≡ n5 ++ f → n6 ++ g ≡ o ++ (a ++ b ++ c ++ d ++ e ++ f ++ g)
parts7 o n1 n2 n3 n4 n5 n6 a b c d e f g e1 e2 e3 e4 e5 e6 =
    more o n6 (a ++ b ++ c ++ d ++ e ++ f) g (e6 ∙ more o n5 (a ++ b ++ c ++ d ++ e) f (e5 ∙ parts5 o n1 n2 n3 n4 a b c d e e1 e2 e3 e4))
