-- Lemmas on what reads give and writes take.
use Rattle.std.proofs.Common.{◌≡◌, ℕ, ◌+◌, ◌^◌, inl, inr, arith, ◌-◌, ◌≤◌, List, ◌++◌, length, take, drop, sym, ap, ◌∙◌, append_assoc, take-append-drop, subst, Option, []}
use Rattle.std.specs.Prelude.{Some, None}
use Rattle.std.proofs.lemmas.List.{length-take-le, take_rest}
use Rattle.std.proofs.Math.Seq.{take-append_seam}
use Rattle.std.proofs.lemmas.Bool.{cases_lt}
use Rattle.std.specs.Io.KnownBytes.{Consumes, Keeps}
use Rattle.std.proofs.KnownBytes.{Consumes-trans}
use Rattle.feed_http.specs.Device.{counted, HasFailed, RoseBy, Moved, MovedSome}

-- what was copied is the prefix of what was left
pub given_prefix : (left copied tail : List ℕ) (n : ℕ) → copied ≡ take n left → n ≤ length left
    → left ≡ take n (copied ++ tail) ++ drop n left
given_prefix left copied tail n e fits =
    let len : length copied ≡ n = ap length e ∙ length-take-le n left fits in
    let whole : take n (copied ++ tail) ≡ copied = ap (λ k. take k (copied ++ tail)) (sym len) ∙ take-append_seam copied tail in
    sym (take-append-drop n left) ∙ ap (λ l. l ++ drop n left) (sym e ∙ sym whole)

-- the prefix of the rest joins what is done
pub moves_prefix : (all done rest : List ℕ) (n : ℕ) → all ≡ done ++ rest
    → all ≡ (done ++ take n rest) ++ take (length rest - n) (drop n rest)
moves_prefix all done rest n e =
    e ∙ ap (λ l. done ++ l) (sym (take-append-drop n rest)) ∙ sym (append_assoc done (take n rest) (drop n rest))
    ∙ ap (λ l. (done ++ take n rest) ++ l) (sym (take_rest rest n))

-- the count is one more, or stands
rose_on : (old new n : ℕ) → new ≡ counted (old + n) 1 → RoseBy old new (n + 1)
rose_on old new n e =
    elim (cases_lt (old + n + 1) (2 ^ 64 - 1)) [ inl h ↦ inl (omega arith) | inr h ↦ inr (omega arith) ]

-- one more call
pub rose_more : (old mid new n : ℕ) → RoseBy old mid n → new ≡ counted mid 1 → RoseBy old new (n + 1)
rose_more old mid new n (inl e) h = rose_on old new n (h ∙ ap (λ m. counted m 1) e)
rose_more old mid new n (inr e) h = inr (omega arith)

-- the count of failures behind a call that failed
pub failed_once : (old mid new : ℕ) → mid ≡ old → new ≡ counted mid 1 → HasFailed old new
failed_once old mid new same once =
    elim (cases_lt old (2 ^ 64 - 1)) [ inl h ↦ inl (omega arith) | inr h ↦ inr (omega arith) ]

-- what was moved before and what is moved now
pub Moved-trans : (a b c : Option (List ℕ)) (x y z : List ℕ) → Moved a b x y → Moved b c y z → Moved a c x z
Moved-trans a b c x y z (first, grown, lost) (second, more, lost_more) =
    (first ++ second, more ∙ ap (λ l. l ++ second) grown ∙ append_assoc x first second, Consumes-trans a b c first second lost lost_more)

pub MovedSome-trans : (a b c : Option (List ℕ)) (x y z : List ℕ) → Moved a b x y → MovedSome b c y z → MovedSome a c x z
MovedSome-trans a b c x y z (first, grown, lost) (second, gone, more, lost_more) = (
  first ++ second,
  gone,
  more ∙ ap (λ l. l ++ second) grown ∙ append_assoc x first second,
  subst (Consumes a c) (sym (append_assoc first second gone)) (Consumes-trans a b c first (second ++ gone) lost lost_more),
)

-- a read that failed took nothing
pub unread_nothing : (old new : Option (List ℕ)) → Keeps old new → Consumes old new []
unread_nothing None new h = tt
unread_nothing (Some xs) None h = h
unread_nothing (Some xs) (Some ys) h = sym h

-- what was taken before is all
pub taken_before : (a b c : Option (List ℕ)) (taken : List ℕ) → Consumes a b taken → Consumes b c []
    → Consumes a c taken
taken_before None b c taken h k = tt
taken_before (Some xs) None c taken h k = absurd h
taken_before (Some xs) (Some ys) None taken h k = absurd k
taken_before (Some xs) (Some ys) (Some zs) taken h k = h ∙ ap (λ l. taken ++ l) k
