-- Lemmas on where a line begins.
use Rattle.std.proofs.Common.{◌≡◌, refl, sym, ap, ◌∙◌, subst, ℕ, ◌+◌, ◌-◌, ◌≤◌, List, [], ◌∷◌, ◌++◌, length, take, append_assoc, append-nil, length-append, arith}
use Rattle.std.proofs.lemmas.Grind.{flat_map-append}
use Rattle.std.proofs.lemmas.List.{take-append-le}
use Rattle.std.specs.List.{AllByRecursion}
use Rattle.feed_note.specs.Lines.{HasNoLineFeed, ended}
use Rattle.feed_probe.specs.Surveyed.{StartsLine}

-- what stands before the rest of a text are whole lines, and the next one has this number
pub record Passed (text left : List ℕ) (number : ℕ) : Type 0 where
  pub before : List (List ℕ)
  pub whole : AllByRecursion HasNoLineFeed before
  pub is : text ≡ ended before ++ left
  pub count : number ≡ length before + 1

pub starts : (text : List ℕ) → Passed text text 1
starts text = record { before = []; whole = tt; is = refl; count = refl }

all_push : (ls : List (List ℕ)) (x : List ℕ) → AllByRecursion HasNoLineFeed ls → HasNoLineFeed x
    → AllByRecursion HasNoLineFeed (ls ++ x ∷ [])
all_push [] x h k = (k, tt)
all_push (l ∷ ls) x h k = (h.0, all_push ls x h.1 k)

regroup : (before : List (List ℕ)) (line behind : List ℕ)
    → ended before ++ (line ++ 10 ∷ behind) ≡ ended (before ++ line ∷ []) ++ behind
regroup [] line behind =
    sym (append_assoc line (10 ∷ []) behind)
    ∙ ap (λ t. t ++ behind) (sym (append-nil (line ++ 10 ∷ [])))
regroup (l ∷ ls) line behind =
    append_assoc (l ++ 10 ∷ []) (ended ls) (line ++ 10 ∷ behind)
    ∙ ap (λ t. (l ++ 10 ∷ []) ++ t) (regroup ls line behind)
    ∙ sym (append_assoc (l ++ 10 ∷ []) (ended (ls ++ line ∷ [])) behind)

-- one line more
pub more : (text left line behind : List ℕ) (number : ℕ) → HasNoLineFeed line → left ≡ line ++ 10 ∷ behind
    → Passed text left number → Passed text behind (number + 1)
more text left line behind number unbroken split p = record {
  before = p.before ++ line ∷ [];
  whole = all_push p.before line p.whole unbroken;
  is = p.is ∙ ap (λ t. ended p.before ++ t) split ∙ regroup p.before line behind;
  count = let n = p.count in omega (arith, n, length-append p.before (line ∷ []));
}

whole_prefix : (xs ys : List ℕ) → take (length xs) (xs ++ ys) ≡ xs
whole_prefix [] ys = refl
whole_prefix (x ∷ xs) ys = ap (λ t. x ∷ t) (whole_prefix xs ys)

-- where the next line begins
pub begins : (text left : List ℕ) (number place : ℕ) → place + length left ≡ length text → Passed text left number
    → StartsLine text number place
begins text left number place at p =
    let here : place ≡ length (ended p.before) =
    let all = ap length p.is in omega (arith, at, all, length-append (ended p.before) left) in
    record {
      before = p.before;
      whole = p.whole;
      is = ap (take place) p.is ∙ ap (λ n. take n (ended p.before ++ left)) here
          ∙ whole_prefix (ended p.before) left;
      count = p.count;
    }

-- what is left gets shorter
pub shorter : (left line behind : List ℕ) (most : ℕ) → left ≡ line ++ 10 ∷ behind → length left ≤ most
    → length behind ≤ most
shorter left line behind most split fits =
    let all = ap length split in omega (arith, all, fits, length-append line (10 ∷ behind))
