-- Lemmas on addresses.
use Rattle.std.proofs.Common.{◌≡◌, ◌≢◌, refl, sym, ap, ◌∙◌, subst, ◌+◌, ◌<◌, ◌≤◌, ◌++◌, ◌∷◌, [], List, ℕ, true, false, Option, None, Some, length, take, drop, arith, length-append, append_assoc, map, IfSome}
use Rattle.std.specs.Prelude.{◌==◌, slice_index, slice_index_or}
use Rattle.std.specs.Borrow.{Bor}
use Rattle.std.specs.Option.{MatchOption}
use Rattle.std.specs.Str.{NoCharPasses}
use Rattle.std.specs.Str.Parse.{AllDigits}
use Rattle.std.specs.Str.Pattern.{RFindsChar}
use Rattle.std.proofs.Math.Seq.{get_or-append_seam}
use Rattle.std.proofs.lemmas.List.{take-append-drop, take_more, get_or-map, map-append, length-map}
use Rattle.std.proofs.lemmas.Str.Parse.{digit_at}
use Rattle.std.proofs.lemmas.Str.Pattern.{NoCharPasses-char, drop_at_char}
use Rattle.feed_settings.specs.Place.{is_host}
use Rattle.std.specs.List.{AllWithin, HoldsAt}
use Rattle.feed_arguments.specs.Addresses.{parts, IsPort, IsAddress, IsSomeAddress, IsNoAddress, IsFirstBad, AreGood, AreAddresses, IsListOf}

-- the byte is not in the text
abbrev pub Lacks : ℕ → List ℕ → Type 0
Lacks c text = (i : ℕ) → i < length text → slice_index text i ≢ c

-- what `rsplit_once` says of a text that is cut at an ASCII character
abbrev pub IsCutAtLast : ℕ → List ℕ → Option (Bor (List ℕ) × Bor (List ℕ)) → Type 0
IsCutAtLast c text r = MatchOption r (RFindsChar c text None)
    (λ x. (i : ℕ) × (j : ℕ) × RFindsChar c text (Some (i, j)) × (x.0.now ≡ take i text)
    × (x.1.now ≡ drop j text) × (i ≤ j) × (length x.0.now ≡ i) × (length x.1.now + j ≡ length text))

pub last_cut : (c : ℕ) (text : List ℕ) (r : Option (Bor (List ℕ) × Bor (List ℕ))) → IsCutAtLast c text r → c < 128
    → MatchOption r (Lacks c text) (λ x. (text ≡ x.0.now ++ c ∷ x.1.now) × Lacks c x.1.now)
last_cut c text None h low = λ i. NoCharPasses-char c text i h low
last_cut c text (Some x) h low = (
  sym (take-append-drop h.0 text) ∙ (λ k. sym h.3 k ++
      (drop_at_char c text h.0 h.1 h.2.1 low ∙ ap (λ l. c ∷ l) (sym h.4)) k),
  λ i. NoCharPasses-char c x.1.now i (subst (NoCharPasses (λ d. d == c)) (sym h.4) h.2.0) low,
)

-- where the byte stands behind xs
pub not_in : (c : ℕ) (text xs ys : List ℕ) → Lacks c text → text ≡ xs ++ c ∷ ys → ⊥
not_in c text xs ys lacks e =
    let here : slice_index text (length xs) ≡ c = ap (λ l. slice_index l (length xs)) e
    ∙ get_or-append_seam xs c ys 0 in
    let inside : length xs < length text = omega (arith, ap length e, length-append xs (c ∷ ys)) in
    lacks (length xs) inside here

-- a text is cut at the last such byte in one way
pub same_cut : (c : ℕ) (xs ys us vs : List ℕ) → xs ++ c ∷ ys ≡ us ++ c ∷ vs → Lacks c ys → Lacks c vs → (xs ≡ us)
    × (ys ≡ vs)
same_cut c [] ys [] vs e a b = (refl, cc)
same_cut c [] ys (u ∷ us) vs e a b = absurd (not_in c ys us vs a (cc))
same_cut c (x ∷ xs) ys [] vs e a b = absurd (not_in c vs xs ys b (cc))
same_cut c (x ∷ xs) ys (u ∷ us) vs e a b =
    let first : x ≡ u = cc in
    let rest : xs ++ c ∷ ys ≡ us ++ c ∷ vs = cc in
    let same = same_cut c xs ys us vs rest a b in
    ((λ k. first k ∷ same.0 k), same.1)

pub digits_lack : (digits : List ℕ) → AllDigits 10 digits → Lacks 58 digits
digits_lack digits all i inside e = let at = digit_at digits i all inside in omega (arith, at, e)

-- a text without a colon, one whose host is none, and one whose port is none
pub bad_without_colon : (text : List ℕ) → Lacks 58 text → IsNoAddress text
bad_without_colon text lacks good = not_in 58 text good.0.0 good.1.digits lacks good.1.is

pub bad_host : (text host digits : List ℕ) → text ≡ host ++ 58 ∷ digits → Lacks 58 digits → is_host host ≡ false
    → IsNoAddress text
bad_host text host digits is lacks none good =
    let same = same_cut 58 host digits good.0.0 good.1.digits (sym is ∙ good.1.is) lacks
    (digits_lack good.1.digits good.1.port.digits) in
    let other : is_host host ≡ true = ap is_host same.0 ∙ good.1.host in
    absurd (cc)

pub bad_port : (text host digits : List ℕ) → text ≡ host ++ 58 ∷ digits → Lacks 58 digits
    → ((port : ℕ) → ¬ (IsPort digits port)) → IsNoAddress text
bad_port text host digits is lacks none good =
    let same = same_cut 58 host digits good.0.0 good.1.digits (sym is ∙ good.1.is) lacks
    (digits_lack good.1.digits good.1.port.digits) in
    none good.0.1 (subst (λ d. IsPort d good.0.1) (sym same.1) good.1.port)

-- the first part that a search finds is the first that is no address
pub first_of : (all : List (List ℕ)) (r : Option ℕ)
    → MatchOption r (AreGood all) (λ i. (i < length all) × HoldsAt IsNoAddress all i × AllWithin IsSomeAddress all 0 i)
    → MatchOption r (AreGood all) (IsFirstBad all)
first_of all None h = h
first_of all (Some i) h = record { inside = h.0; bad = h.1; earlier = h.2 }

-- one more part is an address
pub are_more : (parts : List (List ℕ)) (part : List ℕ) (addresses : List (List ℕ × ℕ)) (address : List ℕ × ℕ)
    → AreAddresses parts addresses → IsAddress part address
    → AreAddresses (parts ++ part ∷ []) (addresses ++ address ∷ [])
are_more [] part [] address are is = (is, tt)
are_more [] part (a ∷ addresses) address are is = absurd are
are_more (p ∷ parts) part [] address are is = absurd are
are_more (p ∷ parts) part (a ∷ addresses) address are is = (are.0, are_more parts part addresses address are.1 is)

pub as_many : (parts : List (List ℕ)) (addresses : List (List ℕ × ℕ)) → AreAddresses parts addresses
    → length parts ≡ length addresses
as_many [] [] are = refl
as_many [] (a ∷ addresses) are = absurd are
as_many (p ∷ parts) [] are = absurd are
as_many (p ∷ parts) (a ∷ addresses) are = omega (arith, as_many parts addresses are.1)

module _ {X Y : Type 0} (f : X → Y) (xs : List X) (i : ℕ) (d x : X) (inside : i < length xs)
    (is : slice_index_or xs i d ≡ x) where
  pub mapped_at : (e : Y) → slice_index_or (map f xs) i e ≡ f x
  mapped_at e = get_or-map f xs i d e inside ∙ ap f is

  pub mapped_next : take (i + 1) (map f xs) ≡ take i (map f xs) ++ f x ∷ []
  mapped_next = take_more (map f xs) i (f d) (omega (arith, inside, length-map xs f))
      ∙ ap (λ y. take i (map f xs) ++ y ∷ []) (mapped_at (f d))

  -- what was made of the elements so far, and of this one
  pub more_mapped : {Z : Type 0} (g : Y → Z) (before middle now : List Z)
      → middle ≡ before ++ map g (take i (map f xs)) → now ≡ middle ++ g (f x) ∷ []
      → now ≡ before ++ map g (take (i + 1) (map f xs))
  more_mapped g before middle now so_far more =
      more ∙ ap (λ l. l ++ g (f x) ∷ []) so_far ∙ append_assoc before (map g (take i (map f xs))) (g (f x) ∷ [])
      ∙ ap (λ l. before ++ l) (sym (map-append g (take i (map f xs)) (f x ∷ [])) ∙ ap (map g) (sym mapped_next))

-- of parts that are addresses, the one at this place; and what there is once it was taken
pub good_part : (all : List (Bor (List ℕ))) (i : ℕ) (d : Bor (List ℕ)) → i < length all
    → AreGood (map (λ part. part.now) all) → IsSomeAddress (slice_index_or all i d).now
good_part all i d inside good =
    subst IsSomeAddress (mapped_at (λ part. part.now) all i d (slice_index_or all i d) inside refl [])
    (good i [] (omega arith) (omega (arith, inside, length-map all (λ part. part.now))))

pub more_parts : (all : List (Bor (List ℕ))) (i : ℕ) (d : Bor (List ℕ)) (addresses now : List (List ℕ × ℕ))
    → i < length all → AreAddresses (take i (map (λ part. part.now) all)) addresses
    → (address : List ℕ × ℕ) × IsAddress (slice_index_or all i d).now address × (now ≡ addresses ++ address ∷ [])
    → AreAddresses (take (i + 1) (map (λ part. part.now) all)) now
more_parts all i d addresses now inside are more =
    subst (λ l. AreAddresses l now) (sym (mapped_next (λ part. part.now) all i d (slice_index_or all i d) inside refl))
    (subst (λ l. AreAddresses (take i (map (λ part. part.now) all) ++ (slice_index_or all i d).now ∷ []) l) (sym more.2)
    (are_more (take i (map (λ part. part.now) all)) (slice_index_or all i d).now addresses more.0 are more.1))

pub list_of : (text : List ℕ) (found : List (List ℕ)) (addresses : List (List ℕ × ℕ)) → found ≡ parts text
    → AreAddresses found addresses → length (parts text) ≤ 16 → IsListOf text addresses
list_of text found addresses is are few =
    let all = subst (λ l. AreAddresses l addresses) is are in
    record { all = all; few = omega (arith, as_many (parts text) addresses all, few) }
