-- The first eight bytes of texts, as numbers, are in the order of the texts where they differ.
use Rattle.std.proofs.Common.{◌≡◌, ℕ, zero, suc, ◌+◌, ◌*◌, ◌/◌, ◌^◌, ◌<◌, ◌≤◌, true, List, [], ◌∷◌, ◌++◌, length, refl, sym, ap, subst, ◌∙◌, inl, inr, arith, lt-ltb, le-ltb, Less, Equal, Greater}
use Rattle.std.specs.Prelude.{IsUtf8}
use Rattle.std.specs.Ordering.{nat_cmp, ordering_then}
use Rattle.std.specs.Cmp.{nat_cmp_is}
use Rattle.std.proofs.lemmas.Bool.{cases_lt, cases_order, and_parts}
use Rattle.std.proofs.lemmas.Str.{encode_ascii}
use Rattle.std.proofs.Math.Nat.{mul-le-mul_right}
use lib.Utf8.{scalar, scalars, encode, encodes, next, scalar_cases}
use Rattle.feed_changes.specs.ByteOrder.{byte_order}
use Rattle.feed_changes.specs.NameTexts.{head_of}
use Rattle.feed_changes.proofs.Order.{total, later}

-- ---- a text's bytes

abbrev AreBytes : List ℕ → Type 0
AreBytes [] = Unit {0}
AreBytes (b ∷ w) = (b < 256) × AreBytes w

both : (v w : List ℕ) → AreBytes v → AreBytes w → AreBytes (v ++ w)
both [] w vs ws = ws
both (b ∷ v) w vs ws = (vs.0, both v w vs.1 ws)

two : (c : ℕ) → 128 ≤ c → c < 2048 → encode c ≡ (192 + c / 64) ∷ next c ∷ []
unfolding encode
two c l h = rw (le-ltb c 128 l, lt-ltb c 2048 h)

three : (c : ℕ) → 2048 ≤ c → c < 65536 → encode c ≡ (224 + c / 4096) ∷ next (c / 64) ∷ next c ∷ []
unfolding encode
three c l h = rw (le-ltb c 128 (omega arith), le-ltb c 2048 l, lt-ltb c 65536 h)

four : (c : ℕ) → 65536 ≤ c → encode c ≡ (240 + c / 262144) ∷ next (c / 4096) ∷ next (c / 64) ∷ next c ∷ []
unfolding encode
four c l = rw (le-ltb c 128 (omega arith), le-ltb c 2048 (omega arith), le-ltb c 65536 l)

of_one : (c : ℕ) → scalar c ≡ true → AreBytes (encode c)
of_one c ok =
    let range = scalar_cases c ok in
    elim (cases_lt c 128) [
      | inl a ↦ rw (encode_ascii c a) (omega arith, tt)
      | inr a ↦ elim (cases_lt c 2048) [
        | inl b ↦ rw (two c a b) (omega arith, (omega arith, tt))
        | inr b ↦ elim (cases_lt c 65536) [
          | inl d ↦ rw (three c b d) (omega arith, (omega arith, (omega arith, tt)))
          | inr d ↦ rw (four c d) (omega arith, (omega arith, (omega arith, (omega arith, tt))))
        ]
      ]
    ]

of_all : (cs : List ℕ) → scalars cs ≡ true → AreBytes (encodes cs)
of_all [] ok = tt
of_all (c ∷ cs) ok =
    let parts = and_parts _ _ ok in
    both (encode c) (encodes cs) (of_one c parts.0) (of_all cs parts.1)

of_text : (w : List ℕ) → IsUtf8 w → AreBytes w
of_text w text = subst AreBytes text.1.1 (of_all text.0 text.1.0)

-- ---- the number of the first n bytes

abbrev head : ℕ → List ℕ → ℕ
head zero w = 0
head (suc n) [] = 0
head (suc n) (b ∷ w) = b * 256 ^ n + head n w

as_head : (w : List ℕ) → head_of w ≡ head 8 w
as_head [] = refl
as_head (a ∷ []) = omega arith
as_head (a ∷ b ∷ []) = omega arith
as_head (a ∷ b ∷ c ∷ []) = omega arith
as_head (a ∷ b ∷ c ∷ d ∷ []) = omega arith
as_head (a ∷ b ∷ c ∷ d ∷ e ∷ []) = omega arith
as_head (a ∷ b ∷ c ∷ d ∷ e ∷ f ∷ []) = omega arith
as_head (a ∷ b ∷ c ∷ d ∷ e ∷ f ∷ g ∷ []) = omega arith
as_head (a ∷ b ∷ c ∷ d ∷ e ∷ f ∷ g ∷ h ∷ w) = omega arith

positive : (n : ℕ) → 0 < 256 ^ n
positive zero = omega arith
positive (suc n) = omega (arith, positive n)

below : (n : ℕ) (w : List ℕ) → AreBytes w → head n w < 256 ^ n
below zero w bytes = omega arith
below (suc n) [] bytes = positive (suc n)
below (suc n) (b ∷ w) bytes =
    let first : b * 256 ^ n ≤ 255 * 256 ^ n = mul-le-mul_right (256 ^ n) (omega (arith, bytes.0)) in
    omega (arith, first, below n w bytes.1)

-- a lesser first byte makes the lesser number
apart : (n a b : ℕ) (v w : List ℕ) → AreBytes v → a < b → head (suc n) (a ∷ v) < head (suc n) (b ∷ w)
apart n a b v w bytes less =
    let first : suc a * 256 ^ n ≤ b * 256 ^ n = mul-le-mul_right (256 ^ n) less in
    omega (arith, first, below n v bytes)

less_than : (a b : ℕ) → a < b → nat_cmp a b ≡ Less
less_than a b less = sym (nat_cmp_is a b Less less)

alike : (a b : ℕ) → a ≡ b → nat_cmp a b ≡ Equal
alike a b same = sym (nat_cmp_is a b Equal same)

more_than : (a b : ℕ) → b < a → nat_cmp a b ≡ Greater
more_than a b more = sym (nat_cmp_is a b Greater more)

one_more : (a b : ℕ) → nat_cmp a b ≡ nat_cmp (suc a) (suc b)
one_more a b = elim (cases_order a b) [
  | inl same ↦ alike a b same ∙ sym (alike (suc a) (suc b) (omega (arith, same)))
  | inr other ↦ elim other [
    | inl less ↦ less_than a b less ∙ sym (less_than (suc a) (suc b) (omega (arith, less)))
    | inr more ↦ more_than a b more ∙ sym (more_than (suc a) (suc b) (omega (arith, more)))
  ]
]

in_order : (n : ℕ) (v w : List ℕ) → AreBytes v → AreBytes w → head n v < head n w → byte_order v w ≡ Less
in_order zero v w vs ws less = absurd (omega arith)
in_order (suc n) [] [] vs ws less = absurd (omega arith)
in_order (suc n) [] (b ∷ w) vs ws less = refl
in_order (suc n) (a ∷ v) [] vs ws less = absurd (omega arith)
in_order (suc n) (a ∷ v) (b ∷ w) vs ws less = elim (cases_order a b) [
  | inl same ↦
      let rest : head n v < head n w = omega (arith, ap (λ k. k * 256 ^ n) same) in
      ap (λ o. ordering_then o (byte_order v w)) (alike a b same) ∙ in_order n v w vs.1 ws.1 rest
  | inr other ↦ elim other [
    | inl first ↦ ap (λ o. ordering_then o (byte_order v w)) (less_than a b first)
    | inr second ↦ absurd (omega (arith, less, apart n b a w v ws.1 second))
  ]
]

-- of lists within the same head the shorter one comes first
within : (n : ℕ) (v w : List ℕ) → AreBytes v → AreBytes w → head n v ≡ head n w → length v ≤ n → length w ≤ n → byte_order v w ≡ nat_cmp (length v) (length w)
within n [] [] vs ws same long_v long_w = refl
within n [] (b ∷ w) vs ws same long_v long_w = sym (less_than 0 (suc (length w)) (omega arith))
within n (a ∷ v) [] vs ws same long_v long_w = sym (more_than (suc (length v)) 0 (omega arith))
within zero (a ∷ v) (b ∷ w) vs ws same long_v long_w = absurd (omega arith)
within (suc n) (a ∷ v) (b ∷ w) vs ws same long_v long_w = elim (cases_order a b) [
  | inl first ↦
      let rest : head n v ≡ head n w = omega (arith, same, ap (λ k. k * 256 ^ n) first) in
      ap (λ o. ordering_then o (byte_order v w)) (alike a b first) ∙ within n v w vs.1 ws.1 rest (omega arith) (omega arith) ∙ one_more (length v) (length w)
  | inr other ↦ elim other [
    | inl less ↦ absurd (omega (arith, same, apart n a b v w vs.1 less))
    | inr more ↦ absurd (omega (arith, same, apart n b a w v ws.1 more))
  ]
]

pub by_length : (v w : List ℕ) → IsUtf8 v → IsUtf8 w → head_of v ≡ head_of w → length v ≤ 8 → length w ≤ 8 → byte_order v w ≡ nat_cmp (length v) (length w)
by_length v w vs ws same long_v long_w =
    within 8 v w (of_text v vs) (of_text w ws) (sym (as_head v) ∙ same ∙ as_head w) long_v long_w

-- ---- texts p and q, held as v and w

pub before : {v w p q : List ℕ} {m n : ℕ} → v ≡ p → w ≡ q → IsUtf8 v × (m ≡ head_of v) → IsUtf8 w × (n ≡ head_of w) → m < n → byte_order p q ≡ Less
before {v} {w} {p} {q} {m} {n} first second vs ws less =
    let heads : head 8 v < head 8 w = omega (arith, less, vs.1, ws.1, as_head v, as_head w) in
    let order : byte_order v w ≡ Less = in_order 8 v w (of_text v vs.0) (of_text w ws.0) heads in
    ap (λ (t : List ℕ). byte_order p t) (sym second) ∙ ap (λ (t : List ℕ). byte_order t w) (sym first) ∙ order

pub after : {v w p q : List ℕ} {m n : ℕ} → v ≡ p → w ≡ q → IsUtf8 v × (m ≡ head_of v) → IsUtf8 w × (n ≡ head_of w) → n < m → byte_order p q ≡ Greater
after {v} {w} {p} {q} first second vs ws more = later total q p (before second first ws vs more)
