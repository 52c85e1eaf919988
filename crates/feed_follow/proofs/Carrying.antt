-- The payload of any prefix of a response begins what its body brings.
use Rattle.std.proofs.Common.{◌≡◌, inl, inr, refl, sym, ap, ◌∙◌, subst, ℕ, zero, suc, Bool, true, false, List, [], ◌∷◌, ◌++◌, append_assoc, length, take, arith}
use Rattle.std.specs.Prelude.{Option, Some, None, nat_lt, if◌then◌else◌, option_map, unwrap_or}
use Rattle.std.proofs.lemmas.List.{take_all}
use Rattle.std.proofs.lemmas.Bool.{ltb-true as below}
use Rattle.httparse.specs.Grammar.{ReadsResponse}
use Rattle.httparse.proofs.GrammarLemmas.{response_prefix_free}
use Rattle.feed_wire.specs.declared.chunk.Chunking.{Chunking}
use Rattle.feed_follow.specs.declared.coding.BodyFraming.{BodyFraming}
use Rattle.feed_follow.specs.declared.coding.BodyFraming.TheVariants.{ToEnd, Sized, InChunks}
use Rattle.feed_wire.specs.declared.chunk.Chunking.TheVariants.{LineStart}
use Rattle.feed_follow.specs.declared.fault.FollowFault.TheVariants.{LongHead, BadHead, BadChunk}
use Rattle.feed_wire.specs.ChunkReading.{next, brought_by}
use Rattle.feed_follow.specs.Standing.{Standing, in_head, token_refused, in_body, done, failed, Stands, StandsInHead, StandsInBody, StandsBehind, verdict}
use Rattle.feed_follow.specs.Carrying.{HasPayload, BodyBrings, FeedsCarryText}
use Rattle.feed_follow.proofs.OnceLemmas.{behind, is_end, comes_to, body_comes_to, body_is}

-- the text begins with the payload
abbrev Begins : List ℕ → List ℕ → Type 0
Begins payload text = (later : List ℕ) × (payload ++ later ≡ text)

nothing_begins : (payload text : List ℕ) → payload ≡ [] → Begins payload text
nothing_begins payload text none = (text, ap (λ p. p ++ text) none)

-- ---- chunks

-- a payload behind what was brought before it
behind_has : (brought payload : List ℕ) (s : Standing) → HasPayload (behind brought s) payload
    → (own : List ℕ) × (payload ≡ brought ++ own) × HasPayload s own
behind_has brought payload (in_body own) has = (own, has, refl)
behind_has brought payload (done own) has = (own, has, refl)
behind_has brought payload (failed fault own) has = (own, has, refl)
behind_has brought payload in_head has = absurd has
behind_has brought payload token_refused has = absurd has

begins_behind : (brought own all payload text : List ℕ) → payload ≡ brought ++ own
    → text ≡ brought ++ all → Begins own all → Begins payload text
begins_behind brought own all payload text e f (later, g) = (
  later,
  ap (λ p. p ++ later) e ∙ append_assoc brought own later ∙ ap (λ t. brought ++ t) g
      ∙ sym f,
)

-- at the end of what came nothing more is brought
ends_with_nothing : (end : Bool) (payload : List ℕ)
    → HasPayload (if end then done [] else in_body []) payload → payload ≡ []
ends_with_nothing true payload has = has
ends_with_nothing false payload has = has

-- one byte, by where it leads
byte_begins : (end : Bool) (to : Option Chunking) (brought part whole payload text : List ℕ)
    → ((at : Chunking) (own all : List ℕ) → HasPayload (comes_to at part) own
    → HasPayload (comes_to at whole) all → Begins own all)
    → HasPayload (if end then done [] else unwrap_or
    (option_map (λ at. behind brought (comes_to at part)) to) (failed BadChunk [])) payload
    → HasPayload (if end then done [] else unwrap_or
    (option_map (λ at. behind brought (comes_to at whole)) to) (failed BadChunk [])) text
    → Begins payload text
byte_begins true to brought part whole payload text so has all = nothing_begins payload text has
byte_begins false None brought part whole payload text so has all = nothing_begins payload text has
byte_begins false (Some to) brought part whole payload text so has all =
    let p = behind_has brought payload (comes_to to part) has in
    let t = behind_has brought text (comes_to to whole) all in
    begins_behind brought p.0 t.0 payload text p.1 t.1 (so to p.0 t.0 p.2 t.2)

chunks_begin : (at : Chunking) (part more payload text : List ℕ)
    → HasPayload (comes_to at part) payload → HasPayload (comes_to at (part ++ more)) text
    → Begins payload text
chunks_begin at [] more payload text has all =
    nothing_begins payload text (ends_with_nothing (is_end at) payload has)
chunks_begin at (b ∷ part) more payload text has all =
    byte_begins (is_end at) (next at b) (brought_by at b) part (part ++ more) payload text
    (λ to own whole. chunks_begin to part more own whole) has all

-- ---- each body

take_begins : (n : ℕ) (x y : List ℕ) → Begins (take n x) (take n (x ++ y))
take_begins zero x y = ([], refl)
take_begins (suc n) [] y = (take (suc n) y, refl)
take_begins (suc n) (b ∷ x) y =
    let t = take_begins n x y in (t.0, ap (λ l. b ∷ l) t.1)

sized_takes : (n : ℕ) (bytes payload : List ℕ) → HasPayload (body_comes_to (Sized n) bytes) payload
    → payload ≡ take n bytes
sized_takes n bytes payload has = by (nat_lt (length bytes) n) refl has
  where
    by : (less : Bool) → nat_lt (length bytes) n ≡ less
        → HasPayload (if less then in_body bytes else done (take n bytes)) payload
        → payload ≡ take n bytes
    by true less has =
        has ∙ sym (take_all n bytes (omega (arith, below (length bytes) n less)))
    by false less has = has

body_begins : (framing : BodyFraming) (part more payload text : List ℕ)
    → HasPayload (body_comes_to framing part) payload
    → HasPayload (body_comes_to framing (part ++ more)) text → Begins payload text
body_begins ToEnd part more payload text has all = (more, ap (λ p. p ++ more) has ∙ sym all)
body_begins (Sized n) part more payload text has all =
    let t = take_begins n part more in (
      t.0,
      ap (λ p. p ++ t.0) (sized_takes n part payload has) ∙ t.1
          ∙ sym (sized_takes n (part ++ more) text all),
    )
body_begins InChunks part more payload text has all =
    chunks_begin LineStart part more payload text has all

behind_head : (framing : BodyFraming) (part more rest text payload : List ℕ) (standing : Standing)
    → part ++ more ≡ rest → BodyBrings framing rest text → StandsInBody framing part standing
    → HasPayload standing payload → Begins payload text
behind_head framing part more rest text payload standing e (whole, is, all) stands has =
    let came = subst (λ s. HasPayload s payload) (body_is framing part standing stands) has in
    let comes = subst (λ s. HasPayload s text) (body_is framing rest whole is) all in
    body_begins framing part more payload text came
    (subst (λ b. HasPayload (body_comes_to framing b) text) (sym e) comes)

in_its_head : (bytes text payload : List ℕ) (standing : Standing) → StandsInHead bytes standing
    → HasPayload standing payload → Begins payload text
in_its_head bytes text payload in_head stands has = absurd has
in_its_head bytes text payload (failed LongHead own) stands has =
    nothing_begins payload text (has ∙ stands.1)
in_its_head bytes text payload (failed BadHead own) stands has =
    nothing_begins payload text (has ∙ stands.1)
in_its_head bytes text payload standing stands has = absurd stands

pub feeds_carry_text : FeedsCarryText
feeds_carry_text had_token bytes text is before later payload standing e stands has = by stands
  where
    by : Stands had_token before standing → Begins payload text
    by (inl (none, stands)) = in_its_head before text payload standing stands has
    by (inr (head, part, begins, stands)) =
        let same = response_prefix_free before later head is.head part is.body begins.reads
        (subst (λ b. ReadsResponse b is.head is.body) (sym e) is.begins.reads) in
        behind_head is.framing part later is.body text payload standing same.1 is.brings
        (subst (λ v. StandsBehind v part standing) (ap (verdict had_token) same.0 ∙ is.says) stands)
        has
