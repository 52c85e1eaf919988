-- How far a response has come is one thing.
use Rattle.std.proofs.Common.{◌≡◌, ◌≢◌, ◌⊎◌, inl, inr, ℕ, Bool, true, false, List, [], ◌∷◌, ◌++◌, length, take, refl, sym, ap, ◌∙◌, subst, arith, append-nil, append_assoc, length-append, ◌+◌}
use Rattle.std.specs.Prelude.{Option, Some, None, Ok, Err, Result, nat_lt, if◌then◌else◌, option_map, unwrap_or}
use Rattle.std.proofs.Math.Seq.{take-append_seam}
use Rattle.std.proofs.lemmas.Bool.Decides.{nat_tests}
use Rattle.httparse.specs.Grammar.{ReadsResponse, NeverHasResponse}
use Rattle.httparse.proofs.GrammarLemmas.{response_unique}
use Rattle.feed_wire.specs.declared.chunk.Chunking.{Chunking}
use Rattle.feed_wire.specs.declared.chunk.Chunking.TheVariants.{LineStart, InDigits, InPad, InExtension, LineCr, InBytes, BytesEnd, BytesCr, TrailerStart, InTrailer, TrailerCr, EndCr, Whole}
use Rattle.feed_follow.specs.declared.coding.BodyFraming.{BodyFraming}
use Rattle.feed_follow.specs.declared.coding.BodyFraming.TheVariants.{ToEnd, Sized, InChunks}
use Rattle.feed_follow.specs.declared.fault.FollowFault.{FollowFault}
use Rattle.feed_follow.specs.declared.fault.FollowFault.TheVariants.{LongHead, BadHead, BadChunk}
use Rattle.feed_follow.specs.declared.heads.Verdict.{Verdict}
use Rattle.feed_follow.specs.declared.heads.Verdict.TheVariants.{Body, Refusal}
use Rattle.feed_wire.specs.ChunkReading.{ReadsChunks, stays, goes, next, brought_by}
use Rattle.feed_wire.specs.ChunkedBody.{IsChunkedPrefix, HasBadChunk}
use Rattle.feed_wire.specs.ResponseHeads.{HasBadHead}
use Rattle.feed_follow.specs.Standing.{Standing, in_head, token_refused, in_body, done, failed, verdict, Stands, StandsInHead, StandsInBody, StandsBehind}
use Rattle.feed_wire.proofs.ChunkedRuns.{stands_on, starts, is_prefix, body_run, breaks_off_leads, reads_more}

-- ---- a chunked body, by what comes of its bytes

abbrev pub behind : List ℕ → Standing → Standing
behind prefix (in_body payload) = in_body (prefix ++ payload)
behind prefix (done payload) = done (prefix ++ payload)
behind prefix (failed fault payload) = failed fault (prefix ++ payload)
behind prefix in_head = in_head
behind prefix token_refused = token_refused

abbrev pub is_end : Chunking → Bool
is_end Whole = true
is_end at = false

abbrev pub comes_to : Chunking → List ℕ → Standing
comes_to at [] = if is_end at then done [] else in_body []
comes_to at (b ∷ bytes) =
    if is_end at then done [] else unwrap_or
    (option_map (λ to. behind (brought_by at b) (comes_to to bytes)) (next at b))
    (failed BadChunk [])

no_end : (at : Chunking) → at ≢ Whole → is_end at ≡ false
no_end Whole going = absurd (going refl)
no_end at going = refl

-- a byte that can stand there leads on
leads : (at to : Chunking) (b : ℕ) (bytes : List ℕ) → next at b ≡ Some to
    → comes_to at (b ∷ bytes) ≡ behind (brought_by at b) (comes_to to bytes)
leads Whole to b bytes e = let none : ◌≡◌ {A = Option Chunking} None (Some to) = e in cc
leads LineStart to b bytes e =
    ap (λ o. unwrap_or (option_map (λ t. behind [] (comes_to t bytes)) o) (failed BadChunk [])) e
leads (InDigits n size) to b bytes e =
    ap (λ o. unwrap_or (option_map (λ t. behind [] (comes_to t bytes)) o) (failed BadChunk [])) e
leads (InPad n size) to b bytes e =
    ap (λ o. unwrap_or (option_map (λ t. behind [] (comes_to t bytes)) o) (failed BadChunk [])) e
leads (InExtension n size) to b bytes e =
    ap (λ o. unwrap_or (option_map (λ t. behind [] (comes_to t bytes)) o) (failed BadChunk [])) e
leads (LineCr size) to b bytes e =
    ap (λ o. unwrap_or (option_map (λ t. behind [] (comes_to t bytes)) o) (failed BadChunk [])) e
leads (InBytes left) to b bytes e =
    ap (λ o. unwrap_or (option_map (λ t. behind (b ∷ []) (comes_to t bytes)) o)
    (failed BadChunk [])) e
leads BytesEnd to b bytes e =
    ap (λ o. unwrap_or (option_map (λ t. behind [] (comes_to t bytes)) o) (failed BadChunk [])) e
leads BytesCr to b bytes e =
    ap (λ o. unwrap_or (option_map (λ t. behind [] (comes_to t bytes)) o) (failed BadChunk [])) e
leads (TrailerStart n) to b bytes e =
    ap (λ o. unwrap_or (option_map (λ t. behind [] (comes_to t bytes)) o) (failed BadChunk [])) e
leads (InTrailer n) to b bytes e =
    ap (λ o. unwrap_or (option_map (λ t. behind [] (comes_to t bytes)) o) (failed BadChunk [])) e
leads (TrailerCr n) to b bytes e =
    ap (λ o. unwrap_or (option_map (λ t. behind [] (comes_to t bytes)) o) (failed BadChunk [])) e
leads EndCr to b bytes e =
    ap (λ o. unwrap_or (option_map (λ t. behind [] (comes_to t bytes)) o) (failed BadChunk [])) e

-- a run, and then the rest
run_comes : (at to : Chunking) (bytes payload rest : List ℕ) → ReadsChunks at bytes payload to
    → comes_to at (bytes ++ rest) ≡ behind payload (comes_to to rest)
run_comes at to bytes payload rest (stays _) = sym (behind_nothing (comes_to at rest))
  where
    behind_nothing : (s : Standing) → behind [] s ≡ s
    behind_nothing (in_body payload) = refl
    behind_nothing (done payload) = refl
    behind_nothing (failed fault payload) = refl
    behind_nothing in_head = refl
    behind_nothing token_refused = refl
run_comes at to bytes payload rest (goes _ middle _ b more later e reads) =
    leads at middle b (more ++ rest) e
    ∙ ap (behind (brought_by at b)) (run_comes middle to more later rest reads)
    ∙ behind_both (brought_by at b) later (comes_to to rest)
  where
    behind_both : (x y : List ℕ) (s : Standing) → behind x (behind y s) ≡ behind (x ++ y) s
    behind_both x y (in_body payload) = ap in_body (sym (append_assoc x y payload))
    behind_both x y (done payload) = ap done (sym (append_assoc x y payload))
    behind_both x y (failed fault payload) = ap (failed fault) (sym (append_assoc x y payload))
    behind_both x y in_head = refl
    behind_both x y token_refused = refl

stops : (at : Chunking) (b : ℕ) (rest : List ℕ) → at ≢ Whole → next at b ≡ None
    → comes_to at (b ∷ rest) ≡ failed BadChunk []
stops at b rest going none = rw (no_end at going) (rw none refl)

chunked_done : (body ignored payload : List ℕ) → ReadsChunks LineStart body payload Whole
    → done payload ≡ comes_to LineStart (body ++ ignored)
chunked_done body ignored payload reads = sym (run_comes LineStart Whole body payload ignored reads
    ∙ ap (behind payload) (whole_done ignored) ∙ ap done (append-nil payload))
  where
    whole_done : (rest : List ℕ) → comes_to Whole rest ≡ done []
    whole_done [] = refl
    whole_done (b ∷ rest) = refl

chunked_open : (at : Chunking) (text payload : List ℕ) → at ≢ Whole
    → ReadsChunks LineStart text payload at → in_body payload ≡ comes_to LineStart text
chunked_open at text payload going reads =
    let open_end : comes_to at [] ≡ in_body [] = rw (no_end at going) refl in
    sym (ap (comes_to LineStart) (sym (append-nil text))
    ∙ run_comes LineStart at text payload [] reads ∙ ap (behind payload) open_end
    ∙ ap in_body (append-nil payload))

-- behind a prefix that breaks off a byte that can't stand there leads nowhere
leads_nowhere : (at : Chunking) (byte : ℕ) (prefix payload : List ℕ)
    → ReadsChunks LineStart prefix payload at
    → ((other : List ℕ) → ¬ (IsChunkedPrefix (prefix ++ byte ∷ []) other)) → (o : Option Chunking)
    → next at byte ≡ o → next at byte ≡ None
leads_nowhere at byte prefix payload reads never None e = e
leads_nowhere at byte prefix payload reads never (Some to) e =
    let text = prefix ++ byte ∷ [] in
    let brought = payload ++ brought_by at byte in
    absurd (never brought
    (is_prefix to text brought
    (stands_on LineStart to text brought [] []
    (reads_more LineStart at to byte prefix payload reads e) starts)))

chunked_bad : (text payload : List ℕ) → HasBadChunk text payload
    → failed BadChunk payload ≡ comes_to LineStart text
chunked_bad text payload bad =
    let run = breaks_off_leads bad.prefix payload bad.breaks in
    let none = leads_nowhere run.to bad.byte bad.prefix payload run.reads bad.never
    (next run.to bad.byte) refl in
    sym (ap (comes_to LineStart) bad.spelled
    ∙ run_comes LineStart run.to bad.prefix payload (bad.byte ∷ bad.rest) run.reads
    ∙ ap (behind payload) (stops run.to bad.byte bad.rest run.going none)
    ∙ ap (failed BadChunk) (append-nil payload))

-- ---- each body

abbrev pub body_comes_to : BodyFraming → List ℕ → Standing
body_comes_to ToEnd text = in_body text
body_comes_to (Sized n) text = if nat_lt (length text) n then in_body text else done (take n text)
body_comes_to InChunks text = comes_to LineStart text

pub body_is : (framing : BodyFraming) (text : List ℕ) (s : Standing) → StandsInBody framing text s
    → s ≡ body_comes_to framing text
body_is ToEnd text (in_body payload) h = ap in_body h
body_is ToEnd text (done payload) (body, ignored, split, is) = absurd is
body_is ToEnd text (failed BadChunk payload) h = let other = h.0 in cc
body_is ToEnd text s h = absurd h
body_is (Sized n) text (in_body payload) h =
    let less : nat_lt (length text) n ≡ true = (let few = h.0 in grind (arith, nat_tests)) in
    rw less (ap in_body h.1)
body_is (Sized n) text (done payload) (body, ignored, split, is) =
    let more : nat_lt (length text) n ≡ false =
    (let full = is.0 in let total : length text ≡ length body + length ignored = ap length split
    ∙ length-append body ignored in grind (arith, nat_tests)) in
    rw more (ap done (is.1 ∙ sym (take-append_seam body ignored)
    ∙ ap (λ k. take k (body ++ ignored)) is.0 ∙ ap (take n) (sym split)))
body_is (Sized n) text (failed BadChunk payload) h = let other = h.0 in cc
body_is (Sized n) text s h = absurd h
body_is InChunks text (in_body payload) h = let run = breaks_off_leads text payload
    h in chunked_open run.to text payload run.going run.reads
body_is InChunks text (done payload) (body, ignored, split, is) = chunked_done body ignored payload
    (body_run body payload is) ∙ ap (comes_to LineStart) (sym split)
body_is InChunks text (failed BadChunk payload) h = chunked_bad text payload h.1
body_is InChunks text s h = absurd h

behind_once : (v : Result Verdict FollowFault) (rest : List ℕ) (a b : Standing)
    → StandsBehind v rest a → StandsBehind v rest b → a ≡ b
behind_once (Ok (Body framing)) rest a b h k = body_is framing rest a h
    ∙ sym (body_is framing rest b k)
behind_once (Ok Refusal) rest a b h k = h ∙ sym k
behind_once (Err fault) rest a b h k = h ∙ sym k

-- ---- each head

never_more : (bytes : List ℕ) → HasBadHead bytes → NeverHasResponse bytes
never_more bytes bad more head rest reads =
    bad.never (bad.later ++ more) head rest
    (subst (λ t. ReadsResponse t head rest) (ap (λ t. t ++ more) bad.split
    ∙ append_assoc bad.prefix bad.later more) reads)

head_once : (bytes : List ℕ) (a b : Standing) → StandsInHead bytes a → StandsInHead bytes b
    → (a ≡ b) ⊎ NeverHasResponse bytes
head_once bytes (failed BadHead p) b h k = inr (never_more bytes h.0)
head_once bytes a (failed BadHead q) h k = inr (never_more bytes k.0)
head_once bytes in_head in_head h k = inl refl
head_once bytes in_head (failed LongHead q) h k = absurd (h k.0)
head_once bytes (failed LongHead p) in_head h k = absurd (k h.0)
head_once bytes (failed LongHead p) (failed LongHead q) h k = inl
    (ap (failed LongHead) (h.1 ∙ sym k.1))
head_once bytes in_head b h k = absurd k
head_once bytes (failed LongHead p) b h k = absurd k
head_once bytes a b h k = absurd h

pub stands_once : (had_token : Bool) (bytes : List ℕ) (a b : Standing) → Stands had_token bytes a
    → Stands had_token bytes b → (a ≡ b) ⊎ NeverHasResponse bytes
stands_once had_token bytes a b (inl (none, h)) (inl (also, k)) = head_once bytes a b h k
stands_once had_token bytes a b (inl (none, h)) (inr (head, rest, begins, k)) = absurd
    (none head rest begins)
stands_once had_token bytes a b (inr (head, rest, begins, h)) (inl (none, k)) = absurd
    (none head rest begins)
stands_once had_token bytes a b (inr (head, rest, begins, h)) (inr (other, tail, also, k)) =
    let same = response_unique bytes other head tail rest also.reads begins.reads in
    inl (behind_once (verdict had_token head) rest a b h
    (subst (λ t. StandsBehind (verdict had_token head) t b) same.1
    (subst (λ x. StandsBehind (verdict had_token x) tail b) same.0 k)))
