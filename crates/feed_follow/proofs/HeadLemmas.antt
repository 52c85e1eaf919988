-- Heads at the start of bytes, and of longer ones.
use Rattle.std.proofs.Common.{◌≡◌, ◌⊎◌, inl, inr, ℕ, ◌-◌, ◌<◌, ◌≤◌, Bool, List, [], ◌++◌, length, take, drop, map, refl, sym, ap, ◌∙◌, subst, arith, append_assoc, length-append, length-take, length-drop, take-append-drop}
use Rattle.std.specs.Prelude.{Ok, min}
use Rattle.std.proofs.lemmas.List.{take-take, drop_all}
use Rattle.std.proofs.lemmas.Bool.{cases_lt}
use Rattle.httparse.specs.Grammar.{ResponseHead, status_code, print_response}
use Rattle.httparse.specs.declared.borrowed.Header.{Header}
use Rattle.httparse.specs.Borrowed.{header_parts}
use Rattle.httparse.specs.Spans.{name_and_value}
use Rattle.feed_wire.specs.ResponseHeads.{BeginsWithResponse, HasNoWholeResponse}
use Rattle.feed_wire.proofs.ResponseLemmas.{longer, shorter, no_head_beyond, past_more, bad_more, looked_end, all_looked}
use Rattle.feed_follow.specs.declared.fault.FollowFault.{FollowFault}
use Rattle.feed_follow.specs.declared.fault.FollowFault.TheVariants.{LongHead, BadHead}
use Rattle.feed_follow.specs.declared.heads.WholeHead.{WholeHead}
use Rattle.feed_follow.specs.Standing.{failed, verdict, verdict_of, StandsInHead}
use Rattle.feed_follow.specs.HeadRead.{IsHeadRead, IsUnfinished, IsNoHead}

-- ---- longer bytes

stands_more : (bytes more : List ℕ) (fault : FollowFault) → StandsInHead bytes (failed fault [])
    → StandsInHead (bytes ++ more) (failed fault [])
stands_more bytes more LongHead h = (past_more bytes more h.0, refl)
stands_more bytes more BadHead h = (bad_more bytes more h.0, refl)
stands_more bytes more fault h = absurd h

pub no_head_more : (had_token : Bool) (bytes more : List ℕ) (fault : FollowFault)
    → (length bytes ≡ 8192) ⊎ (more ≡ []) → IsNoHead had_token bytes fault
    → IsNoHead had_token (bytes ++ more) fault
no_head_more had_token bytes more fault end stop = record {
  of_head = stop.of_head;
  stands = elim stop.stands [
    | inl (none, h) ↦ inl (no_head_beyond bytes more end none, stands_more bytes more fault h)
    | inr (head, rest, begins, says) ↦ inr
        (head, rest ++ more, longer bytes more head rest begins, says)
  ];
}

-- ---- what the parser says

pub verdict_is : (had_token : Bool) (status : ℕ) (headers : List Header) (head : ResponseHead)
    → status ≡ status_code head → map header_parts headers ≡ map name_and_value head.fields
    → verdict_of had_token status (map header_parts headers) ≡ verdict had_token head
verdict_is had_token status headers head same fields =
    ap (λ n. verdict_of had_token n (map header_parts headers)) same
    ∙ ap (verdict_of had_token (status_code head)) fields

-- ---- a head that is whole in a further piece

-- behind the bytes of an unfinished head it ends with these
pub record WholeAt (had_token : Bool) (kept piece : List ℕ) (found : WholeHead) : Type 0 where
  pub head : ResponseHead
  pub behind : length kept ≤ found.len
  pub begins : BeginsWithResponse (kept ++ take (found.len - length kept) piece) head []
  pub says : verdict had_token head ≡ Ok found.says

pub whole_at : (had_token : Bool) (kept piece : List ℕ) (len : ℕ) (found : WholeHead)
    → IsUnfinished kept → IsHeadRead had_token (kept ++ take len piece) found
    → WholeAt had_token kept piece found
whole_at had_token kept piece len found unfinished h =
    record { head = head; behind = behind; begins = begins; says = h.says }
  where
    head : ResponseHead
    head = h.head

    looked : List ℕ
    looked = kept ++ take len piece

    printed : length (print_response h.head) ≡ found.len
    printed =
        let fits = h.fits in
        let total = ap length h.begins.reads.1
        ∙ length-append (print_response h.head) (drop found.len (kept ++ take len piece)) in
        omega (arith, length-drop found.len (kept ++ take len piece))

    behind : length kept ≤ found.len
    behind = elim (cases_lt found.len (length kept)) [
      | inl less ↦
          let short = shorter kept (take len piece) h.head (drop found.len (kept ++ take len piece))
          h.begins (let few : length (print_response h.head) ≤ length kept =
          omega (arith, printed) in few) in
          absurd (unfinished.no_head h.head (drop (length (print_response h.head)) kept) short)
      | inr more ↦ more
    ]

    begins : BeginsWithResponse (kept ++ take (found.len - length kept) piece) h.head []
    begins =
        let n = found.len - length kept in
        let fits = h.fits in
        let few : n ≤ len = omega (
          arith,
          length-append kept (take len piece),
          length-take len
              piece,
          behind,
        ) in
        let enough : n ≤ length piece =
        omega (arith, length-append kept (take len piece), length-take len piece, behind) in
        let inner : take n (take len piece) ≡ take n piece = take-take n len piece few in
        let split : kept ++ take len piece ≡ (kept ++ take n piece) ++ drop n (take len piece) =
        ap (λ t. kept ++ t) (sym (take-append-drop n (take len piece))
        ∙ ap (λ t. t ++ drop n (take len piece)) inner)
        ∙ sym (append_assoc kept (take n piece) (drop n (take len piece))) in
        let size : length (kept ++ take n piece) ≡ found.len =
        omega (arith, length-append kept (take n piece), length-take n piece, behind) in
        let full = subst (λ t. BeginsWithResponse t h.head
        (drop found.len (kept ++ take len piece))) split h.begins in
        let short = shorter (kept ++ take n piece) (drop n (take len piece)) h.head
        (drop found.len (kept ++ take len piece)) full
        (let same : length (print_response h.head) ≤ length (kept ++ take n piece) =
        omega (arith, printed, size) in same) in
        subst (λ t. BeginsWithResponse (kept ++ take n piece) h.head t)
        (drop_all (length (print_response h.head)) (kept ++ take n piece)
        (omega (arith, printed, size))) short

-- ---- what the bytes of a head may still be

pub in_piece : (had_token : Bool) (kept piece : List ℕ) (len : ℕ) (fault : FollowFault)
    → (length (kept ++ take len piece) ≡ 8192) ⊎ (drop len piece ≡ [])
    → IsNoHead had_token (kept ++ take len piece) fault → IsNoHead had_token (kept ++ piece) fault
in_piece had_token kept piece len fault end stop =
    subst (λ t. IsNoHead had_token t fault) (all_looked kept piece len)
    (no_head_more had_token (kept ++ take len piece) (drop len piece) fault end stop)

pub too_long : (had_token : Bool) (kept piece : List ℕ) (len : ℕ) → length kept ≤ 8192
    → len ≡ min (length piece) (8192 - length kept) → len < length piece
    → IsUnfinished (kept ++ take len piece) → IsNoHead had_token (kept ++ piece) LongHead
too_long had_token kept piece len small e less unfinished = record {
  of_head = tt;
  stands = inl (
    subst HasNoWholeResponse (all_looked kept piece len)
        (no_head_beyond (kept ++ take len piece) (drop len piece)
        (looked_end kept piece len small e) unfinished.no_head),
    (inl (omega (arith, length-append kept piece)), refl),
  );
}

pub found_in_piece : (had_token : Bool) (kept piece : List ℕ) (len : ℕ) (found : WholeHead)
    (h : IsHeadRead had_token (kept ++ take len piece) found)
    → BeginsWithResponse (kept ++ piece) h.head
    (drop found.len (kept ++ take len piece) ++ drop len piece)
found_in_piece had_token kept piece len found h =
    subst (λ t. BeginsWithResponse t h.head
    (drop found.len (kept ++ take len piece) ++ drop len piece)) (all_looked kept piece len)
    (longer (kept ++ take len piece) (drop len piece) h.head
    (drop found.len (kept ++ take len piece)) h.begins)
