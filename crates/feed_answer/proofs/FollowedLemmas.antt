-- What a server writes is followed, prefix by prefix.
use Rattle.std.proofs.Common.{◌≡◌, inl, inr, ⊎_elim, ℕ, ◌+◌, ◌-◌, ◌<◌, ◌≤◌, Bool, false, cond, List, [], ◌++◌, length, take, drop, refl, sym, ap, ◌∙◌, subst, arith, append-nil, append_assoc, length-append, length-take, take-append-drop}
use Rattle.std.specs.Prelude.{nat_lt}
use Rattle.std.specs.List.{flat_map}
use Rattle.std.proofs.Math.Seq.{take-length}
use Rattle.std.proofs.lemmas.Bool.{cond_both, ltb-true as less_so, le-ltb as not_less, ltb-false as at_most_so}
use Rattle.std.proofs.lemmas.List.{take-append-le, take_all}
use Rattle.httparse.specs.Grammar.{ResponseHead, print_response, ReadsResponse}
use Rattle.httparse.proofs.GrammarLemmas.{response_prefix_free}
use Rattle.feed_settings.specs.declared.framing.Framing.{Framing}
use Rattle.feed_settings.specs.declared.framing.Framing.TheVariants.{Close, Chunked}
use Rattle.feed_wire.specs.HeadSizes.{line_count, IsHeadSize, IsPastLimits}
use Rattle.feed_wire.specs.ResponseHeads.{BeginsWithResponse, HasNoWholeResponse}
use Rattle.feed_follow.specs.Laws.{StandsOnce}
use Rattle.feed_follow.specs.Standing.{Standing, in_head, in_body, done, verdict, Stands, StandsBehind}
use Rattle.feed_wire.specs.Answer.{feed_head, refusal_head, refusal_body, refusal_text}
use Rattle.feed_wire.specs.Framed.{frame, frame_end}
use Rattle.feed_wire.specs.FrameLaws.{AreTexts, IsUnfinished, joined}
use Rattle.feed_wire.specs.CarriedBytes.{response_text, ended_text, carried_by}
use Rattle.feed_answer.specs.Carried.{standing_at, ended_at, refusal_standing}
use Rattle.feed_answer.specs.FollowLaws.{StandsOnly, HeadsAreRead, ResponsesAreFollowed, EndsAreFollowed, PrefixesCarryMore, WholeCarriesAll, RefusalsAreFollowed}
use Rattle.feed_wire.proofs.FrameLemmas.{frames_end}
use Rattle.feed_wire.proofs.PrefixLemmas.{take_past, prefix_carried, chunks_prefix, plain_prefix, ended_prefix, all_carried, more_carried}
use Rattle.feed_wire.proofs.OurHeads.{IsWritten, feed_tree, feed_written, refusal_tree, refusal_written, refusal_status}
use Rattle.feed_answer.proofs.HeadsFollowed.{feed_codings, feed_lengths, feed_behind, feed_done, refusal_codings, refusal_lengths, refusal_behind}
use Rattle.feed_wire.proofs.ResponseLemmas.{line_count-append}

-- ---- the heads

begins_with : (text rest : List ℕ) (head : ResponseHead) → IsWritten text head
    → BeginsWithResponse (text ++ rest) head rest
begins_with text rest head w = record {
  reads = (w.is_head, ap (λ t. t ++ rest) w.printed);
  size = subst (λ t. IsHeadSize t (length head.fields)) w.printed w.size;
}

begins_alone : (text : List ℕ) (head : ResponseHead) → IsWritten text head
    → BeginsWithResponse text head []
begins_alone text head w =
    subst (λ t. BeginsWithResponse t head []) (append-nil text) (begins_with text [] head w)

pub heads_are_read : HeadsAreRead
heads_are_read = (
  λ framing. record {
    head = feed_tree framing;
    begins = begins_alone (feed_head framing) (feed_tree framing) (feed_written framing);
    status_is = refl;
    codings_are = feed_codings framing;
    lengths_are = feed_lengths framing;
  },
  λ refusal. record {
    head = refusal_tree refusal;
    begins = begins_alone (refusal_head refusal) (refusal_tree refusal) (refusal_written refusal);
    status_is = refusal_status refusal;
    codings_are = refusal_codings refusal;
    lengths_are = refusal_lengths refusal;
  },
)

-- ---- prefixes of a text that begins with a head of ours

module _ (once : StandsOnce) (text rest : List ℕ) (head : ResponseHead)
    (w : IsWritten text head) where
  abbrev first : ℕ → List ℕ
  first n = take n (text ++ rest)

  abbrev later : ℕ → List ℕ
  later n = drop n (text ++ rest)

  all_reads : (n : ℕ) → ReadsResponse (first n ++ later n) head rest
  all_reads n =
      (w.is_head, take-append-drop n (text ++ rest) ∙ ap (λ t. t ++ rest) w.printed)

  no_head_yet : (n : ℕ) → n < length text → HasNoWholeResponse (first n)
  no_head_yet n less other tail b =
      let all = all_reads n in
      let same = response_prefix_free (first n) (later n) other head tail rest b.reads all in
      let printed = length (print_response other) in
      let many : length (first n) ≡ printed + length tail =
      ap length b.reads.1 ∙ length-append (print_response other) tail in
      let as_long : printed ≡ length text =
      ap (λ h. length (print_response h)) same.0 ∙ sym (ap length w.printed) in
      omega (arith, many, as_long, length-take n (text ++ rest), less)

  within_limits : (n : ℕ) → n < length text → ¬ (IsPastLimits (first n))
  within_limits n less past =
      let size = w.size in
      let long = size.bytes in
      let few = w.few_lines in
      let part : first n ≡ take n text = take-append-le n text rest (omega (arith, less)) in
      let short : length (first n) ≤ n = omega (arith, length-take n (text ++ rest)) in
      let counted : line_count (first n) + line_count (drop n text) ≡ line_count text =
      ap (λ t. line_count t + line_count (drop n text)) part
      ∙ sym (line_count-append (take n text) (drop n text))
      ∙ ap line_count (take-append-drop n text) in
      ⊎_elim (λ over. omega (arith, over, short, long, less))
      (λ over. omega (arith, over, counted, few)) past

  module _ (had_token : Bool) (n : ℕ) where
    -- they begin a head, so only one thing is told of them
    only_so : (standing : Standing) → Stands had_token (first n) standing
        → StandsOnly had_token (first n) standing
    only_so standing stands = record {
      stands = stands;
      only = λ other also. ⊎_elim (λ same. same)
          (λ never. absurd (never (later n) head rest (all_reads n)))
          (once had_token (first n) other standing also stands);
    }

    in_prefix : n < length text → StandsOnly had_token (first n) in_head
    in_prefix less = only_so in_head (inl (no_head_yet n less, within_limits n less))

    behind : (standing : Standing) → length text ≤ n
        → StandsBehind (verdict had_token head) (take (n - length text) rest) standing
        → StandsOnly had_token (first n) standing
    behind standing more stands =
        let tail = take (n - length text) rest in
        let begins : BeginsWithResponse (first n) head tail =
        rw (take_past n text rest more) (begins_with text tail head w) in
        only_so standing (inr (head, tail, begins, stands))

-- ---- numbers

-- ---- answers with the feed

-- frames, as far as they have come
body_prefix : (framing : Framing) (texts : List (List ℕ)) (k : ℕ) → AreTexts texts
    → IsUnfinished framing (take k (flat_map (frame framing) texts)) (prefix_carried framing texts k)
body_prefix Close texts k are = plain_prefix texts k
body_prefix Chunked texts k are = chunks_prefix texts k are

module _ (once : StandsOnce) (framing : Framing) (had_token : Bool)
    (texts : List (List ℕ)) (rest : List ℕ) (n : ℕ) where
  abbrev size : ℕ
  size = length (feed_head framing)

  -- the first n bytes of an answer that goes on so stand so
  abbrev FollowsSo : Standing → Type 0
  FollowsSo standing = StandsOnly had_token (take n (feed_head framing ++ rest)) standing

  feed_follows : (standing : Standing) → size ≤ n
      → StandsBehind (verdict had_token (feed_tree framing)) (take (n - size) rest) standing
      → FollowsSo standing
  feed_follows standing more stands =
      behind once (feed_head framing) rest (feed_tree framing) (feed_written framing) had_token n
      standing more stands

  -- so much of the texts came in the body
  abbrev payload : List ℕ
  payload = prefix_carried framing texts (n - size)

  -- in the head, or in the body
  feed_stands : (size ≤ n → IsUnfinished framing (take (n - size) rest) payload)
      → FollowsSo (standing_at framing texts n)
  feed_stands unfinished =
      cond_both (nat_lt n size) in_head (in_body payload) FollowsSo
      (λ less. in_prefix once (feed_head framing) rest (feed_tree framing) (feed_written framing)
      had_token n (less_so n size less))
      (λ late. let more = at_most_so n size late in
      feed_follows (in_body payload) more (feed_behind framing had_token _ _ (unfinished more)))

pub responses_are_followed : StandsOnce → ResponsesAreFollowed
responses_are_followed once framing texts n had_token are =
    feed_stands once framing had_token texts (flat_map (frame framing) texts) n
    (λ more. body_prefix framing texts (n - length (feed_head framing)) are)

-- the end of a body in chunks
module _ (once : StandsOnce) (texts : List (List ℕ)) (n : ℕ) (had_token : Bool)
    (are : AreTexts texts) where
  abbrev ended : List ℕ
  ended = flat_map (frame Chunked) texts ++ frame_end Chunked

  abbrev before : ℕ
  before = length (feed_head Chunked)

  abbrev whole : ℕ
  whole = length (ended_text Chunked texts)

  grouped : ended_text Chunked texts ≡ feed_head Chunked ++ ended
  grouped = append_assoc (feed_head Chunked) (flat_map (frame Chunked) texts) (frame_end Chunked)

  many : whole ≡ before + length ended
  many = ap length grouped ∙ length-append (feed_head Chunked) ended

  open_still : n < whole
      → StandsOnly had_token (take n (feed_head Chunked ++ ended)) (standing_at Chunked texts n)
  open_still less =
      feed_stands once Chunked had_token texts ended n
      (λ more. ended_prefix texts (n - before) are (omega (arith, more, less, many)))

  at_end : whole ≤ n
      → StandsOnly had_token (take n (feed_head Chunked ++ ended)) (done (joined texts))
  at_end more =
      let all = take_all (n - before) ended (omega (arith, more, many)) in
      let rest = take (n - before) ended in
      let stands : StandsBehind (verdict had_token (feed_tree Chunked)) rest (done (joined texts)) =
      rw all (feed_done had_token ended (joined texts) (frames_end texts are)) in
      feed_follows once Chunked had_token texts ended n (done (joined texts))
      (omega (arith, more, many)) stands

  ends_in_chunks :
      StandsOnly had_token (take n (ended_text Chunked texts)) (ended_at Chunked texts n)
  ends_in_chunks =
      subst (λ t. StandsOnly had_token (take n t) (ended_at Chunked texts n)) (sym grouped)
      (cond_both (nat_lt n whole) (standing_at Chunked texts n) (done (joined texts))
      (StandsOnly had_token (take n (feed_head Chunked ++ ended)))
      (λ less. open_still (less_so n whole less))
      (λ more. at_end (at_most_so n whole more)))

pub ends_are_followed : StandsOnce → EndsAreFollowed
ends_are_followed once Close texts n had_token are =
    subst (λ t. StandsOnly had_token (take n t) (standing_at Close texts n))
    (sym (append-nil (response_text Close texts)))
    (responses_are_followed once Close texts n had_token are)
ends_are_followed once Chunked texts n had_token are = ends_in_chunks once texts n had_token are

-- ---- how much prefixes carry

pub prefixes_carry_more : PrefixesCarryMore
prefixes_carry_more framing texts n m less =
    let before = length (feed_head framing) in
    let fewer : n - before ≤ m - before = omega (arith, less) in
    more_carried framing texts (n - before) (m - before) fewer

pub whole_carries_all : WholeCarriesAll
whole_carries_all framing texts n more =
    let before = length (feed_head framing) in
    let many = length-append (feed_head framing) (flat_map (frame framing) texts) in
    let all : carried_by framing texts n ≡ length (joined texts) =
    all_carried framing texts (n - before) (omega (arith, more, many)) in
    let late : nat_lt n before ≡ false = not_less n before (omega (arith, more, many)) in
    let each : take (carried_by framing texts n) (joined texts) ≡ joined texts =
    ap (λ k. take k (joined texts)) all ∙ take-length (joined texts) in (
      all,
      ap (λ b. cond b in_head (in_body (take (carried_by framing texts n) (joined texts)))) late
          ∙ ap in_body each,
    )

-- ---- refusals

pub refusals_are_followed : StandsOnce → RefusalsAreFollowed
refusals_are_followed once refusal n had_token =
    let text = refusal_head refusal in
    let body = refusal_body refusal in
    let head = refusal_tree refusal in
    let w = refusal_written refusal in
    let standing = refusal_standing had_token refusal in
    cond_both (nat_lt n (length text)) in_head standing
    (StandsOnly had_token (take n (refusal_text refusal)))
    (λ less. in_prefix once text body head w had_token n (less_so n (length text) less))
    (λ more. behind once text body head w had_token n standing (at_most_so n (length text) more)
    (refusal_behind refusal had_token (take (n - length text) body)))
