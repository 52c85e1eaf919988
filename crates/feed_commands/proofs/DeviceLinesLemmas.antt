-- Lemmas on the lines of a device.
use Rattle.std.proofs.Common.{◌≡◌, refl, sym, ap, ◌∙◌, subst, ℕ, ◌+◌, ◌-◌, ◌<◌, ◌≤◌, List, [], ◌∷◌, ◌++◌, length, take, drop, append_assoc, append-nil, length-append, length-take, take-append-drop, zero, suc, arith, Option, Some, None}
use Rattle.std.proofs.Math.Seq.{take-append-add}
use Rattle.std.proofs.lemmas.List.{drop-drop, append_cancel_left as cancel}
use Rattle.std.specs.Io.KnownBytes.{IsAtEnd, prepend_known}
use Rattle.feed_text.specs.Limits.{line_bytes}
use Rattle.feed_note.specs.Lines.{HasNoLineFeed}
use Rattle.feed_note.proofs.LineEnds.{unbroken_both, unbroken_behind}
use Rattle.feed_http.specs.Device.{Moved}
use Rattle.feed_records.proofs.EndedLines.{tail_is}
use Rattle.feed_records.specs.Fronts.{IsLineAtFront, IsRestAtFront, IsLongAtFront, IsLineBefore}

take_seam : (xs ys : List ℕ) → take (length xs) (xs ++ ys) ≡ xs
take_seam [] ys = refl
take_seam (x ∷ xs) ys = ap (λ t. x ∷ t) (take_seam xs ys)

-- bytes that moved from the device stay left
pub moved_left : (old new : Option (List ℕ)) (before after text : List ℕ) → Moved old new before after → prepend_known before old ≡ Some text
    → prepend_known after new ≡ Some text
moved_left None new before after text m e = absurd (cc)
moved_left (Some x) None before after text (given, is, c) e = absurd c
moved_left (Some x) (Some y) before after text (given, is, c) e =
    ap Some (ap (λ t. t ++ y) is ∙ append_assoc before given y ∙ ap (λ t. before ++ t) (sym c)) ∙ e

-- what is ahead, and what is behind it
pub known_ahead : (ahead text : List ℕ) (remaining : Option (List ℕ)) → prepend_known ahead remaining ≡ Some text → (r : List ℕ) × (text ≡ ahead ++ r)
known_ahead ahead text None e = absurd (cc)
known_ahead ahead text (Some r) e = (r, let both : Some (ahead ++ r) ≡ Some text = e in cc)

-- the line that was searched for
module _ (ahead end behind : List ℕ) (searched : ℕ) (within : searched ≤ length ahead) (before : HasNoLineFeed (take searched ahead)) (unbroken : HasNoLineFeed end)
    (split : drop searched ahead ≡ end ++ 10 ∷ behind) where
  abbrev line : List ℕ
  line = take searched ahead ++ end

  line_unbroken : HasNoLineFeed line
  line_unbroken = unbroken_both (take searched ahead) end before unbroken

  line_length : length line ≡ searched + length end
  line_length = length-append (take searched ahead) end ∙ (let e = length-take searched ahead in omega arith)

  ahead_is : ahead ≡ line ++ 10 ∷ behind
  ahead_is = sym (take-append-drop searched ahead) ∙ ap (λ t. take searched ahead ++ t) split ∙ sym (append_assoc (take searched ahead) end (10 ∷ behind))

  front_is : take (searched + length end + 1) ahead ≡ line ++ 10 ∷ []
  front_is =
      ap (λ n. take (n + 1) ahead) (sym line_length) ∙ ap (take (length line + 1)) ahead_is ∙ take-append-add line (10 ∷ behind) 1

  long_is : take (searched + length end) ahead ≡ line
  long_is = ap (λ n. take n ahead) (sym line_length) ∙ ap (take (length line)) ahead_is ∙ take_seam line (10 ∷ behind)

  text_is : (r text : List ℕ) → text ≡ ahead ++ r → text ≡ line ++ 10 ∷ (behind ++ r)
  text_is r text e = e ∙ ap (λ t. t ++ r) ahead_is ∙ append_assoc line (10 ∷ behind) r

  line_ahead : (remaining : Option (List ℕ)) (text : List ℕ) → prepend_known ahead remaining ≡ Some text → searched + length end ≤ line_bytes
      → IsLineAtFront (take (searched + length end + 1) ahead) text
  line_ahead remaining text e short =
      let k = known_ahead ahead text remaining e in
      record {
        line = line;
        behind = behind ++ k.0;
        unbroken = line_unbroken;
        short = subst (λ n. n ≤ line_bytes) (sym line_length) short;
        front_is = front_is;
        text_is = text_is k.0 text k.1;
      }

  long_ahead : (remaining : Option (List ℕ)) (text : List ℕ) → prepend_known ahead remaining ≡ Some text → line_bytes < searched + length end
      → IsLongAtFront (take (searched + length end) ahead) text
  long_ahead remaining text e long =
      let k = known_ahead ahead text remaining e in
      record {
        behind = 10 ∷ (behind ++ k.0);
        unbroken = subst HasNoLineFeed (sym long_is) line_unbroken;
        long = subst (λ t. line_bytes < length t) (sym long_is) (subst (λ n. line_bytes < n) (sym line_length) long);
        text_is = text_is k.0 text k.1 ∙ ap (λ t. t ++ 10 ∷ (behind ++ k.0)) (sym long_is);
      }

take_whole : (xs : List ℕ) → take (length xs) xs ≡ xs
take_whole xs = ap (take (length xs)) (sym (append-nil xs)) ∙ take_seam xs []

-- no line feed was found
whole_long : (ahead text : List ℕ) (remaining : Option (List ℕ)) → HasNoLineFeed ahead → prepend_known ahead remaining ≡ Some text → line_bytes < length ahead
    → IsLongAtFront (take (length ahead) ahead) text
whole_long ahead text remaining unbroken e long =
    let k = known_ahead ahead text remaining e in
    let same = take_whole ahead in
    record {
      behind = k.0;
      unbroken = subst HasNoLineFeed (sym same) unbroken;
      long = subst (λ t. line_bytes < length t) (sym same) long;
      text_is = k.1 ∙ ap (λ t. t ++ k.0) (sym same);
    }

-- and nothing comes behind
at_end : (remaining : Option (List ℕ)) (ahead text : List ℕ) → IsAtEnd remaining → prepend_known ahead remaining ≡ Some text → text ≡ ahead
at_end None ahead text h e = absurd (cc)
at_end (Some r) ahead text h e =
    let both : Some (ahead ++ r) ≡ Some text = e in
    let is : text ≡ ahead ++ r = cc in
    is ∙ ap (λ t. ahead ++ t) h ∙ append-nil ahead

whole_rest : (ahead text : List ℕ) (remaining : Option (List ℕ)) → HasNoLineFeed ahead → IsAtEnd remaining → prepend_known ahead remaining ≡ Some text
    → length ahead ≤ line_bytes → IsRestAtFront (take (length ahead) ahead) text
whole_rest ahead text remaining unbroken end e short =
    let same = take_whole ahead in
    record {
      unbroken = subst HasNoLineFeed (sym same) unbroken;
      short = subst (λ t. length t ≤ line_bytes) (sym same) short;
      text_is = at_end remaining ahead text end e ∙ sym same;
    }

-- ---- the slices that are looked at

-- the bytes from a place on, as a slice has them
abbrev slice_of : ℕ → List ℕ → List ℕ
slice_of place bytes = take (length bytes - place) (drop place bytes)

slice_is : (place : ℕ) (read bytes : List ℕ) → read ≡ bytes → slice_of place read ≡ drop place bytes
slice_is place read bytes same = sym (tail_is place read) ∙ ap (drop place) same

-- what is ahead was searched so far, and then the slice behind
module _ (start searched : ℕ) (read bytes : List ℕ) (same : read ≡ bytes) (before : HasNoLineFeed (take searched (drop start bytes))) where
  abbrev ahead_now : List ℕ
  ahead_now = drop start bytes

  all_unbroken : HasNoLineFeed (slice_of searched (slice_of start read)) → HasNoLineFeed ahead_now
  all_unbroken rest =
      unbroken_behind ahead_now searched before
      (subst HasNoLineFeed (sym (tail_is searched ahead_now)) (subst (λ s. HasNoLineFeed (slice_of searched s)) (slice_is start read bytes same) rest))

  pub kept_within : (old new : Option (List ℕ)) (after : List ℕ) → Moved old new ahead_now after → length (slice_of start read) ≤ length after
  kept_within old new after m =
      let s = ap length (slice_is start read bytes same) in
      let a = ap length m.1 in
      let l = length-append ahead_now m.0 in
      omega arith

  pub kept_unbroken : (old new : Option (List ℕ)) (after : List ℕ) → Moved old new ahead_now after → HasNoLineFeed (slice_of searched (slice_of start read))
      → HasNoLineFeed (take (length (slice_of start read)) after)
  kept_unbroken old new after m rest =
      subst HasNoLineFeed
      (sym (ap (λ t. take (length t) after) (slice_is start read bytes same) ∙ ap (take (length ahead_now)) m.1 ∙ take_seam ahead_now m.0))
      (all_unbroken rest)

  module _ (text : List ℕ) (remaining : Option (List ℕ)) (left : prepend_known ahead_now remaining ≡ Some text) where
    module _ (end behind : List ℕ) (within : searched ≤ length ahead_now) (unbroken : HasNoLineFeed end) (split : slice_of searched (slice_of start read) ≡ end ++ 10 ∷ behind) where
      split_ahead : drop searched ahead_now ≡ end ++ 10 ∷ behind
      split_ahead = tail_is searched ahead_now ∙ ap (slice_of searched) (sym (slice_is start read bytes same)) ∙ split

      pub found_line : searched + length end ≤ line_bytes → IsLineAtFront (take (searched + length end + 1) ahead_now) text
      found_line = line_ahead ahead_now end behind searched within before unbroken split_ahead remaining text left

      pub found_long : line_bytes < searched + length end → IsLongAtFront (take (searched + length end) ahead_now) text
      found_long = long_ahead ahead_now end behind searched within before unbroken split_ahead remaining text left

    pub found_none : HasNoLineFeed (slice_of searched (slice_of start read)) → line_bytes < length (slice_of start read)
        → IsLongAtFront (take (length (slice_of start read)) ahead_now) text
    found_none rest long =
        let same_size = ap length (slice_is start read bytes same) in
        subst (λ n. IsLongAtFront (take n ahead_now) text) (sym same_size)
        (whole_long ahead_now text remaining (all_unbroken rest) left (subst (λ n. line_bytes < n) same_size long))

    pub found_rest : (new : Option (List ℕ)) (after : List ℕ) → Moved remaining new ahead_now after → after ≡ ahead_now → IsAtEnd new
        → HasNoLineFeed (slice_of searched (slice_of start read)) → length (slice_of start read) ≤ line_bytes
        → IsRestAtFront (take (length (slice_of start read)) after) text
    found_rest new after m is end rest short =
        let same_size = ap length (slice_is start read bytes same) ∙ ap length (sym is) in
        subst (λ n. IsRestAtFront (take n after) text) (sym same_size)
        (whole_rest after text new (subst HasNoLineFeed (sym is) (all_unbroken rest)) end (moved_left remaining new ahead_now after text m left)
        (subst (λ n. n ≤ line_bytes) same_size short))

-- ---- what is read and passed

pub drop_append : (n : ℕ) (xs ys : List ℕ) → n ≤ length xs → drop n (xs ++ ys) ≡ drop n xs ++ ys
drop_append zero xs ys h = refl
drop_append (suc n) [] ys h = absurd (omega arith)
drop_append (suc n) (x ∷ xs) ys h = drop_append n xs ys (omega arith)

-- the line at the front is passed
pub line_passed : (start looked : ℕ) (bytes behind : List ℕ) (remaining : Option (List ℕ)) → IsLineBefore behind (take looked (drop start bytes)) (prepend_known (drop start bytes) remaining)
    → prepend_known (drop (start + looked) bytes) remaining ≡ Some behind
line_passed start looked bytes behind None f = let e = f.left_is in absurd (cc)
line_passed start looked bytes behind (Some r) f =
    let both : Some (drop start bytes ++ r) ≡ Some (f.line ++ 10 ∷ behind) = f.left_is in
    let is : drop start bytes ++ r ≡ f.line ++ 10 ∷ behind = cc in
    let front = f.front_is in
    let parts : take looked (drop start bytes) ++ (drop looked (drop start bytes) ++ r) ≡ take looked (drop start bytes) ++ behind =
    sym (append_assoc (take looked (drop start bytes)) (drop looked (drop start bytes)) r) ∙ ap (λ t. t ++ r) (take-append-drop looked (drop start bytes)) ∙ is
    ∙ sym (append_assoc f.line (10 ∷ []) behind) ∙ ap (λ t. t ++ behind) (sym front) in
    ap Some (ap (λ t. t ++ r) (sym (drop-drop looked start bytes)) ∙ cancel _ _ _ parts)

-- and so are bytes that are no line
pub bytes_passed : (start looked : ℕ) (bytes behind : List ℕ) (remaining : Option (List ℕ)) → prepend_known (drop start bytes) remaining ≡ Some (take looked (drop start bytes) ++ behind)
    → prepend_known (drop (start + looked) bytes) remaining ≡ Some behind
bytes_passed start looked bytes behind None e = absurd (cc)
bytes_passed start looked bytes behind (Some r) e =
    let both : Some (drop start bytes ++ r) ≡ Some (take looked (drop start bytes) ++ behind) = e in
    let is : drop start bytes ++ r ≡ take looked (drop start bytes) ++ behind = cc in
    let parts : take looked (drop start bytes) ++ (drop looked (drop start bytes) ++ r) ≡ take looked (drop start bytes) ++ behind =
    sym (append_assoc (take looked (drop start bytes)) (drop looked (drop start bytes)) r) ∙ ap (λ t. t ++ r) (take-append-drop looked (drop start bytes)) ∙ is in
    ap Some (ap (λ t. t ++ r) (sym (drop-drop looked start bytes)) ∙ cancel _ _ _ parts)
