-- Lemmas on texts that are written to a device one after the other.
use Rattle.std.proofs.Common.{◌≡◌, refl, sym, ap, ◌∙◌, ℕ, ◌+◌, ◌<◌, Bool, true, false, List, [], ◌∷◌, ◌++◌, length, take, get_or, MutBor, append_assoc, append-nil, Option, Some, None, subst, codes, flat_map}
use Rattle.std.specs.FinMap.{entries}
use Rattle.std.specs.Io.KnownBytes.{Appends}
use Rattle.std.specs.List.{FoldsTo}
use Rattle.std.proofs.lemmas.List.{take_more}
use Rattle.std.proofs.lemmas.Grind.{flat_map-append}
use Rattle.feed_text.specs.Ascii.{quotation_mark, line_feed}
use Rattle.feed_text.specs.Strings.{written_byte, written_string}
use Rattle.feed_note.specs.Texts.{batch_text}
use Rattle.feed_node.specs.Texts.{snapshot_text}
use Rattle.feed_note.specs.Written.{written_members, written_change, written_token}
use Rattle.std.proofs.KnownBytes.{Appends-nil, Appends-trans}
use Rattle.feed_http.specs.Device.{AppendsPrefix, HasFailed}
use Rattle.feed_changes.specs.declared.change.Change.{Change}
use Rattle.feed_changes.specs.declared.change.Change.TheVariants.{Clear}
use Rattle.feed_tables.specs.Listers.{FailsIn}
use Rattle.feed_tables.specs.Tables.{Contents, or_clear, listed, listing}
use Rattle.feed_commands.specs.Openings.{beginning}
use Rattle.feed_commands.specs.Printing.{FlushesSome, WritesText, PrintsText, PrintsChange, end_before, end_with}
use Rattle.feed_commands.specs.declared.printing.Printer.{Printer}
use Rattle.feed_commands.specs.declared.printing.Waiting.{Waiting}

-- more text behind both
regrouped : (p s t x q : List ℕ) → p ++ s ≡ x ++ q → p ++ (s ++ t) ≡ x ++ (q ++ t)
regrouped p s t x q e = sym (append_assoc p s t) ∙ ap (λ l. l ++ t) e ∙ append_assoc x q t

-- and what that one is
carried : (p s t x q y r : List ℕ) → p ++ s ≡ x ++ q → q ++ t ≡ y ++ r → p ++ (s ++ t) ≡ (x ++ y) ++ r
carried p s t x q y r e f = regrouped p s t x q e ∙ ap (λ l. x ++ l) f ∙ sym (append_assoc x y r)

-- what is written after something else
sends_trans : (a b c : Option (List ℕ)) (p q r s t : List ℕ) → FlushesSome a b p q s → FlushesSome b c q r t
    → FlushesSome a c p r (s ++ t)
sends_trans a b c p q r s t (x, e, h) (y, f, k) =
    (x ++ y, carried p s t x q y r e f, Appends-trans a b c x y h k)

-- what was sent before the prefix of what came
prefix_before : (a b c : Option (List ℕ)) (p q s t : List ℕ) → FlushesSome a b p q s
    → AppendsPrefix b c (q ++ t) → AppendsPrefix a c (p ++ (s ++ t))
prefix_before a b c p q s t (x, e, h) (prefix, rest, f, k) =
    (x ++ prefix, rest, carried p s t x q prefix rest e f, Appends-trans a b c x prefix h k)

-- a prefix of what comes before is one of both
prefix_behind : (a b : Option (List ℕ)) (p s t : List ℕ) → AppendsPrefix a b (p ++ s)
    → AppendsPrefix a b (p ++ (s ++ t))
prefix_behind a b p s t (prefix, rest, e, h) = (prefix, rest ++ t, regrouped p s t prefix rest e, h)

fails_then : (a b c : Option (List ℕ)) (f g h : ℕ) (p q r : Waiting) (s t : List ℕ) (failed : Bool)
    → q.has_failed ≡ failed
    → WritesText a b f g p q s → WritesText b c g h q r t → p.has_failed ≡ false → r.has_failed ≡ true
    → AppendsPrefix a c (p.bytes ++ (s ++ t)) × HasFailed f h
fails_then a b c f g h p q r s t true m first second begun ended =
    let (prefix, risen) = first.fails begun m in
    let (over, same, kept) = second.rests m in
    let whole = prefix_behind a b p.bytes s t prefix in
    (subst (λ d. AppendsPrefix a d (p.bytes ++ (s ++ t))) (sym same) whole, subst (HasFailed f) (sym kept) risen)
fails_then a b c f g h p q r s t false m first second begun ended =
    let (before, kept, sent) = first.sends m in
    let (prefix, risen) = second.fails m ended in
    (prefix_before a b c p.bytes q.bytes s t sent prefix, subst (λ k. HasFailed k h) kept risen)

-- a text and then another one
pub tells_then : (a b c : Option (List ℕ)) (f g h : ℕ) (p q r : Waiting) (s t : List ℕ)
    → WritesText a b f g p q s → WritesText b c g h q r t → WritesText a c f h p r (s ++ t)
tells_then a b c f g h p q r s t first second =
    record {
      sends = λ ended.
          let (mid, kept, sent) = second.sends ended in
          let (begun, held, gone) = first.sends mid in
          (begun, kept ∙ held, sends_trans a b c p.bytes q.bytes r.bytes s t gone sent);
      fails = λ begun ended. fails_then a b c f g h p q r s t q.has_failed refl first second begun ended;
      rests = λ begun.
          let (mid, same, kept) = first.rests begun in
          let (over, again, held) = second.rests mid in
          (over, again ∙ same, held ∙ kept);
    }

-- a text that waits
pub waits_written : (a : Option (List ℕ)) (f : ℕ) (p q : Waiting) (text : List ℕ)
    → q.has_failed ≡ p.has_failed → q.bytes ≡ p.bytes ++ text → WritesText a a f f p q text
waits_written a f p q text same more =
    record {
      sends = λ ended. (sym same ∙ ended, refl, ([], sym more, Appends-nil a));
      fails = λ begun ended. absurd (cc (same, begun, ended));
      rests = λ begun. (same ∙ begun, refl, refl);
    }

-- the same text in other words
pub tells_as : (a b : Option (List ℕ)) (f g : ℕ) (p q : Waiting) (s t : List ℕ) → s ≡ t
    → WritesText a b f g p q s → WritesText a b f g p q t
tells_as a b f g p q s t e written = subst (WritesText a b f g p q) e written

-- one more part
pub flat_map_more : {X : Type 0} (f : X → List ℕ) (xs : List X) (i : ℕ) (d : X) → i < length xs
    → flat_map f (take i xs) ++ f (get_or xs i d) ≡ flat_map f (take (i + 1) xs)
flat_map_more f xs i d h =
    sym (ap (flat_map f) (take_more xs i d h)
    ∙ flat_map-append f (take i xs) (get_or xs i d ∷ [])
    ∙ ap (λ l. flat_map f (take i xs) ++ l) (append-nil (f (get_or xs i d))))

-- what stands between quotation marks, with more behind it
quoted_written : (x y text : List ℕ)
    → (x ++ quotation_mark ∷ []) ++ flat_map written_byte text ++ (quotation_mark ∷ []) ++ y
    ≡ x ++ written_string text ++ y
unfolding written_string
quoted_written x y text =
    let t : List ℕ = flat_map written_byte text in
    ap (λ l. l ++ (quotation_mark ∷ []) ++ y) (append_assoc x (quotation_mark ∷ []) t)
    ∙ ap (λ l. l ++ y) (append_assoc x (quotation_mark ∷ t) (quotation_mark ∷ []))

-- what stands around the id
abbrev pub around : List ℕ → List ℕ
around id = codes "\",\"id\":" ++ id ++ codes ",\"data\":"

-- the id and what stands around it
pub id_written : (id : List ℕ)
    → codes "\",\"id\":\"" ++ flat_map written_byte id ++ codes "\",\"data\":"
    ≡ around (written_string id)
id_written id =
    let x : List ℕ = codes "\",\"id\":\"" ++ flat_map written_byte id in
    sym (append_assoc x (quotation_mark ∷ []) (codes ",\"data\":"))
    ∙ quoted_written (codes "\",\"id\":") (codes ",\"data\":") id

-- the members of a line
pub members_written : (kind id content : List ℕ)
    → codes "{\"type\":\"" ++ flat_map written_byte kind ++ around id ++ content
    ≡ written_members (written_string kind) id content
members_written kind id content =
    let x : List ℕ = codes "{\"type\":\"" ++ flat_map written_byte kind in
    let b : List ℕ = codes ",\"id\":" in
    let c : List ℕ = codes ",\"data\":" in
    let begun = sym (append_assoc x (quotation_mark ∷ []) b) ∙ quoted_written (codes "{\"type\":") b kind in
    ap (λ l. l ++ content)
    (sym (append_assoc x (quotation_mark ∷ b ++ id) c)
    ∙ ap (λ l. l ++ c) (sym (append_assoc x (quotation_mark ∷ b) id) ∙ ap (λ l. l ++ id) begun))

-- a line behind what stands before it
pub line_written : (before kind id content : List ℕ)
    → before ++ codes "{\"type\":\"" ++ flat_map written_byte kind ++ around id ++ content
    ≡ before ++ written_members (written_string kind) id content
line_written before kind id content =
    let x : List ℕ = codes "{\"type\":\"" in
    let k : List ℕ = flat_map written_byte kind in
    ap (λ l. l ++ around id ++ content) (append_assoc before x k)
    ∙ ap (λ l. l ++ content) (append_assoc before (x ++ k) (around id))
    ∙ append_assoc before (x ++ k ++ around id) content
    ∙ ap (λ l. before ++ l) (members_written kind id content)

-- what begins a line behind what stands before it
pub beginning_written : (before kind : List ℕ)
    → before ++ codes "{\"type\":\"" ++ flat_map written_byte kind ++ codes "\",\"id\":\""
    ≡ before ++ beginning kind
beginning_written before kind =
    let x : List ℕ = codes "{\"type\":\"" in
    let k : List ℕ = flat_map written_byte kind in
    let i : List ℕ = codes "\",\"id\":\"" in
    ap (λ l. l ++ i) (append_assoc before x k) ∙ append_assoc before (x ++ k) i

-- a line of an object behind what stands before it
pub object_written : (before kind id content : List ℕ)
    → before ++ beginning kind ++ flat_map written_byte id ++ codes "\",\"data\":" ++ content
    ≡ before ++ written_members (written_string kind) (written_string id) content
object_written before kind id content =
    let x : List ℕ = before ++ codes "{\"type\":\"" ++ flat_map written_byte kind in
    let i : List ℕ = codes "\",\"id\":\"" in
    let name : List ℕ = flat_map written_byte id in
    let d : List ℕ = codes "\",\"data\":" in
    ap (λ l. l ++ name ++ d ++ content) (sym (beginning_written before kind))
    ∙ ap (λ l. l ++ content)
    (ap (λ l. l ++ d) (append_assoc x i name) ∙ append_assoc x (i ++ name) d ∙ ap (λ l. x ++ l) (id_written id))
    ∙ line_written before kind (written_string id) content

-- the token and what stands around it
pub token_written : (token : List ℕ)
    → codes ",\"token\":\"" ++ flat_map written_byte token ++ codes "\"}\n" ≡ end_with token
token_written token =
    let x : List ℕ = codes ",\"token\":\"" ++ flat_map written_byte token in
    sym (append_assoc x (quotation_mark ∷ []) (codes "}\n"))
    ∙ quoted_written (codes ",\"token\":") (codes "}\n") token

-- lines of which the last one isn't ended, behind others or not
abbrev pub open_lines : Bool → List Change → List ℕ
open_lines is_begun [] = []
open_lines is_begun (c ∷ cs) = (end_before is_begun ++ written_change c) ++ open_lines true cs

-- with the token at their end they are a batch
line_ended : (text token : List ℕ)
    → text ++ token ++ codes "}" ++ line_feed ∷ [] ≡ text ++ (token ++ codes "}\n")
line_ended text token =
    append_assoc (text ++ token) (codes "}") (line_feed ∷ []) ∙ append_assoc text token (codes "}\n")

open_batch : (is_begun : Bool) (c : Change) (cs : List Change) (token : List ℕ)
    → open_lines is_begun (c ∷ cs) ++ end_with token ≡ end_before is_begun ++ batch_text (c ∷ cs) token
open_batch is_begun c [] token =
    let e = end_before is_begun in
    let w = written_change c in
    ap (λ l. l ++ end_with token) (append-nil (e ++ w)) ∙ append_assoc e w (end_with token)
    ∙ ap (λ l. e ++ l) (sym (line_ended w (written_token (Some token))))
open_batch is_begun c (d ∷ ds) token =
    let e = end_before is_begun in
    let w = written_change c in
    let more = batch_text (d ∷ ds) token in
    append_assoc (e ++ w) (open_lines true (d ∷ ds)) (end_with token)
    ∙ ap (λ l. (e ++ w) ++ l) (open_batch true d ds token)
    ∙ append_assoc e w (codes "}\n" ++ more)
    ∙ ap (λ l. e ++ l) (sym (append_assoc w (codes "}\n") more) ∙ ap (λ l. l ++ more) (sym (line_ended w [])))

open_or_clear : (cs : List Change) (token : List ℕ)
    → open_lines false (or_clear cs) ++ end_with token ≡ batch_text (or_clear cs) token
open_or_clear [] token = open_batch false (Clear (codes "contest")) [] token
open_or_clear (c ∷ cs) token = open_batch false c cs token

pub open_snapshot : (tables : Contents) (token : List ℕ)
    → open_lines false (listing tables) ++ end_with token ≡ snapshot_text tables token
open_snapshot tables token = open_or_clear (flat_map listed (entries tables)) token

module _ {W : Type 0} (contents : W → Option (List ℕ)) (failures : W → ℕ) where
  -- a text and then another one
  pub prints_then : (a b c : Printer W) (s t : List ℕ) → PrintsText contents failures a b s
      → PrintsText contents failures b c t → PrintsText contents failures a c (s ++ t)
  prints_then a b c s t first second =
      record {
        same_device = second.same_device ∙ first.same_device;
        written = tells_then _ _ _ _ _ _ _ _ _ s t first.written second.written;
      }

  pub prints_as : (a b : Printer W) (s t : List ℕ) → s ≡ t → PrintsText contents failures a b s
      → PrintsText contents failures a b t
  prints_as a b s t e written = subst (PrintsText contents failures a b) e written

  -- what changes print one after the other
  printed : (a b : Printer W) (c : Change) (cs : List Change)
      → FoldsTo (PrintsChange contents failures false) a (c ∷ cs) b
      → PrintsText contents failures a b (open_lines a.is_begun (c ∷ cs)) × (b.waiting.has_failed ≡ false)
  printed a b c [] (j, (line, begun, ok), same) =
      let text = end_before a.is_begun ++ written_change c in
      subst (λ k. PrintsText contents failures a k (open_lines a.is_begun (c ∷ [])) × (k.waiting.has_failed ≡ false)) same
      (prints_as a j text (text ++ []) (sym (append-nil text)) line, ok)
  printed a b c (d ∷ ds) (j, (line, begun, ok), more) =
      let (rest, ended) = printed j b d ds more in
      let text = end_before a.is_begun ++ written_change c in
      let behind = prints_as j b _ _ (ap (λ f. open_lines f (d ∷ ds)) begun) rest in
      (prints_then a j b text (open_lines true (d ∷ ds)) line behind, ended)

  pub printed_some : (a b : Printer W) (cs : List Change)
      → FoldsTo (PrintsChange contents failures false) a (or_clear cs) b
      → PrintsText contents failures a b (open_lines a.is_begun (or_clear cs)) × (b.waiting.has_failed ≡ false)
  printed_some a b [] h = printed a b (Clear (codes "contest")) [] h
  printed_some a b (c ∷ cs) h = printed a b c cs h

  -- what is printed of changes of which one fails
  pub printed_prefix : (a between b : Printer W) (taken : List Change) (c : Change) (left : List Change)
      → FoldsTo (PrintsChange contents failures false) a taken between
      → PrintsChange contents failures true between c b
      → (text : List ℕ) × (rest : List ℕ) × (open_lines a.is_begun (taken ++ c ∷ left) ≡ text ++ rest)
      × PrintsText contents failures a b text × (b.waiting.has_failed ≡ true)
  printed_prefix a between b [] c left same (line, begun, failed) =
      subst
      (λ k. (text : List ℕ) × (rest : List ℕ) × (open_lines k.is_begun (c ∷ left) ≡ text ++ rest)
      × PrintsText contents failures k b text × (b.waiting.has_failed ≡ true))
      (sym same)
      (end_before between.is_begun ++ written_change c, open_lines true left, refl, line, failed)
  printed_prefix a between b (t ∷ ts) c left (j, (line, begun, ok), more) last =
      let (text, rest, is, written, failed) = printed_prefix j between b ts c left more last in
      let first = end_before a.is_begun ++ written_change t in
      let whole = ap (λ f. open_lines f (ts ++ c ∷ left)) (sym begun) ∙ is in (
        first ++ text,
        rest,
        ap (λ l. first ++ l) whole ∙ sym (append_assoc first text rest),
        prints_then a j b first text line written,
        failed,
      )

-- all of a text was written where nothing waited before and nothing waits after
pub all_sent : (a b : Option (List ℕ)) (f g : ℕ) (p q : Waiting) (text : List ℕ) → p.bytes ≡ []
    → q.bytes ≡ [] → q.has_failed ≡ false → WritesText a b f g p q text → Appends a b text
all_sent a b f g p q text none left ended written =
    let (begun, kept, (sent, is, h)) = written.sends ended in
    let same : text ≡ sent =
    ap (λ l. l ++ text) (sym none) ∙ is ∙ ap (λ l. sent ++ l) left ∙ append-nil sent in
    subst (Appends a b) (sym same) h

-- a prefix of it was written where nothing waited before and a write failed
pub prefix_sent : (a b : Option (List ℕ)) (f g : ℕ) (p q : Waiting) (text rest : List ℕ)
    → p.bytes ≡ [] → p.has_failed ≡ false → q.has_failed ≡ true → WritesText a b f g p q text
    → AppendsPrefix a b (text ++ rest) × HasFailed f g
prefix_sent a b f g p q text rest none begun failed written =
    let (prefix, risen) = written.fails begun failed in
    (subst (λ l. AppendsPrefix a b (l ++ (text ++ rest))) none (prefix_behind a b p.bytes text rest prefix), risen)

-- what came of the lines of a snapshot
module _ {W : Type 0} (contents : W → Option (List ℕ)) (failures : W → ℕ) (device : MutBor W) (waiting : Waiting)
    (tables : Contents) (token : List ℕ) (none : waiting.bytes ≡ []) (begun : waiting.has_failed ≡ false) where
  abbrev pub new_printer : Printer W
  new_printer = record { device = device; waiting = waiting; is_begun = false; opening = None }

  -- where all changes were taken
  module _ (listed_to ended : Printer W) (final : W)
      (taken : FoldsTo (PrintsChange contents failures false) new_printer (listing tables) listed_to)
      (last : PrintsText contents failures listed_to ended (end_with token))
      (left : ended.waiting.bytes ≡ [])
      (back : device.ghost_name ≡ ended.device.ghost_name → final ≡ ended.device.now) where
    whole : PrintsText contents failures new_printer ended (snapshot_text tables token)
    whole =
        let lines = printed_some contents failures new_printer listed_to (flat_map listed (entries tables)) taken in
        prints_as contents failures new_printer ended _ _ (open_snapshot tables token)
        (prints_then contents failures new_printer listed_to ended _ _ lines.0 last)

    final_is : final ≡ ended.device.now
    final_is = back (sym whole.same_device)

    pub ended_ok : ended.waiting.has_failed ≡ false
        → Appends (contents device.now) (contents final) (snapshot_text tables token)
        × (failures final ≡ failures device.now)
    ended_ok ok =
        subst
        (λ x. Appends (contents device.now) (contents x) (snapshot_text tables token)
        × (failures x ≡ failures device.now))
        (sym final_is)
        (all_sent _ _ _ _ waiting ended.waiting _ none left ok whole.written, (whole.written.sends ok).1)

    pub ended_err : ended.waiting.has_failed ≡ true
        → AppendsPrefix (contents device.now) (contents final) (snapshot_text tables token)
        × HasFailed (failures device.now) (failures final)
    ended_err failed =
        let text = snapshot_text tables token in
        let (prefix, risen) = prefix_sent _ _ _ _ waiting ended.waiting text [] none begun failed whole.written in
        subst
        (λ x. AppendsPrefix (contents device.now) (contents x) text
        × HasFailed (failures device.now) (failures x))
        (sym final_is)
        (subst (AppendsPrefix _ _) (append-nil text) prefix, risen)

  -- where one of them failed
  pub listed_err : (stopped : Printer W) (final : W)
      → FailsIn (PrintsChange contents failures false) (PrintsChange contents failures true)
      new_printer (listing tables) stopped
      → (device.ghost_name ≡ stopped.device.ghost_name → final ≡ stopped.device.now)
      → AppendsPrefix (contents device.now) (contents final) (snapshot_text tables token)
      × HasFailed (failures device.now) (failures final)
  listed_err stopped final (taken, at, behind, is, between, before, last) back =
      let (text, rest, whole, written, failed) =
      printed_prefix contents failures new_printer between stopped taken at behind before last in
      let all : text ++ (rest ++ end_with token) ≡ snapshot_text tables token =
      sym (append_assoc text rest (end_with token))
      ∙ ap (λ l. l ++ end_with token) (sym (ap (open_lines false) is ∙ whole))
      ∙ open_snapshot tables token in
      let (prefix, risen) =
      prefix_sent _ _ _ _ waiting stopped.waiting text (rest ++ end_with token) none begun failed written.written in
      subst
      (λ x. AppendsPrefix (contents device.now) (contents x) (snapshot_text tables token)
      × HasFailed (failures device.now) (failures x))
      (sym (back (sym written.same_device)))
      (subst (AppendsPrefix _ _) all prefix, risen)
