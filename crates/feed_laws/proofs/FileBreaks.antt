-- A mirror that reads a file publishes only where one of its parts ends.
use Rattle.std.proofs.Common.{◌≡◌, ◌⊎◌, inl, inr, refl, sym, ap, ◌∙◌, subst, ℕ, ◌+◌, ◌-◌, ◌<◌, ◌≤◌, max, Bool, true, false, true≢false, ◌&&◌, not, arith, List, [], ◌∷◌, ◌++◌, length, Option, Some, None, append_assoc, append-nil, length-append, nat_le, leb-true, leb-false}
use Rattle.std.specs.Prelude.{if◌then◌else◌}
use Rattle.std.specs.List.{list_all}
use Rattle.std.proofs.lemmas.Grind.{flat_map-append}
use Rattle.std.proofs.lemmas.List.{map-append}
use Rattle.feed_settings.specs.Limits.{Limits}
use Rattle.feed_text.specs.Ascii.{line_feed}
use Rattle.feed_changes.specs.declared.change.Change.{Change}
use Rattle.feed_note.specs.Lines.{HasNoLineFeed, is_line_feed}
use Rattle.feed_note.specs.Texts.{batch_text}
use Rattle.feed_node.specs.Texts.{snapshot_text}
use Rattle.feed_note.specs.Written.{written_line}
use Rattle.feed_note.specs.declared.line.Line.{Line}
use Rattle.feed_node.proofs.TextLines.{cuts_of_one}
use Rattle.feed_node.specs.Mirroring.{first_opening, publications}
use Rattle.feed_node.specs.Serving.{commit_text}
use Rattle.feed_node.specs.Reading.{Reads, reads}
use Rattle.feed_node.specs.States.{NodeState, published_token}
use Rattle.feed_node.specs.Steps.{ReadingIsOne}
use Rattle.feed_wire.specs.FrameLaws.{joined}
use Rattle.feed_world.proofs.Responses.{joined_parts}
use Rattle.feed_world.specs.Connection.{Connection, Part, Snapshot, Commit, Line_feed, part_text, part_texts, parts_text, sent_text, block_onto, blocks_within, count_new, moved_by}
use Rattle.feed_world.specs.Following.{PlacesStay, AllIsReached, number_at}
use Rattle.feed_world.specs.Laws.{NodesSendTheNext, PartsGoOn}
use Rattle.feed_world.specs.Log.{Log, IsLog, state_after, state_text}
use Rattle.feed_world.specs.Position.{Position, node_where}
use Rattle.feed_world.specs.Reading.{IsOpened, PrefixIsRead, SentIsRead}
use Rattle.feed_world.specs.States.{IsAsFarAs}
use Rattle.feed_hub.specs.Told.{Told, told_none, told_commit, told_line_feed}
use Rattle.feed_laws.specs.Laws.{AreInLog, StandInOrder}
use Rattle.feed_laws.specs.Files.{PublishesAsRecorded, FilesBreakOff}
use Rattle.feed_laws.proofs.FileLemmas.{begun}
use Rattle.feed_laws.proofs.LawLemmas.{screens_connect, connection, its_text, is_opened}

-- ---- the first texts that a session was told

-- a list with one item more is the first of two lists, or that one begins the items before
whole_or_begins : {X : Type 0} (xs : List X) (x : X) (a b : List X) → xs ++ x ∷ [] ≡ a ++ b
    → (xs ++ x ∷ [] ≡ a) ⊎ ((m : List X) × (xs ≡ a ++ m))
whole_or_begins xs x [] b e = inr (xs, refl)
whole_or_begins [] x (y ∷ []) b e = let same : x ≡ y = cc in inl (λ i. same i ∷ [])
whole_or_begins [] x (y ∷ z ∷ a) b e = absurd (cc)
whole_or_begins {X = X} (w ∷ xs) x (y ∷ a) b e =
    let same : w ≡ y = cc in
    let later : xs ++ x ∷ [] ≡ a ++ b = cc in
    by same (whole_or_begins xs x a b later)
  where
    by : w ≡ y → (xs ++ x ∷ [] ≡ a) ⊎ ((m : List X) × (xs ≡ a ++ m))
        → (w ∷ xs ++ x ∷ [] ≡ y ∷ a) ⊎ ((m : List X) × (w ∷ xs ≡ y ∷ a ++ m))
    by same (inl is) = inl (λ i. same i ∷ is i)
    by same (inr (m, is)) = inr (m, λ i. same i ∷ is i)

first_told : (nodes : List NodeState) (opened : List ℕ) (texts a b : List (List ℕ)) (token : List ℕ)
    → Told nodes opened texts token → texts ≡ a ++ b → (t : List ℕ) × Told nodes opened a t
first_told nodes opened texts [] b token told e = (opened, told_none)
first_told nodes opened texts (x ∷ a) b token told_none e = absurd (cc)
first_told nodes opened texts (x ∷ a) b token (told_commit earlier before node commit t among is) e =
    by (whole_or_begins earlier (commit_text commit) (x ∷ a) b e) (λ m begins. first_told nodes opened earlier (x ∷ a) m before t begins)
  where
    by : (earlier ++ commit_text commit ∷ [] ≡ x ∷ a) ⊎ ((m : List (List ℕ)) × (earlier ≡ x ∷ a ++ m))
        → ((m : List (List ℕ)) → earlier ≡ x ∷ a ++ m → (t : List ℕ) × Told nodes opened (x ∷ a) t) → (t : List ℕ) × Told nodes opened (x ∷ a) t
    by (inl whole) more = (commit.token, subst (λ ts. Told nodes opened ts commit.token) whole (told_commit earlier before node commit t among is))
    by (inr (m, begins)) more = more m begins
first_told nodes opened texts (x ∷ a) b token (told_line_feed earlier before t) e =
    by (whole_or_begins earlier (line_feed ∷ []) (x ∷ a) b e) (λ m begins. first_told nodes opened earlier (x ∷ a) m before t begins)
  where
    by : (earlier ++ (line_feed ∷ []) ∷ [] ≡ x ∷ a) ⊎ ((m : List (List ℕ)) × (earlier ≡ x ∷ a ++ m))
        → ((m : List (List ℕ)) → earlier ≡ x ∷ a ++ m → (t : List ℕ) × Told nodes opened (x ∷ a) t) → (t : List ℕ) × Told nodes opened (x ∷ a) t
    by (inl whole) more = (before, subst (λ ts. Told nodes opened ts before) whole (told_line_feed earlier before t))
    by (inr (m, begins)) more = more m begins

-- ---- each part ends with a line

-- nothing, or a text whose last byte is a line feed
abbrev Ends : List ℕ → Type 0
Ends text = (text ≡ []) ⊎ ((first : List ℕ) × (text ≡ first ++ line_feed ∷ []))

both_end : (a b : List ℕ) → Ends a → Ends b → Ends (a ++ b)
both_end a b ends (inl none) = by ends
  where
    same : a ++ b ≡ a
    same = ap (λ t. a ++ t) none ∙ append-nil a

    by : Ends a → Ends (a ++ b)
    by (inl is) = inl (same ∙ is)
    by (inr (first, is)) = inr (first, same ∙ is)
both_end a b ends (inr (first, is)) = inr (a ++ first, ap (λ t. a ++ t) is ∙ sym (append_assoc a first (line_feed ∷ [])))

batch_ends : (changes : List Change) (token : List ℕ) → Ends (batch_text changes token)
batch_ends [] token = inl refl
batch_ends (c ∷ []) token = inr (written_line c (Some token), refl)
batch_ends (c ∷ d ∷ cs) token =
    both_end (written_line c None ++ line_feed ∷ []) (batch_text (d ∷ cs) token) (inr (written_line c None, refl)) (batch_ends (d ∷ cs) token)

part_ends : (log : Log) (part : Part) → Ends (part_text log part)
part_ends log (Snapshot k) = batch_ends _ _
part_ends log (Commit k) = batch_ends _ _
part_ends log Line_feed = inr ([], refl)

parts_end : (log : Log) (parts : List Part) → Ends (parts_text log parts)
parts_end log [] = inl refl
parts_end log (part ∷ parts) = both_end (part_text log part) (parts_text log parts) (part_ends log part) (parts_end log parts)

-- ---- where blocks end

-- some of the parts, the first ones, end within these bytes, and not within those
record EndsBetween (log : Log) (parts : List Part) (n m : ℕ) : Type 0 where
  first : List Part
  later : List Part
  whole : parts ≡ first ++ later
  after : n < length (parts_text log first)
  within : length (parts_text log first) ≤ m

ends_between : (log : Log) (parts : List Part) (n m : ℕ) → n ≤ m
    → (blocks_within log parts n ≡ blocks_within log parts m) ⊎ EndsBetween log parts n m
ends_between log [] n m le = inl refl
ends_between log (part ∷ parts) n m le =
    by (nat_le long n) refl (nat_le long m) refl (ends_between log parts (n - long) (m - long) (omega (arith, le)))
  where
    long : ℕ
    long = length (part_text log part)

    blocks : ℕ → Bool → List Part
    blocks k b = if b then block_onto part (blocks_within log parts (k - long)) else []

    by : (x : Bool) → nat_le long n ≡ x → (y : Bool) → nat_le long m ≡ y
        → (blocks_within log parts (n - long) ≡ blocks_within log parts (m - long)) ⊎ EndsBetween log parts (n - long) (m - long)
        → (blocks_within log (part ∷ parts) n ≡ blocks_within log (part ∷ parts) m) ⊎ EndsBetween log (part ∷ parts) n m
    by true x true y (inl same) = inl (ap (blocks n) x ∙ ap (block_onto part) same ∙ sym (ap (blocks m) y))
    by true x true y (inr r) =
        let sum = length-append (part_text log part) (parts_text log r.first) in
        let small = leb-true long n x in
        let less : long ≤ m = omega (arith, small, le) in
        let after = r.after in
        let within = r.within in
        inr (record {
          first = part ∷ r.first;
          later = r.later;
          whole = ap (λ ps. part ∷ ps) r.whole;
          after = omega (arith, sum, small, after);
          within = omega (arith, sum, less, within);
        })
    by true x false y r =
        let small = leb-true long n x in
        let large = leb-false long m y in absurd (omega (arith, small, large, le))
    by false x true y r =
        let large = leb-false long n x in
        let small = leb-true long m y in
        let alone : length (part_text log part ++ []) ≡ long = ap length (append-nil (part_text log part)) in
        inr (record { first = part ∷ []; later = parts; whole = refl; after = omega (arith, alone, large); within = omega (arith, alone, small) })
    by false x false y r = inl (ap (blocks n) x ∙ sym (ap (blocks m) y))

-- ---- a line has one line feed

-- nothing stands behind the line feed of a line
none_behind : (line first behind : List ℕ) → HasNoLineFeed line → line ++ line_feed ∷ [] ≡ first ++ line_feed ∷ behind → behind ≡ []
none_behind [] [] behind h e = let none : [] ≡ behind = cc in sym none
none_behind [] (x ∷ []) behind h e = absurd (cc)
none_behind [] (x ∷ y ∷ first) behind h e = absurd (cc)
none_behind (b ∷ line) [] behind h e =
    let is : b ≡ line_feed = cc in
    absurd (true≢false (sym (ap (λ c. not (is_line_feed c) && list_all (λ d. not (is_line_feed d)) line) (sym is) ∙ h)))
none_behind (b ∷ line) (x ∷ first) behind h e =
    let later : line ++ line_feed ∷ [] ≡ first ++ line_feed ∷ behind = cc in
    none_behind line first behind (second (not (is_line_feed b)) _ h) later
  where
    second : (x y : Bool) → (x && y) ≡ true → y ≡ true
    second true y e = e
    second false y e = absurd (true≢false (sym e))

-- what ends with a line feed behind some bytes and within one line more, ends with that line
ends_with_line : (before line text more rest : List ℕ) → HasNoLineFeed line → Ends text
    → length before < length text → length text ≤ length (before ++ (line ++ line_feed ∷ []))
    → text ++ more ≡ (before ++ (line ++ line_feed ∷ [])) ++ rest → text ≡ before ++ (line ++ line_feed ∷ [])
ends_with_line before line text more rest h (inl none) after within e =
    let empty : length text ≡ 0 = ap length none in absurd (omega (arith, empty, after))
ends_with_line before line text more rest h (inr (first, is)) after within e =
    let r = cuts_of_one text more (before ++ (line ++ line_feed ∷ [])) rest e within in
    let whole : before ++ (line ++ line_feed ∷ []) ≡ first ++ (line_feed ∷ r.0) =
    r.1 ∙ ap (λ t. t ++ r.0) is ∙ append_assoc first (line_feed ∷ []) r.0 in
    let long : length text ≡ length first + 1 = ap length is ∙ length-append first (line_feed ∷ []) in
    let s = cuts_of_one before (line ++ line_feed ∷ []) first (line_feed ∷ r.0) whole (omega (arith, after, long)) in
    let none = none_behind line s.0 r.0 h s.2 in
    sym (r.1 ∙ ap (λ t. text ++ t) none ∙ append-nil text)

-- ---- the law

pub record Given : Type 0 where
  pub prefixes : SentIsRead
  pub one : ReadingIsOne
  pub sends : NodesSendTheNext
  pub order : PartsGoOn
  pub stays : PlacesStay
  pub reached : AllIsReached

no_start : (k : ℕ) → true ≡ false → (own : Position) × (None ≡ Some own) × (own.low ≤ k) × (k ≤ own.at)
no_start k e = absurd (true≢false e)

-- what a mirror that had published nothing makes of a snapshot of the log and what a session was
-- told behind it
module _ (g : Given) (limits : Limits) (log : Log) (nodes : List NodeState) (k : ℕ) (texts : List (List ℕ)) (token : List ℕ)
    (is_log : IsLog limits log) (in_log : AreInLog log nodes) (small : k ≤ length log.commits) (told : Told nodes (log.token k) texts token) where
  abbrev order : StandInOrder log k texts token
  order = screens_connect g.sends g.order log nodes k texts token is_log.named in_log small told

  abbrev c : Connection
  c = connection log k texts token true order

  opened : IsOpened limits log None c
  opened = is_opened limits log k texts token None true order tt (no_start k)

  sent : sent_text log c ≡ state_text log k ++ joined texts
  sent = its_text limits log k texts token None true order tt (no_start k)

  read_so : (prefix behind : List ℕ) → prefix ++ behind ≡ state_text log k ++ joined texts → PrefixIsRead limits log None c prefix
  read_so prefix behind whole = g.prefixes limits log None c prefix behind is_log opened (whole ∙ sym sent)

  -- how often the lines of a prefix publish
  published_so : (prefix behind : List ℕ) (notes : List Line) → prefix ++ behind ≡ state_text log k ++ joined texts
      → Reads limits first_opening prefix notes
      → publications limits.history first_opening notes ≡ count_new limits.history log None (blocks_within log c.parts (length prefix))
  published_so prefix behind notes whole reading =
      let r = read_so prefix behind whole in
      let same = g.one.notes limits first_opening prefix r.notes notes r.nothing_bad reading in
      ap (publications limits.history first_opening) (sym same) ∙ r.published

  -- with all of it the mirror has the token of the last
  token_so : (text : List ℕ) (notes : List Line) → text ≡ state_text log k ++ joined texts → Reads limits first_opening text notes
      → published_token (reads limits.history first_opening notes) ≡ Some token
  token_so text notes whole reading =
      let r = read_so text [] (append-nil text ∙ whole) in
      let same = g.one.notes limits first_opening text r.notes notes r.nothing_bad reading in
      let all : length (sent_text log c) ≡ length text = ap length (sent ∙ sym whole) in
      let place = moved_by limits.history log None (blocks_within log c.parts (length text)) in
      let least : IsAsFarAs place order.last = subst (λ n. IsAsFarAs (moved_by limits.history log None (blocks_within log c.parts n)) order.last) all (g.reached limits log None c opened) in
      let most : number_at place ≤ max 0 order.last = (g.stays limits log None c (length text) opened).1 in
      ap (λ ns. published_token (reads limits.history first_opening ns)) (sym same)
      ∙ ap published_token r.shows ∙ by place least most ∙ ap Some (sym order.token_is)
    where
      by : (place : Option Position) → IsAsFarAs place order.last → number_at place ≤ max 0 order.last
          → published_token (node_where log place) ≡ Some (log.token order.last)
      by None least most = absurd least
      by (Some p) least most =
          let at : p.at ≡ order.last = omega (arith, least, most) in ap (λ n. Some (log.token n)) at

pub files_break_off : Given → FilesBreakOff
files_break_off g limits log nodes written before line behind r earlier notes is_log in_log recorded unbroken whole first second fewer =
    by (ends_between log its.parts (length before) (length text) (omega (arith, length-append before (line ++ line_feed ∷ []))))
  where
    b : (k : ℕ) × (k ≤ length log.commits) × (recorded.snapshot ≡ record { tables = state_after log k; token = log.token k })
    b = begun limits log nodes written r is_log in_log recorded

    told : Told nodes (log.token b.0) recorded.texts r.token
    told = subst (λ p. Told nodes p.token recorded.texts r.token) b.2 recorded.told

    text : List ℕ
    text = before ++ (line ++ line_feed ∷ [])

    in_order : StandInOrder log b.0 recorded.texts r.token
    in_order = order g limits log nodes b.0 recorded.texts r.token is_log in_log b.1 told

    its : Connection
    its = c g limits log nodes b.0 recorded.texts r.token is_log in_log b.1 told

    all : text ++ (behind ++ r.own) ≡ state_text log b.0 ++ joined recorded.texts
    all = sym (append_assoc text behind r.own) ∙ ap (λ w. w ++ r.own) whole ∙ recorded.all
        ∙ ap (λ p. snapshot_text p.tables p.token ++ joined recorded.texts) b.2

    count_before : publications limits.history first_opening earlier ≡ count_new limits.history log None (blocks_within log its.parts (length before))
    count_before =
        published_so g limits log nodes b.0 recorded.texts r.token is_log in_log b.1 told before ((line ++ line_feed ∷ []) ++ (behind ++ r.own)) earlier
        (sym (append_assoc before (line ++ line_feed ∷ []) (behind ++ r.own)) ∙ all) first

    count_after : publications limits.history first_opening notes ≡ count_new limits.history log None (blocks_within log its.parts (length text))
    count_after = published_so g limits log nodes b.0 recorded.texts r.token is_log in_log b.1 told text (behind ++ r.own) notes all second

    -- the parts up to there
    up_to : (parts later : List Part) → in_order.parts ≡ parts ++ later
        → length before < length (state_text log b.0 ++ parts_text log parts) → length (state_text log b.0 ++ parts_text log parts) ≤ length text
        → PublishesAsRecorded limits nodes text notes
    up_to parts later is after within =
        let texts = part_texts log parts in
        let part : recorded.texts ≡ texts ++ part_texts log later =
        in_order.texts_are ∙ ap (part_texts log) is ∙ map-append (part_text log) parts later in
        let t = first_told nodes (log.token b.0) recorded.texts texts (part_texts log later) r.token told part in
        let behind_it : (state_text log b.0 ++ parts_text log parts) ++ joined (part_texts log later) ≡ text ++ (behind ++ r.own) =
        append_assoc (state_text log b.0) (parts_text log parts) (joined (part_texts log later))
        ∙ ap (λ j. state_text log b.0 ++ (j ++ joined (part_texts log later))) (sym (joined_parts log parts))
        ∙ ap (λ j. state_text log b.0 ++ j) (sym (flat_map-append (λ x. x) texts (part_texts log later)) ∙ ap joined (sym part))
        ∙ sym all in
        let ended = both_end (state_text log b.0) (parts_text log parts) (part_ends log (Snapshot b.0)) (parts_end log parts) in
        let same : state_text log b.0 ++ parts_text log parts ≡ text =
        ends_with_line before line (state_text log b.0 ++ parts_text log parts) (joined (part_texts log later)) (behind ++ r.own) unbroken ended after within behind_it in
        let is_text : text ≡ state_text log b.0 ++ joined texts = sym same ∙ ap (λ j. state_text log b.0 ++ j) (sym (joined_parts log parts)) in (
          t.0,
          record {
            first = recorded.first;
            among = recorded.among;
            snapshot = recorded.snapshot;
            published = recorded.published;
            texts = texts;
            told = subst (λ p. Told nodes p.token texts t.0) (sym b.2) t.1;
            all = append-nil text ∙ is_text ∙ ap (λ p. snapshot_text p.tables p.token ++ joined texts) (sym b.2);
          },
          token_so g limits log nodes b.0 texts t.0 is_log in_log b.1 t.1 text notes is_text second,
        )

    at : (parts later : List Part) → Snapshot b.0 ∷ in_order.parts ≡ parts ++ later → length before < length (parts_text log parts)
        → length (parts_text log parts) ≤ length text → PublishesAsRecorded limits nodes text notes
    at [] later is after within = absurd (omega (arith, after))
    at (p ∷ parts) later is after within =
        let first : Snapshot b.0 ≡ p = cc in
        let more : in_order.parts ≡ parts ++ later = cc in
        up_to parts later more
        (subst (λ q. length before < length (part_text log q ++ parts_text log parts)) (sym first) after)
        (subst (λ q. length (part_text log q ++ parts_text log parts) ≤ length text) (sym first) within)

    by : (blocks_within log its.parts (length before) ≡ blocks_within log its.parts (length text)) ⊎ EndsBetween log its.parts (length before) (length text)
        → PublishesAsRecorded limits nodes text notes
    by (inl same) =
        let equal : publications limits.history first_opening earlier ≡ publications limits.history first_opening notes =
        count_before ∙ ap (count_new limits.history log None) same ∙ sym count_after in
        absurd (omega (arith, equal, fewer))
    by (inr found) = at found.first found.later found.whole found.after found.within
