-- What is found on lines, one after the other.
use Rattle.std.proofs.Common.{◌≡◌, refl, sym, ap, ap₂, ◌∙◌, ℕ, suc, ◌+◌, ◌≤◌, Bool, true, false, not, cond, ◌||◌, ◌&&◌, List, [], ◌∷◌, ◌++◌, length, append_assoc, append-nil, length-append, subst, inl, Option, None, Some, codes, decimal, arith}
use Rattle.std.specs.Prelude.{count_by, bytes_eq, is_some}
use Rattle.std.specs.List.{AllZip, list_any, position_from}
use Rattle.std.specs.Option.{option_eq, option_map_or}
use Rattle.std.specs.BTreeSet.{contains_text}
use Rattle.std.proofs.lemmas.List.Folds.{list_any-append}
use Rattle.std.proofs.lemmas.List.Sums.{sum_by_push, count_by-le-length}
use Rattle.std.proofs.lemmas.Slice.Zip.{AllZip-long}
use Rattle.feed_text.specs.Ascii.{line_feed}
use Rattle.feed_text.specs.Members.{MemberSpelling}
use Rattle.feed_text.specs.Scan.{HoldsLast}
use Rattle.feed_text.specs.Strings.{decoded, says}
use Rattle.feed_note.proofs.LinesCut.{no_lines, one_line}
use Rattle.feed_note.proofs.ReadSoFar.{ReadSoFar, starts, more, stops}
use Rattle.feed_note.specs.Counts.{IsRead, Stops, StopsAt, has_token}
use Rattle.feed_note.specs.Lines.{HasNoLineFeed, lines}
use Rattle.feed_note.specs.Notes.{token_in}
use Rattle.feed_note.specs.Steps.{TakesNote}
use Rattle.feed_note.specs.declared.line.Line.{Line}
use Rattle.feed_note.specs.declared.stop.LineStop.{LineStop}
use Rattle.feed_commands.specs.Findings.{has_this, comes_again, is_tokenless, of_each, is_true, is_in, is_with, first_line_found, IsOlder, IsMisnamed, OwnsId, IsFound, AreFound, TellsNothing, FindsOn, ReadsOneLine, finding_text}
use Rattle.feed_commands.specs.declared.commands.findings.Finding.{Finding}
use Rattle.feed_commands.specs.declared.commands.findings.Reader.{Reader}

-- on which lines it is so, with one line more
of_each_push : (is_so : List Line → Line → Bool) (before notes : List Line) (note : Line)
    → of_each is_so before (notes ++ note ∷ []) ≡ of_each is_so before notes ++ is_so (before ++ notes) note ∷ []
unfolding of_each
of_each_push is_so before [] note = ap (λ l. is_so l note ∷ []) (sym (append-nil before))
of_each_push is_so before (n ∷ notes) note =
    ap (λ l. is_so before n ∷ l)
    (of_each_push is_so (before ++ n ∷ []) notes note
    ∙ ap (λ l. of_each is_so (before ++ n ∷ []) notes ++ is_so l note ∷ []) (append_assoc before (n ∷ []) notes))

pub of_each_length : (is_so : List Line → Line → Bool) (before notes : List Line) → length (of_each is_so before notes) ≡ length notes
unfolding of_each
of_each_length is_so before [] = refl
of_each_length is_so before (n ∷ notes) = ap suc (of_each_length is_so (before ++ n ∷ []) notes)

-- how many are true, with one more
count_push : (marks : List Bool) (b : Bool) → count_by is_true (marks ++ b ∷ []) ≡ count_by is_true marks + cond b 1 0
count_push marks b = sum_by_push (λ m. cond (is_true m) 1 0) marks b

-- the first that is true, with one more
first_push : (number : ℕ) (marks : List Bool) (b : Bool)
    → position_from is_true number (marks ++ b ∷ []) ≡ first_line_found (position_from is_true number marks) b (number + length marks)
first_push number [] true = ap (λ n. Some n) (omega arith)
first_push number [] false = refl
first_push number (true ∷ marks) b = refl
first_push number (false ∷ marks) b =
    first_push (number + 1) marks b ∙ ap (first_line_found (position_from is_true (number + 1) marks) b) (omega arith)

-- the lines' tokens are in the set, and no other texts
unfoldable pub HasAll : (List ℕ → Bool) → List Line → Type 0
HasAll set notes = (other : List ℕ) → set other ≡ list_any (has_this other) notes

pub is_again : (set : List ℕ → Bool) (notes : List Line) (token : Option (List ℕ)) → HasAll set notes
    → is_in set token ≡ option_map_or (λ t. list_any (has_this t) notes) token false
unfolding HasAll
is_again set notes None all = refl
is_again set notes (Some token) all = all token

or_false : (a b : Bool) → cond b true a ≡ (a || (b || false))
or_false true true = refl
or_false true false = refl
or_false false true = refl
or_false false false = refl

with_one : (token : Option (List ℕ)) (other : List ℕ) (a : Bool)
    → is_with token other a ≡ (a || (option_map_or (λ t. bytes_eq t other) token false || false))
with_one None other true = refl
with_one None other false = refl
with_one (Some t) other a = or_false a (bytes_eq t other)

pub has_more : (set new : List ℕ → Bool) (notes : List Line) (note : Line) → HasAll set notes
    → ((other : List ℕ) → new other ≡ is_with (token_in note) other (set other)) → HasAll new (notes ++ note ∷ [])
unfolding HasAll
has_more set new notes note all is =
    λ other. is other ∙ ap (is_with (token_in note) other) (all other)
    ∙ with_one (token_in note) other (list_any (has_this other) notes)
    ∙ sym (list_any-append (has_this other) notes (note ∷ []))

-- ---- the id of an object

pub owns_some : (object id : List ℕ) (found : Option MemberSpelling) (member : MemberSpelling) (text : List ℕ) (b : Bool) → HoldsLast (codes "id") object found
    → found ≡ Some member → decoded member.1.0 ≡ Some text → b ≡ bytes_eq text id → OwnsId object id b
owns_some object id found member text b holds is says_text same = (
  found,
  holds,
  same ∙ sym (ap (λ f. option_map_or (λ (m : MemberSpelling). says m.1.0 id) f false) is ∙ ap (λ d. option_eq bytes_eq d (Some id)) says_text),
)

pub owns_none : (object id : List ℕ) (found : Option MemberSpelling) (member : MemberSpelling) → HoldsLast (codes "id") object found
    → found ≡ Some member → decoded member.1.0 ≡ None → OwnsId object id false
owns_none object id found member holds is says_nothing = (
  found,
  holds,
  sym (ap (λ f. option_map_or (λ (m : MemberSpelling). says m.1.0 id) f false) is ∙ ap (λ d. option_eq bytes_eq d (Some id)) says_nothing),
)

-- ---- one finding

pub found_first : (finding : Finding) → TellsNothing finding → IsFound [] finding
found_first finding none = record { count = none.count; first = none.first }

pub found_push : (marks : List Bool) (b : Bool) (line : ℕ) (old new : Finding) → IsFound marks old → FindsOn b line old new → line ≡ length marks + 1
    → IsFound (marks ++ b ∷ []) new
found_push marks b line old new h on is = record {
  count = on.count ∙ ap (λ n. n + cond b 1 0) h.count ∙ sym (count_push marks b);
  first = on.first ∙ ap₂ (λ f n. first_line_found f b n) h.first (is ∙ omega arith) ∙ sym (first_push 1 marks b);
}

pub found_on : (is_so : List Line → Line → Bool) (notes : List Line) (note : Line) (b : Bool) (line : ℕ) (old new : Finding)
    → IsFound (of_each is_so [] notes) old → FindsOn b line old new → b ≡ is_so notes note → line ≡ length notes + 1
    → IsFound (of_each is_so [] (notes ++ note ∷ [])) new
found_on is_so notes note b line old new h on same is =
    subst (λ marks. IsFound marks new) (sym (of_each_push is_so [] notes note))
    (found_push (of_each is_so [] notes) (is_so notes note) line old new h (subst (λ t. FindsOn t line old new) same on)
    (is ∙ ap (λ n. n + 1) (sym (of_each_length is_so [] notes))))

-- no more than the lines
pub found_fit : (marks : List Bool) (finding : Finding) (n : ℕ) → IsFound marks finding → length marks ≡ n → finding.count ≤ n
found_fit marks finding n h is =
    let few = count_by-le-length is_true marks in
    let same : finding.count ≡ count_by is_true marks = h.count in
    omega arith

pub zip_push : (P : List ℕ → Bool → Type 0) (xs : List (List ℕ)) (bs : List Bool) (x : List ℕ) (b : Bool) → AllZip P xs bs → P x b
    → AllZip P (xs ++ x ∷ []) (bs ++ b ∷ [])
zip_push P [] [] x b h k = (k, tt)
zip_push P [] (c ∷ cs) x b h k = absurd h
zip_push P (y ∷ ys) [] x b h k = absurd h
zip_push P (y ∷ ys) (c ∷ cs) x b h k = (h.0, zip_push P ys cs x b h.1 k)

-- ---- all lines

-- the lines before what is left were read, and this is known of them
pub record FedSoFar (text left : List ℕ) (reader : Reader) : Type 0 where
  pub notes : List Line
  pub older : List Bool
  pub misnamed : List Bool
  pub passed : List (List ℕ)
  pub so_far : ReadSoFar text left notes
  pub lines_are : lines text ≡ passed ++ lines left
  pub size : length passed ≡ length notes
  pub are_older : AllZip IsOlder passed older
  pub are_misnamed : AllZip IsMisnamed passed misnamed
  pub count : reader.lines ≡ length notes
  pub seen : HasAll (contains_text reader.seen) notes
  pub has_token : reader.has_token ≡ list_any has_token notes
  pub repeats_is : IsFound (of_each comes_again [] notes) reader.findings.repeats
  pub tokenless_is : IsFound (of_each is_tokenless [] notes) reader.findings.tokenless
  pub older_is : IsFound older reader.findings.older
  pub misnamed_is : IsFound misnamed reader.findings.misnamed

pub starts_with_none : (text : List ℕ) (reader : Reader) → reader.lines ≡ 0 → ((other : List ℕ) → contains_text reader.seen other ≡ false)
    → reader.has_token ≡ false → TellsNothing reader.findings.repeats → TellsNothing reader.findings.tokenless
    → TellsNothing reader.findings.older → TellsNothing reader.findings.misnamed → FedSoFar text text reader
unfolding HasAll of_each
starts_with_none text reader no_lines_yet none no_token repeats tokenless older misnamed = record {
  notes = [];
  older = [];
  misnamed = [];
  passed = [];
  so_far = starts text;
  lines_are = refl;
  size = refl;
  are_older = tt;
  are_misnamed = tt;
  count = no_lines_yet;
  seen = none;
  has_token = no_token;
  repeats_is = found_first reader.findings.repeats repeats;
  tokenless_is = found_first reader.findings.tokenless tokenless;
  older_is = found_first reader.findings.older older;
  misnamed_is = found_first reader.findings.misnamed misnamed;
}

or_none : (a b : Bool) → (a || b) ≡ (a || (b || false))
or_none true b = refl
or_none false true = refl
or_none false false = refl

-- whether a line has a token, with one line more
pub token_more : (old new : Bool) (token : Option (List ℕ)) (notes : List Line) (note : Line) → old ≡ list_any has_token notes → token ≡ token_in note
    → new ≡ (old || is_some token) → new ≡ list_any has_token (notes ++ note ∷ [])
token_more old new token notes note before is now =
    now ∙ ap₂ (λ a t. a || is_some t) before is ∙ or_none (list_any has_token notes) (has_token note)
    ∙ sym (list_any-append has_token notes (note ∷ []))

pub one_more : (text left line behind : List ℕ) (old new : Reader) → FedSoFar text left old → HasNoLineFeed line
    → left ≡ line ++ line_feed ∷ behind → ReadsOneLine line old new → FedSoFar text behind new
one_more text left line behind old new h whole is (said, s, takes) =
    let note : Line = s.note in
    let again = is_again (contains_text old.seen) h.notes said.token h.seen
    ∙ ap (λ t. option_map_or (λ u. list_any (has_this u) h.notes) t false) s.token_is in
    let taken : TakesNote left note behind = record { line = line; first = record { whole = whole; is = is }; read = s.read } in
    let number : old.lines + 1 ≡ length h.notes + 1 = ap (λ n. n + 1) h.count in
    let size : length h.passed ≡ length h.notes = h.size in
    let size_older = AllZip-long IsOlder h.passed h.older h.are_older in
    let size_misnamed = AllZip-long IsMisnamed h.passed h.misnamed h.are_misnamed in
    record {
      notes = h.notes ++ note ∷ [];
      older = h.older ++ said.is_older ∷ [];
      misnamed = h.misnamed ++ said.is_misnamed ∷ [];
      passed = h.passed ++ line ∷ [];
      so_far = more text left behind h.notes note h.so_far taken;
      lines_are = h.lines_are ∙ ap (λ l. h.passed ++ l) (ap lines is ∙ one_line line behind whole) ∙ sym (append_assoc h.passed (line ∷ []) (lines behind));
      size = length-append h.passed (line ∷ []) ∙ ap (λ n. n + 1) h.size ∙ sym (length-append h.notes (note ∷ []));
      are_older = zip_push IsOlder h.passed h.older line said.is_older h.are_older (note, s.read, s.older_is);
      are_misnamed = zip_push IsMisnamed h.passed h.misnamed line said.is_misnamed h.are_misnamed (note, s.read, s.misnamed_is);
      count = takes.lines ∙ number ∙ sym (length-append h.notes (note ∷ []));
      seen = has_more (contains_text old.seen) (contains_text new.seen) h.notes note h.seen
          (λ other. takes.seen other ∙ ap (λ t. is_with t other (contains_text old.seen other)) s.token_is);
      has_token = token_more old.has_token new.has_token said.token h.notes note h.has_token s.token_is takes.has_token;
      repeats_is = found_on comes_again h.notes note _ (old.lines + 1) _ _ h.repeats_is takes.repeats again number;
      tokenless_is = found_on is_tokenless h.notes note _ (old.lines + 1) _ _ h.tokenless_is takes.tokenless
          (ap₂ (λ a b. a && not b) s.note_is (ap₂ (λ a t. a || is_some t) h.has_token s.token_is)) number;
      older_is = found_push h.older said.is_older (old.lines + 1) _ _ h.older_is takes.older (omega arith);
      misnamed_is = found_push h.misnamed said.is_misnamed (old.lines + 1) _ _ h.misnamed_is takes.misnamed (omega arith);
    }

pub all_taken : (text left : List ℕ) (reader : Reader) → FedSoFar text left reader → HasNoLineFeed left → AreFound text reader.findings
all_taken text left reader h part =
    let all : lines text ≡ h.so_far.seen = h.so_far.lines_are ∙ ap (λ l. h.so_far.seen ++ l) (no_lines left part) ∙ append-nil h.so_far.seen in
    let passed : lines text ≡ h.passed = h.lines_are ∙ ap (λ l. h.passed ++ l) (no_lines left part) ∙ append-nil h.passed in
    record {
      notes = h.notes;
      older = h.older;
      misnamed = h.misnamed;
      read = subst (λ l. AllZip IsRead l h.notes) (sym all) h.so_far.read;
      are_older = subst (λ l. AllZip IsOlder l h.older) (sym passed) h.are_older;
      are_misnamed = subst (λ l. AllZip IsMisnamed l h.misnamed) (sym passed) h.are_misnamed;
      repeats_is = h.repeats_is;
      tokenless_is = h.tokenless_is;
      older_is = h.older_is;
      misnamed_is = h.misnamed_is;
    }

-- what was found is on no more lines than there are
module _ (text left : List ℕ) (reader : Reader) (h : FedSoFar text left reader) where
  pub repeats_fit : reader.findings.repeats.count ≤ reader.lines
  repeats_fit = found_fit _ _ reader.lines h.repeats_is (of_each_length comes_again [] h.notes ∙ sym h.count)

  pub tokenless_fit : reader.findings.tokenless.count ≤ reader.lines
  tokenless_fit = found_fit _ _ reader.lines h.tokenless_is (of_each_length is_tokenless [] h.notes ∙ sym h.count)

  pub older_fit : reader.findings.older.count ≤ reader.lines
  older_fit =
      let size : length h.passed ≡ length h.notes = h.size in
      let own = AllZip-long IsOlder h.passed h.older h.are_older in
      let known : reader.lines ≡ length h.notes = h.count in
      found_fit h.older _ reader.lines h.older_is (omega arith)

  pub misnamed_fit : reader.findings.misnamed.count ≤ reader.lines
  misnamed_fit =
      let size : length h.passed ≡ length h.notes = h.size in
      let own = AllZip-long IsMisnamed h.passed h.misnamed h.are_misnamed in
      let known : reader.lines ≡ length h.notes = h.count in
      found_fit h.misnamed _ reader.lines h.misnamed_is (omega arith)

-- the next line stops the reading
pub stops_at : (text left line behind : List ℕ) (reader : Reader) (why : LineStop) → FedSoFar text left reader → HasNoLineFeed line
    → left ≡ line ++ line_feed ∷ behind → Stops line why → StopsAt text (reader.lines + 1) why
stops_at text left line behind reader why h whole is so =
    stops text left h.notes (reader.lines + 1) why h.so_far (ap (λ n. n + 1) h.count)
    (inl (record { line = line; behind = behind; first = record { whole = whole; is = is }; stops = so }))

-- ---- what is told

joined : (a b c d e m : List ℕ) → a ++ (b ++ (c ++ (d ++ (e ++ m)))) ≡ a ++ b ++ c ++ d ++ e ++ m
joined a b c d e m = simp append_assoc

pub told : (name : List ℕ) (count line : ℕ) (first : Option ℕ) → first ≡ Some line
    → name ++ (codes " " ++ (decimal count ++ (codes ", first at line " ++ (decimal line ++ 10 ∷ []))))
    ≡ finding_text name (record { count = count; first = first })
told name count line first is =
    joined name (codes " ") (decimal count) (codes ", first at line ") (decimal line) (10 ∷ [])
    ∙ ap (λ f. finding_text name (record { count = count; first = f })) (sym is)
