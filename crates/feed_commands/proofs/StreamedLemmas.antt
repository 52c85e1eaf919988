-- Lemmas on a feed that is read piece by piece.
use Rattle.std.proofs.Common.{◌≡◌, ◌≢◌, ◌⊎◌, refl, sym, ap, ap₂, ◌∙◌, subst, inl, inr, ℕ, ◌+◌, ◌*◌, ◌<◌, ◌≤◌, ◌^◌, Bool, true, false, ◌||◌, ◌&&◌, not, List, [], ◌∷◌, ◌++◌, length, append_assoc, append-nil, length-append, take, arith, Option, Some, None}
use Rattle.std.specs.Prelude.{count_by, is_some, if◌then◌else◌}
use Rattle.std.specs.List.{AllByRecursion, AllZip, list_any, sum_by}
use Rattle.std.specs.Option.{option_map_or}
use Rattle.std.specs.BTreeSet.{contains_text}
use Rattle.std.specs.Io.KnownBytes.{Consumes, IsAtEnd, Keeps}
use Rattle.std.proofs.KnownBytes.{Consumes-nil, Consumes-trans, Consumes-kept}
use Rattle.std.proofs.lemmas.List.{length-take-le}
use Rattle.std.proofs.lemmas.List.Sums.{count_by-le-length, sum_by-cons}
use Rattle.std.proofs.lemmas.Slice.Zip.{AllZip-long}
use Rattle.feed_text.specs.Limits.{line_bytes}
use Rattle.feed_text.proofs.Unique.{text_determines_object}
use Rattle.feed_text.proofs.Lists.{each-append}
use Rattle.feed_note.proofs.ChangeBounds.{changes-le-bytes}
use Rattle.feed_note.proofs.Counting.{counts_more}
use Rattle.feed_note.proofs.LinesCut.{one_line, no_lines, no_rest, lines_are_the_only_cut, rest_behind}
use Rattle.feed_note.proofs.LongLines.{long_next_stays}
use Rattle.feed_note.proofs.OneMeaning.{only_one}
use Rattle.feed_note.proofs.ReadSoFar.{change_count, zip_more}
use Rattle.feed_note.proofs.LineEnds.{unbroken_both}
use Rattle.feed_note.specs.Counts.{IsRead, Stops, StopsAt, Counted, counts_of, is_keep_alive, is_note, has_token}
use Rattle.feed_note.specs.Lines.{HasNoLineFeed, lines, rest, ended}
use Rattle.feed_note.specs.Notes.{token_in}
use Rattle.feed_note.specs.Splitting.{IsLongNext, first_or}
use Rattle.feed_note.specs.Steps.{HasRoom}
use Rattle.feed_note.specs.declared.counts.Counts.{Counts}
use Rattle.feed_note.specs.declared.line.Line.{Line}
use Rattle.feed_note.specs.declared.stop.LineStop.{LineStop}
use Rattle.feed_note.specs.declared.stop.LineStop.TheVariants as stop
use Rattle.feed_commands.specs.Findings.{has_this, comes_again, is_tokenless, of_each, IsOlder, IsMisnamed, IsFound, AreFound, TellsNothing, findings_text, IsSaid, TakesSaid, ReadsOneLine}
use Rattle.feed_commands.specs.Streamed.{StopsForGood, CountsLine, AreNoted, AreTallied, HasRoomFor, HasTaken, HasRoomOn, WasTaken, IsAllTaken, StreamStops, StreamReadOn, StreamFails, ClosedStops, ClosingFails, StreamCounted}
use Rattle.feed_commands.specs.Check.{TellsCounts, IsReadable, closed, counts_text}
use Rattle.feed_commands.specs.Fault.{fault_at, fault_of_survey}
use Rattle.feed_commands.specs.declared.fault.Fault.{Fault}
use Rattle.feed_commands.proofs.CheckLemmas.{tells_counts, tells_findings}
use Rattle.feed_arguments.specs.declared.request.CheckOptions.{CheckOptions}
use Rattle.feed_note.specs.declared.counts.SurveyFault.{SurveyFault}
use Rattle.feed_commands.specs.declared.commands.findings.Reader.{Reader}
use Rattle.feed_commands.specs.declared.commands.streamed.Tally.{Tally}
use Rattle.feed_commands.specs.declared.commands.streamed.Reading.{Reading}
use Rattle.feed_commands.proofs.FindingsLemmas.{HasAll, is_again, has_more, of_each_length, found_first, found_push, found_on, found_fit, zip_push, token_more}

-- ---- lists

-- the bytes of lines, with one line before them, and with one behind them
ended_first : (l : List ℕ) (ls : List (List ℕ)) → length (ended (l ∷ ls)) ≡ length l + 1 + length (ended ls)
ended_first l ls =
    let a = length-append (l ++ 10 ∷ []) (ended ls) in
    let b = length-append l (10 ∷ []) in
    omega arith

pub ended_push : (ls : List (List ℕ)) (l behind : List ℕ) → ended (ls ++ l ∷ []) ++ behind ≡ ended ls ++ (l ++ 10 ∷ behind)
ended_push [] l behind = ap (λ t. t ++ behind) (append-nil (l ++ 10 ∷ [])) ∙ append_assoc l (10 ∷ []) behind
ended_push (k ∷ ls) l behind =
    append_assoc (k ++ 10 ∷ []) (ended (ls ++ l ∷ [])) behind
    ∙ ap (λ t. (k ++ 10 ∷ []) ++ t) (ended_push ls l behind)
    ∙ sym (append_assoc (k ++ 10 ∷ []) (ended ls) (l ++ 10 ∷ behind))

-- ---- lines are no more than their bytes, and neither are their changes

notes_few : (passed : List (List ℕ)) (notes : List Line) → AllZip IsRead passed notes → length notes ≤ length (ended passed)
notes_few [] [] h = omega arith
notes_few [] (n ∷ notes) h = absurd h
notes_few (l ∷ ls) [] h = absurd h
notes_few (l ∷ ls) (n ∷ notes) h =
    let few = notes_few ls notes h.1 in
    let size = ended_first l ls in
    omega arith

changes_few : (passed : List (List ℕ)) (notes : List Line) → AllZip IsRead passed notes → sum_by change_count notes ≤ length (ended passed)
changes_few [] [] h = omega arith
changes_few [] (n ∷ notes) h = absurd h
changes_few (l ∷ ls) [] h = absurd h
changes_few (l ∷ ls) (n ∷ notes) h =
    let few = changes_few ls notes h.1 in
    let own : change_count n ≤ length l = changes-le-bytes l n (h.0).means in
    let sum = sum_by-cons change_count n notes in
    let size = ended_first l ls in
    omega arith

-- ---- the text of which these lines are the first

pub lines_on : (passed : List (List ℕ)) (t : List ℕ) → AllByRecursion HasNoLineFeed passed → lines (ended passed ++ t) ≡ passed ++ lines t
lines_on [] t h = refl
lines_on (l ∷ ls) t h =
    ap lines (append_assoc (l ++ 10 ∷ []) (ended ls) t ∙ append_assoc l (10 ∷ []) (ended ls ++ t)) ∙ one_line l (ended ls ++ t) h.0 ∙ ap (λ u. l ∷ u) (lines_on ls t h.1)

pub rest_on : (passed : List (List ℕ)) (t : List ℕ) → AllByRecursion HasNoLineFeed passed → rest (ended passed ++ t) ≡ rest t
rest_on [] t h = refl
rest_on (l ∷ ls) t h =
    ap rest (append_assoc (l ++ 10 ∷ []) (ended ls) t ∙ append_assoc l (10 ∷ []) (ended ls ++ t)) ∙ rest_behind l (ended ls ++ t) h.0 ∙ rest_on ls t h.1

-- the next line stops the reading
pub stops_line : (passed : List (List ℕ)) (notes : List Line) (line behind : List ℕ) (number : ℕ) (why : LineStop) → AllByRecursion HasNoLineFeed passed → AllZip IsRead passed notes
    → HasNoLineFeed line → number ≡ length notes + 1 → Stops line why → StopsAt (ended passed ++ (line ++ 10 ∷ behind)) number why
stops_line passed notes line behind number why whole read part is so =
    let count = AllZip-long IsRead passed notes read in
    inl
    (record {
      good = passed;
      bad = line;
      more = lines behind;
      notes = notes;
      whole = lines_on passed (line ++ 10 ∷ behind) whole ∙ ap (λ l. passed ++ l) (one_line line behind part);
      meant = read;
      is = omega arith;
      stops = so;
    })

-- the next line, ended or not, is too long
pub stops_long : (passed : List (List ℕ)) (notes : List Line) (left : List ℕ) (number : ℕ) → AllByRecursion HasNoLineFeed passed → AllZip IsRead passed notes
    → number ≡ length notes + 1 → IsLongNext left → StopsAt (ended passed ++ left) number stop.LongLine
stops_long passed notes left number whole read is long = by (lines left) refl long
  where
    by : (ls : List (List ℕ)) → lines left ≡ ls → line_bytes < length (first_or (rest left) ls) → StopsAt (ended passed ++ left) number stop.LongLine
    by [] e h =
        let count = AllZip-long IsRead passed notes read in
        let all : lines (ended passed ++ left) ≡ passed = lines_on passed left whole ∙ ap (λ l. passed ++ l) e ∙ append-nil passed in
        inr
        (record {
          notes = notes;
          meant = subst (λ l. AllZip IsRead l notes) (sym all) read;
          long = subst (λ t. line_bytes < length t) (sym (rest_on passed left whole)) h;
          is = let same = ap length all in omega arith;
          stops = refl;
        })
    by (l ∷ ls) e h =
        let count = AllZip-long IsRead passed notes read in
        inl
        (record {
          good = passed;
          bad = l;
          more = ls;
          notes = notes;
          whole = lines_on passed left whole ∙ ap (λ k. passed ++ k) e;
          meant = read;
          is = omega arith;
          stops = h;
        })

-- ---- room

module _ (passed : List (List ℕ)) (notes : List Line) (tally : Tally) (h : AreTallied passed notes tally) where
  pub lines_are : tally.counts.lines ≡ length notes
  lines_are = ap (λ (c : Counts). c.lines) h.counts_are

  pub lines_few : tally.counts.lines ≤ length (ended passed)
  lines_few = let few = notes_few passed notes h.read in let same = lines_are in omega arith

  pub has_room : (line : List ℕ) (note : Line) → length (ended passed) + (length line + 1) < 2 ^ 64 → IsRead line note → HasRoom tally.counts note
  has_room line note few read =
      let all = notes_few passed notes h.read in
      let changes = changes_few passed notes h.read in
      let own : change_count note ≤ length line = changes-le-bytes line note read.means in
      let lines_is : tally.counts.lines ≡ length notes = ap (λ (c : Counts). c.lines) h.counts_are in
      let keepalives_is : tally.counts.keepalives ≡ count_by is_keep_alive notes = ap (λ (c : Counts). c.keepalives) h.counts_are in
      let notes_is : tally.counts.notes ≡ count_by is_note notes = ap (λ (c : Counts). c.notes) h.counts_are in
      let tokens_is : tally.counts.tokens ≡ count_by has_token notes = ap (λ (c : Counts). c.tokens) h.counts_are in
      let changes_is : tally.counts.changes ≡ sum_by change_count notes = ap (λ (c : Counts). c.changes) h.counts_are in
      let k = count_by-le-length is_keep_alive notes in
      let n = count_by-le-length is_note notes in
      let t = count_by-le-length has_token notes in
      record {
        lines = omega arith;
        keepalives = omega arith;
        notes = omega arith;
        changes = omega arith;
        tokens = omega arith;
      }

-- what was found is on no more lines than there are
module _ (passed : List (List ℕ)) (notes : List Line) (reader : Reader) (read : AllZip IsRead passed notes) (h : AreNoted passed notes reader) where
  pub noted_repeats : reader.findings.repeats.count ≤ reader.lines
  noted_repeats = found_fit _ _ reader.lines h.repeats_is (of_each_length comes_again [] notes ∙ sym h.count)

  pub noted_tokenless : reader.findings.tokenless.count ≤ reader.lines
  noted_tokenless = found_fit _ _ reader.lines h.tokenless_is (of_each_length is_tokenless [] notes ∙ sym h.count)

  pub noted_older : reader.findings.older.count ≤ reader.lines
  noted_older =
      let size = AllZip-long IsRead passed notes read in
      let own = AllZip-long IsOlder passed h.older h.are_older in
      let known : reader.lines ≡ length notes = h.count in
      found_fit h.older _ reader.lines h.older_is (omega arith)

  pub noted_misnamed : reader.findings.misnamed.count ≤ reader.lines
  noted_misnamed =
      let size = AllZip-long IsRead passed notes read in
      let own = AllZip-long IsMisnamed passed h.misnamed h.are_misnamed in
      let known : reader.lines ≡ length notes = h.count in
      found_fit h.misnamed _ reader.lines h.misnamed_is (omega arith)

  pub noted_lines : (n : ℕ) → length (ended passed) + n < 2 ^ 64 → 1 ≤ n → reader.lines + 1 < 2 ^ 64
  noted_lines n few some =
      let all = notes_few passed notes read in
      let known : reader.lines ≡ length notes = h.count in
      omega arith

-- ---- one line more

noted_more : (passed : List (List ℕ)) (notes : List Line) (line : List ℕ) (note : Line) (old new : Reader) → AllZip IsRead passed notes → AreNoted passed notes old
    → IsRead line note → ReadsOneLine line old new → AreNoted (passed ++ line ∷ []) (notes ++ note ∷ []) new
unfolding HasAll
noted_more passed notes line note old new read h is (said, s, takes) =
    let same : s.note ≡ note = (only_one text_determines_object).meaning line s.note note (s.read).means is.means in
    let token_is : said.token ≡ token_in note = s.token_is ∙ ap token_in same in
    let again = is_again (contains_text old.seen) notes said.token h.seen
    ∙ ap (λ t. option_map_or (λ u. list_any (has_this u) notes) t false) token_is in
    let number : old.lines + 1 ≡ length notes + 1 = ap (λ n. n + 1) h.count in
    let size = AllZip-long IsRead passed notes read in
    let size_older = AllZip-long IsOlder passed h.older h.are_older in
    let size_misnamed = AllZip-long IsMisnamed passed h.misnamed h.are_misnamed in
    record {
      older = h.older ++ said.is_older ∷ [];
      misnamed = h.misnamed ++ said.is_misnamed ∷ [];
      are_older = zip_push IsOlder passed h.older line said.is_older h.are_older (s.note, s.read, s.older_is);
      are_misnamed = zip_push IsMisnamed passed h.misnamed line said.is_misnamed h.are_misnamed (s.note, s.read, s.misnamed_is);
      count = takes.lines ∙ number ∙ sym (length-append notes (note ∷ []));
      seen = has_more (contains_text old.seen) (contains_text new.seen) notes note h.seen
          (λ other. takes.seen other ∙ ap (λ t. Rattle.feed_commands.specs.Findings.is_with t other (contains_text old.seen other)) token_is);
      has_token = token_more old.has_token new.has_token said.token notes note h.has_token token_is takes.has_token;
      repeats_is = found_on comes_again notes note _ (old.lines + 1) _ _ h.repeats_is takes.repeats again number;
      tokenless_is = found_on is_tokenless notes note _ (old.lines + 1) _ _ h.tokenless_is takes.tokenless
          (ap₂ (λ a b. a && not b) (s.note_is ∙ ap is_note same) (ap₂ (λ a t. a || is_some t) h.has_token token_is)) number;
      older_is = found_push h.older said.is_older (old.lines + 1) _ _ h.older_is takes.older (omega arith);
      misnamed_is = found_push h.misnamed said.is_misnamed (old.lines + 1) _ _ h.misnamed_is takes.misnamed (omega arith);
    }

pub tallied_more : (passed : List (List ℕ)) (notes : List Line) (line : List ℕ) (old new : Tally) (t : CountsLine line old new) → AreTallied passed notes old → HasNoLineFeed line
    → AreTallied (passed ++ line ∷ []) (notes ++ t.note ∷ []) new
tallied_more passed notes line old new t h part = record {
  whole = each-append HasNoLineFeed passed line h.whole part;
  read = zip_more passed notes line t.note h.read t.read;
  counts_are = counts_more notes t.note old.counts new.counts h.counts_are t.counts;
  found = λ v. noted_more passed notes line t.note old.reader new.reader h.read (h.found (sym t.verbose ∙ v)) t.read (t.found (sym t.verbose ∙ v));
}

pub nothing_noted : (reader : Reader) → reader.lines ≡ 0 → ((other : List ℕ) → contains_text reader.seen other ≡ false)
    → reader.has_token ≡ false → TellsNothing reader.findings.repeats → TellsNothing reader.findings.tokenless
    → TellsNothing reader.findings.older → TellsNothing reader.findings.misnamed → AreNoted [] [] reader
unfolding of_each
nothing_noted reader no_lines_yet none no_token repeats tokenless older misnamed = record {
  older = [];
  misnamed = [];
  are_older = tt;
  are_misnamed = tt;
  count = no_lines_yet;
  seen = none;
  has_token = no_token;
  repeats_is = found_first reader.findings.repeats repeats;
  tokenless_is = found_first reader.findings.tokenless tokenless;
  older_is = found_first reader.findings.older older;
  misnamed_is = found_first reader.findings.misnamed misnamed;
}

-- ---- the end

abbrev pub with_rest : Counts → ℕ → Counts
with_rest counts n =
    record { lines = counts.lines; keepalives = counts.keepalives; notes = counts.notes; changes = counts.changes; tokens = counts.tokens; rest = n }

module _ (verbose : Bool) (text : List ℕ) (reading : Reading) (h : HasTaken verbose text reading) where
  lines_all : lines text ≡ h.passed
  lines_all =
      ap lines h.is ∙ lines_on h.passed reading.left.items (h.tallied).whole ∙ ap (λ l. h.passed ++ l) (no_lines reading.left.items h.part) ∙ append-nil h.passed

  rest_all : rest text ≡ reading.left.items
  rest_all =
      let cut = lines_are_the_only_cut text h.passed reading.left.items (record { whole = (h.tallied).whole; part = h.part; text = h.is }) in sym cut.1

  pub counted_all : Counted text (with_rest reading.tally.counts (length reading.left.items))
  counted_all = record {
    notes = h.notes;
    read = record {
      each = subst (λ l. AllZip IsRead l h.notes) (sym lines_all) (h.tallied).read;
      unfinished = subst (λ t. length t ≤ line_bytes) (sym rest_all) h.short;
    };
    is = ap (λ c. with_rest c (length reading.left.items)) (h.tallied).counts_are ∙ ap (λ t. counts_of h.notes (length t)) (sym rest_all);
  }

  pub found_all : reading.tally.verbose ≡ true → AreFound text reading.tally.reader.findings
  found_all v =
      let n : AreNoted h.passed h.notes reading.tally.reader = (h.tallied).found v in
      record {
        notes = h.notes;
        older = n.older;
        misnamed = n.misnamed;
        read = subst (λ l. AllZip IsRead l h.notes) (sym lines_all) (h.tallied).read;
        are_older = subst (λ l. AllZip IsOlder l n.older) (sym lines_all) n.are_older;
        are_misnamed = subst (λ l. AllZip IsMisnamed l n.misnamed) (sym lines_all) n.are_misnamed;
        repeats_is = n.repeats_is;
        tokenless_is = n.tokenless_is;
        older_is = n.older_is;
        misnamed_is = n.misnamed_is;
      }

-- ---- what was taken

-- the line of this number can be counted
pub next_fits : (n : ℕ) (tally : Tally) → HasRoomFor n tally → 1 ≤ n → tally.counts.lines + 1 < 2 ^ 64
next_fits n tally h some =
    let few = lines_few h.passed h.notes tally h.tallied in
    let room : length (ended h.passed) + n < 2 ^ 64 = h.few in
    omega arith

pub next_fits_on : (n : ℕ) (reading : Reading) → HasRoomOn n reading → 1 ≤ n → reading.tally.counts.lines + 1 < 2 ^ 64
next_fits_on n reading h some =
    let few = lines_few (h.taken).passed (h.taken).notes reading.tally (h.taken).tallied in
    let room : length h.text + n < 2 ^ 64 = h.few in
    let all = ap length (h.taken).is in
    let parts = length-append (ended (h.taken).passed) reading.left.items in
    omega arith

pub taken_none : (verbose : Bool) (reading : Reading) → reading.left.items ≡ [] → reading.tally.counts ≡ counts_of [] 0 → reading.tally.verbose ≡ verbose
    → AreNoted [] [] reading.tally.reader → HasTaken verbose [] reading
taken_none verbose reading none zero is noted = record {
  passed = [];
  notes = [];
  tallied = record { whole = tt; read = tt; counts_are = zero; found = λ v. noted };
  is = sym none;
  part = subst HasNoLineFeed (sym none) refl;
  short = let size = ap length none in omega arith;
  verbose_is = is;
}

module _ (verbose : Bool) (text : List ℕ) (old : Reading) (h : HasTaken verbose text old) (end : List ℕ) (part : HasNoLineFeed end) where
  -- the line that is left gets too long
  pub stops_kept : line_bytes < length (old.left.items ++ end) → StopsForGood (text ++ end) (old.tally.counts.lines + 1) stop.LongLine
  stops_kept long = λ more.
      let left = old.left.items in
      let no_feed = unbroken_both left end h.part part in
      let next : IsLongNext (left ++ end) =
      subst (λ ls. line_bytes < length (first_or (rest (left ++ end)) ls)) (sym (no_lines (left ++ end) no_feed))
      (subst (λ t. line_bytes < length t) (sym (no_rest (left ++ end) no_feed)) long) in
      subst (λ t. StopsAt t (old.tally.counts.lines + 1) stop.LongLine)
      (sym (append_assoc (ended h.passed) (left ++ end) more) ∙ ap (λ t. t ++ more) (sym (append_assoc (ended h.passed) left end) ∙ ap (λ t. t ++ end) (sym h.is)))
      (stops_long h.passed h.notes ((left ++ end) ++ more) (old.tally.counts.lines + 1) (h.tallied).whole (h.tallied).read
      (ap (λ n. n + 1) (lines_are h.passed h.notes old.tally h.tallied)) (long_next_stays (left ++ end) more next))

  module _ (line : List ℕ) (line_is : line ≡ old.left.items ++ end) where
    text_on : (behind : List ℕ) → text ++ (end ++ 10 ∷ behind) ≡ ended h.passed ++ (line ++ 10 ∷ behind)
    text_on behind =
        ap (λ t. t ++ (end ++ 10 ∷ behind)) h.is ∙ append_assoc (ended h.passed) old.left.items (end ++ 10 ∷ behind)
        ∙ ap (λ t. ended h.passed ++ t) (sym (append_assoc old.left.items end (10 ∷ behind)) ∙ ap (λ t. t ++ 10 ∷ behind) (sym line_is))

    line_part : HasNoLineFeed line
    line_part = subst HasNoLineFeed (sym line_is) (unbroken_both old.left.items end h.part part)

    -- the line that is ended stops the reading
    pub stops_ended : (behind : List ℕ) (number : ℕ) (why : LineStop) → number ≡ old.tally.counts.lines + 1 → Stops line why
        → StopsForGood (text ++ (end ++ 10 ∷ behind)) number why
    stops_ended behind number why is so = λ more.
        subst (λ t. StopsAt t number why)
        (sym (append_assoc text (end ++ 10 ∷ behind) more ∙ ap (λ t. text ++ t) (append_assoc end (10 ∷ behind) more) ∙ text_on (behind ++ more)))
        (stops_line h.passed h.notes line (behind ++ more) number why (h.tallied).whole (h.tallied).read line_part
        (is ∙ ap (λ n. n + 1) (lines_are h.passed h.notes old.tally h.tallied)) so)

    -- it is read
    pub taken_line : (new : Reading) → new.left.items ≡ [] → CountsLine line old.tally new.tally → HasTaken verbose (text ++ (end ++ 10 ∷ [])) new
    taken_line new none t = record {
      passed = h.passed ++ line ∷ [];
      notes = h.notes ++ t.note ∷ [];
      tallied = tallied_more h.passed h.notes line old.tally new.tally t h.tallied line_part;
      is = text_on [] ∙ sym (ended_push h.passed line []) ∙ ap (λ l. ended (h.passed ++ line ∷ []) ++ l) (sym none);
      part = subst HasNoLineFeed (sym none) refl;
      short = let size = ap length none in omega arith;
      verbose_is = t.verbose ∙ h.verbose_is;
    }

-- ---- the lines of a piece

-- of a piece these were taken, and nothing is left before what is behind them
pub record LinesTaken (piece behind : List ℕ) (old new : Reading) : Type 0 where
  pub done : List ℕ
  pub cut : piece ≡ done ++ behind
  pub none : new.left.items ≡ []
  pub on : (verbose : Bool) (text : List ℕ) → HasTaken verbose text old → HasTaken verbose (text ++ done) new

pub lines_none : (piece : List ℕ) (old : Reading) → old.left.items ≡ [] → LinesTaken piece piece old old
lines_none piece old none =
    record { done = []; cut = refl; none = none; on = λ verbose text h. subst (λ t. HasTaken verbose t old) (sym (append-nil text)) h }

module _ (piece rest : List ℕ) (old now : Reading) (h : LinesTaken piece rest old now) where
  taken_bytes : length piece ≡ length h.done + length rest
  taken_bytes = ap length h.cut ∙ length-append h.done rest

  -- what is behind fits
  pub room_behind : HasRoomOn (length piece + 1) old → HasRoomOn (length rest + 1) now
  room_behind r = record {
    verbose = r.verbose;
    text = r.text ++ h.done;
    taken = h.on r.verbose r.text r.taken;
    few =
        let bytes = taken_bytes in
        let all = length-append r.text h.done in
        let few : length r.text + (length piece + 1) < 2 ^ 64 = r.few in
        omega arith;
  }

  pub room_next : (line behind : List ℕ) → rest ≡ line ++ 10 ∷ behind → HasRoomOn (length piece + 1) old → HasRoomFor (length line + 1) now.tally
  room_next line behind is r =
      let k = room_behind r in
      record {
        passed = (k.taken).passed;
        notes = (k.taken).notes;
        tallied = (k.taken).tallied;
        few =
            let few : length k.text + (length rest + 1) < 2 ^ 64 = k.few in
            let all = ap length (k.taken).is in
            let parts = length-append (ended (k.taken).passed) now.left.items in
            let size = ap length is in
            let own = length-append line (10 ∷ behind) in
            omega arith;
      }

  line_of : (line : List ℕ) → line ≡ now.left.items ++ line
  line_of line = ap (λ l. l ++ line) (sym h.none)

  pub lines_more : (line behind : List ℕ) (new : Reading) → HasNoLineFeed line → rest ≡ line ++ 10 ∷ behind → new.left.items ≡ now.left.items
      → CountsLine line now.tally new.tally → LinesTaken piece behind old new
  lines_more line behind new part is same t = record {
    done = h.done ++ (line ++ 10 ∷ []);
    cut = h.cut ∙ ap (λ l. h.done ++ l) (is ∙ sym (append_assoc line (10 ∷ []) behind)) ∙ sym (append_assoc h.done (line ++ 10 ∷ []) behind);
    none = same ∙ h.none;
    on = λ verbose text k.
        subst (λ l. HasTaken verbose l new) (append_assoc text h.done (line ++ 10 ∷ []))
        (taken_line verbose (text ++ h.done) now (h.on verbose text k) line part line (line_of line) new (same ∙ h.none) t);
  }

  pub lines_stop : (line behind : List ℕ) (number : ℕ) (why : LineStop) (verbose : Bool) (text : List ℕ) → HasNoLineFeed line → rest ≡ line ++ 10 ∷ behind → HasTaken verbose text old
      → number ≡ now.tally.counts.lines + 1 → Stops line why → StopsForGood (text ++ piece) number why
  lines_stop line behind number why verbose text part is k number_is so =
      subst (λ l. StopsForGood l number why)
      (ap (λ l. (text ++ h.done) ++ l) (sym is) ∙ append_assoc text h.done rest ∙ ap (λ l. text ++ l) (sym h.cut))
      (stops_ended verbose (text ++ h.done) now (h.on verbose text k) line part line (line_of line) behind number why number_is so)

  pub lines_behind : (verbose : Bool) (text : List ℕ) → (text ++ h.done) ++ rest ≡ text ++ piece
  lines_behind verbose text = append_assoc text h.done rest ∙ ap (λ l. text ++ l) (sym h.cut)

-- ---- a piece

module _ (piece end behind : List ℕ) (is : piece ≡ end ++ 10 ∷ behind) where
  pub text_of : (text : List ℕ) → (text ++ (end ++ 10 ∷ [])) ++ behind ≡ text ++ piece
  text_of text =
      append_assoc text (end ++ 10 ∷ []) behind ∙ ap (λ t. text ++ t) (append_assoc end (10 ∷ []) behind ∙ sym is)

  pub end_stops : (text : List ℕ) (number : ℕ) (why : LineStop) → StopsForGood (text ++ (end ++ 10 ∷ behind)) number why → StopsForGood (text ++ piece) number why
  end_stops text number why h = subst (λ t. StopsForGood (text ++ t) number why) (sym is) h

  pub room_behind_end : (old new : Reading) → HasRoomOn (length piece + 1) old
      → ((verbose : Bool) (text : List ℕ) → HasTaken verbose text old → HasTaken verbose (text ++ (end ++ 10 ∷ [])) new) → HasRoomOn (length behind + 1) new
  room_behind_end old new r on = record {
    verbose = r.verbose;
    text = r.text ++ (end ++ 10 ∷ []);
    taken = on r.verbose r.text r.taken;
    few =
        let few : length r.text + (length piece + 1) < 2 ^ 64 = r.few in
        let whole = ap length is in
        let parts = length-append end (10 ∷ behind) in
        let front = length-append end (10 ∷ []) in
        let all = length-append r.text (end ++ 10 ∷ []) in
        omega arith;
  }

-- ---- the input

-- nothing was read yet
pub input_none : (verbose : Bool) (start : Option (List ℕ)) (reading : Reading) → HasTaken verbose [] reading → WasTaken verbose 0 start start reading
input_none verbose start reading h = record { bytes = []; read = Consumes-nil start; many = omega arith; few = omega arith; taken = h }

-- a read that gave nothing more
pub input_kept : (verbose : Bool) (reads : ℕ) (a b c : Option (List ℕ)) (reading : Reading) → Keeps b c → WasTaken verbose reads a b reading → WasTaken verbose reads a c reading
input_kept verbose reads a b c reading k h =
    record { bytes = h.bytes; read = Consumes-kept a b c h.bytes h.read k; many = h.many; few = h.few; taken = h.taken }

-- a read that gave this piece
pub input_more : (verbose : Bool) (reads : ℕ) (a b c : Option (List ℕ)) (piece : List ℕ) (old new : Reading) → 0 < length piece → length piece ≤ 4096 → Consumes b c piece
    → (h : WasTaken verbose reads a b old) → HasTaken verbose (h.bytes ++ piece) new → WasTaken verbose (reads + 1) a c new
input_more verbose reads a b c piece old new some short r h taken = record {
  bytes = h.bytes ++ piece;
  read = Consumes-trans a b c h.bytes piece h.read r;
  many = let many : reads ≤ length h.bytes = h.many in let all = length-append h.bytes piece in omega arith;
  few = let few : length h.bytes ≤ 4096 * reads = h.few in let all = length-append h.bytes piece in omega arith;
  taken = taken;
}

pub short_take : (n : ℕ) (buf : List ℕ) → n ≤ length buf → length buf ≡ 4096 → length (take n buf) ≤ 4096
short_take n buf fits full = let size : length (take n buf) ≡ n = length-take-le n buf fits in omega arith

-- another piece fits
pub input_room : (verbose : Bool) (reads : ℕ) (a b : Option (List ℕ)) (reading : Reading) → reads < 1099511627776 → WasTaken verbose reads a b reading → HasRoomOn 4097 reading
input_room verbose reads a b reading few h = record {
  verbose = verbose;
  text = h.bytes;
  taken = h.taken;
  few = let bytes : length h.bytes ≤ 4096 * reads = h.few in omega arith;
}

pub room_less : (n m : ℕ) (reading : Reading) → m ≤ n → HasRoomOn n reading → HasRoomOn m reading
room_less n m reading less r =
    record { verbose = r.verbose; text = r.text; taken = r.taken; few = let few : length r.text + n < 2 ^ 64 = r.few in omega arith }

-- it stops at a line of the piece
pub input_stops : (verbose : Bool) (reads : ℕ) (a b c : Option (List ℕ)) (piece : List ℕ) (old : Reading) (why : SurveyFault) → Consumes b c piece → (h : WasTaken verbose reads a b old)
    → (why.stop ≢ stop.Memory → StopsForGood (h.bytes ++ piece) why.line why.stop) → StreamFails (fault_of_survey why) a c
input_stops verbose reads a b c piece old why r h stops = by why.stop refl
  where
    so : why.stop ≢ stop.Memory → StreamStops a c why
    so other = record { bytes = h.bytes ++ piece; read = Consumes-trans a b c h.bytes piece h.read r; stops = stops other }

    by : (s : LineStop) → why.stop ≡ s → StreamFails (fault_at s why) a c
    by stop.Memory e = tt
    by stop.LongLine e = so (λ m. absurd (cc))
    by (stop.Line f) e = so (λ m. absurd (cc))

pub input_on : (verbose : Bool) (reads : ℕ) (a b : Option (List ℕ)) (reading : Reading) → 1099511627776 ≤ reads → WasTaken verbose reads a b reading → StreamReadOn a b
input_on verbose reads a b reading all h =
    record { bytes = h.bytes; read = h.read; many = let many : reads ≤ length h.bytes = h.many in omega arith }

few_reads : (more : Bool) (reads n : ℕ) → reads < 1099511627776 → n ≤ 4096 * (if more then reads + 1 else reads) → n + 1 < 2 ^ 64
few_reads true reads n few h = omega arith
few_reads false reads n few h = omega arith

pub input_all : (verbose more : Bool) (reads : ℕ) (a b : Option (List ℕ)) (reading : Reading) → reads < 1099511627776 → IsAtEnd b
    → WasTaken verbose (if more then reads + 1 else reads) a b reading → IsAllTaken verbose a b reading
input_all verbose more reads a b reading few end h =
    record { bytes = h.bytes; read = h.read; end = end; few = few_reads more reads (length h.bytes) few h.few; taken = h.taken }

-- one line feed more fits
pub all_room : (verbose : Bool) (a b : Option (List ℕ)) (reading : Reading) → IsAllTaken verbose a b reading → HasRoomOn 1 reading
all_room verbose a b reading h = record { verbose = verbose; text = h.bytes; taken = h.taken; few = h.few }

-- what is told of the whole input
pub stream_counted : (options : CheckOptions) (a b : Option (List ℕ)) (reading : Reading) (text : List ℕ) → (h : IsAllTaken options.verbose a b reading)
    → (HasTaken true h.bytes reading → reading.tally.counts.notes ≡ 0 → IsReadable (closed h.bytes))
    → (reading.tally.verbose ≡ false → text ≡ counts_text (with_rest reading.tally.counts (length reading.left.items)))
    → (reading.tally.verbose ≡ true → text ≡ counts_text (with_rest reading.tally.counts (length reading.left.items)) ++ findings_text reading.tally.reader.findings)
    → StreamCounted options a b text
stream_counted options a b reading text h closes plain full = record {
  bytes = h.bytes;
  read = h.read;
  end = h.end;
  tells = by options.verbose refl;
}
  where
    counts : Counts
    counts = with_rest reading.tally.counts (length reading.left.items)

    all : Counted h.bytes counts
    all = counted_all options.verbose h.bytes reading h.taken

    by : (v : Bool) → options.verbose ≡ v → TellsCounts options h.bytes text
    by true e =
        tells_findings options h.bytes text counts reading.tally.reader.findings e all (closes (subst (λ v. HasTaken v h.bytes reading) e h.taken))
        (found_all options.verbose h.bytes reading h.taken ((h.taken).verbose_is ∙ e)) (full ((h.taken).verbose_is ∙ e))
    by false e = tells_counts options h.bytes text counts e all (plain ((h.taken).verbose_is ∙ e))

-- the line that is left can't be read once it has ended
pub closing_stops : (verbose : Bool) (a b : Option (List ℕ)) (reading : Reading) (why : SurveyFault) → (h : IsAllTaken verbose a b reading)
    → (why.stop ≢ stop.Memory → (verbose ≡ true) × (reading.tally.counts.notes ≡ 0) × StopsAt (closed h.bytes) why.line why.stop)
    → StreamFails (fault_of_survey why) a b ⊎ ((verbose ≡ true) × ClosingFails (fault_of_survey why) a b)
closing_stops verbose a b reading why h stops = by why.stop refl
  where
    so : (c : (verbose ≡ true) × (reading.tally.counts.notes ≡ 0) × StopsAt (closed h.bytes) why.line why.stop) → ClosedStops a b why
    so c = record {
      bytes = h.bytes;
      read = h.read;
      end = h.end;
      none = (with_rest reading.tally.counts (length reading.left.items), counted_all verbose h.bytes reading h.taken, c.1);
      stops = c.2;
    }

    by : (s : LineStop) → why.stop ≡ s → StreamFails (fault_at s why) a b ⊎ ((verbose ≡ true) × ClosingFails (fault_at s why) a b)
    by stop.Memory e = inl tt
    by stop.LongLine e = let c = stops (λ m. absurd (cc)) in inr (c.0, so c)
    by (stop.Line f) e = let c = stops (λ m. absurd (cc)) in inr (c.0, so c)

-- and so it is told
pub told_fails : (verbose : Bool) (why told : Fault) (a b : Option (List ℕ)) → (StreamFails why a b → StreamFails told a b) → (ClosingFails why a b → ClosingFails told a b)
    → StreamFails why a b ⊎ ((verbose ≡ true) × ClosingFails why a b) → StreamFails told a b ⊎ ((verbose ≡ true) × ClosingFails told a b)
told_fails verbose why told a b on closing (inl h) = inl (on h)
told_fails verbose why told a b on closing (inr (e, h)) = inr (e, closing h)

-- the end of the line that is left
pub closed_readable : (verbose : Bool) (text : List ℕ) (reading : Reading) → HasTaken verbose (text ++ 10 ∷ []) reading → IsReadable (closed text)
closed_readable verbose text reading h = (with_rest reading.tally.counts (length reading.left.items), counted_all verbose (text ++ 10 ∷ []) reading h)

pub closed_stops : (text : List ℕ) (line : ℕ) (why : LineStop) → StopsForGood (text ++ 10 ∷ []) line why → StopsAt (closed text) line why
closed_stops text line why h = subst (λ t. StopsAt t line why) (append-nil (text ++ 10 ∷ [])) (h [])
