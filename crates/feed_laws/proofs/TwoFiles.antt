-- What a mirror makes of a file that it is fed after another.
use Rattle.std.proofs.Common.{◌≡◌, ◌≢◌, ◌⊎◌, inl, inr, refl, sym, ap, ◌∙◌, subst, ℕ, zero, suc, ◌+◌, ◌-◌, ◌<◌, ◌≤◌, max, Bool, true, false, true≢false, not, ◌&&◌, ◌||◌, arith, List, [], ◌∷◌, ◌++◌, length, take, Option, Some, None, append_assoc, append-nil, nat_lt, nat_le, ltb-true, ltb-false}
use Rattle.std.specs.Prelude.{if◌then◌else◌, slice_get, is_none}
use Rattle.std.specs.List.{AllByRecursion}
use Rattle.std.specs.Option.{option_and_then}
use Rattle.std.proofs.lemmas.List.Sums.{fold-append}
use Rattle.feed_settings.specs.Limits.{Limits, History}
use Rattle.feed_settings.specs.declared.framing.Framing.TheVariants.{Close}
use Rattle.feed_changes.specs.Changes.{IsChange}
use Rattle.feed_tables.specs.Listings.{ListingHasSize, ListingHasBytes, ListingIsWithin}
use Rattle.feed_tables.specs.Tables.{listing, size}
use Rattle.feed_changes.specs.declared.change.Change.{Change}
use Rattle.feed_note.specs.declared.line.Line.{Line}
use Rattle.feed_note.specs.declared.line.Line.TheVariants.{Note}
use Rattle.feed_note.specs.Lines.{lines, rest}
use Rattle.feed_node.specs.Publishing.{Published}
use Rattle.feed_node.specs.Texts.{snapshot_text}
use Rattle.feed_node.specs.declared.commit.Commit.{Commit as Batch}
use Rattle.feed_node.specs.declared.fault.FeedFault.TheVariants.{StageFull}
use Rattle.feed_node.specs.Bounds.{is_full, is_large}
use Rattle.feed_node.specs.Mirroring.{MirrorState, StandsAt, cut_off, present_opening, first_opening}
use Rattle.feed_node.specs.Reading.{Opening, Reads, reads, shows, unskipped, batches, has_none, keep_latest, awaits_reset, is_again, AllGoodAfter, has_too_many, publishes_after}
use Rattle.feed_node.specs.Sent.{TakesText, TextsGoOn, PublishesAtEnd, BatchesPublishAtEnd, IsSendable}
use Rattle.feed_node.specs.Serving.{HeldTokensStand}
use Rattle.feed_node.specs.States.{NodeState, holds_token, place_of, published_tables, published_token, token_of}
use Rattle.feed_node.specs.Staging.{StagingState, step, steps, times_published, staging, publishing, without_changes, AllTaken}
use Rattle.feed_node.specs.Steps.{StepsRead, TakenAreGood, ReadingIsOne, standing_after}
use Rattle.feed_wire.specs.FrameLaws.{joined}
use Rattle.feed_world.specs.Connection.{Connection, Part, Snapshot, Commit, Line_feed, part_text, block_onto, blocks_within, moved_by, GoOn, sent_text}
use Rattle.feed_world.specs.Following.{PlacesStay, AllIsReached}
use Rattle.feed_world.specs.Laws.{NodesSendTheNext, PartsGoOn}
use Rattle.feed_world.specs.States.{IsAsFarAs}
use Rattle.feed_world.specs.Log.{Log, IsLog, tokens_of, state_after, all_changes}
use Rattle.feed_world.specs.Position.{Position, IsPosition, IsPlaceOfLog, node_at, node_where, renewed}
use Rattle.feed_world.proofs.Commits.{renewed_again, renewed_itself, one_more}
use Rattle.feed_world.specs.Reading.{opening_at, IsOpened, PrefixIsRead, SentIsRead, TokensTellStates}
use Rattle.feed_hub.specs.declared.record.Record.{Record}
use Rattle.feed_hub.specs.Told.{Told}
use Rattle.feed_hub.specs.Record.{IsRecorded}
use Rattle.feed_laws.specs.Laws.{AreInLog, StandInOrder, ShowsState, ScreensShowStates}
use Rattle.feed_laws.specs.Files.{ReachesOn, FollowsFile, FilesFollow, FilesFollowOn}
use Rattle.feed_laws.proofs.LawLemmas.{screens_connect, connection, its_text, is_opened}
use Rattle.feed_laws.proofs.FileLemmas.{begun, files_restore, reads_on_in_log}
use Rattle.feed_node.proofs.Bounds.{large_listing}
use Rattle.feed_text.proofs.Lists.{all-append}

-- ---- lines that are good are taken

module _ (read : StepsRead) (limits : Limits) (opening : Opening) where
  pub one_step : (earlier : List Line) (n : Line)
      → step (standing_after limits.history opening earlier) n ≡ standing_after limits.history opening (earlier ++ n ∷ [])
  one_step earlier n =
      let s = standing_after limits.history opening [] in
      ap (λ z. step z n) (sym (read limits.history opening earlier))
      ∙ sym (fold-append step s earlier (n ∷ []))
      ∙ read limits.history opening (earlier ++ n ∷ [])

  pub good_taken : (earlier : List Line) (xs : List (List ℕ)) (notes : List Line)
      → AllGoodAfter limits opening earlier xs notes → AllTaken limits (standing_after limits.history opening earlier) xs notes
  good_taken earlier [] [] g = tt
  good_taken earlier [] (n ∷ ns) g = absurd g
  good_taken earlier (x ∷ xs) [] g = absurd g
  good_taken earlier (x ∷ xs) (n ∷ ns) g =
      let stepped = one_step earlier n in (
        record {
          short = g.0.short;
          means = g.0.means;
          fits = ap (λ z. if has_too_many limits earlier n || (publishes_after limits opening earlier n && is_large limits (published_tables z.node.shown))
              then Some StageFull else None) stepped ∙ g.0.fits;
        },
        subst (λ z. AllTaken limits z xs ns) (sym stepped) (good_taken (earlier ++ n ∷ []) xs ns g.1),
      )

-- ---- a text whose lines change nothing

-- before a text that nothing is bad in, nothing is bad in both, and they show what that does
module _ (read : StepsRead) (good : TakenAreGood) (goes_on : TextsGoOn) (limits : Limits) (opening : Opening) (text : List ℕ)
    (p : PublishesAtEnd limits (standing_after limits.history opening []) text (standing_after limits.history opening []) 0) where
  pub same_standing : (notes : List Line) → standing_after limits.history opening (p.notes ++ notes) ≡ standing_after limits.history opening notes
  same_standing notes =
      let s = standing_after limits.history opening [] in
      sym (read limits.history opening (p.notes ++ notes))
      ∙ fold-append step s p.notes notes ∙ ap (λ z. steps z notes) p.leads_to ∙ read limits.history opening notes

  pub same_shown : (notes : List Line) → keep_latest limits.history (reads limits.history opening (p.notes ++ notes))
      ≡ keep_latest limits.history (reads limits.history opening notes)
  same_shown notes = ap (λ z. z.node.shown) (same_standing notes)

  pub both_read : (behind : List ℕ) (notes : List Line) → Reads limits opening behind notes → Reads limits opening (text ++ behind) (p.notes ++ notes)
  both_read behind notes r =
      let s = standing_after limits.history opening [] in
      let taken : TakesText limits s behind notes = record { taken = good_taken read limits opening [] (lines behind) notes r.good; short = r.short } in
      let all = goes_on limits s text behind p.notes notes p.ended p.takes (subst (λ z. TakesText limits z behind notes) (sym p.leads_to) taken) in
      record { good = good limits opening (lines (text ++ behind)) (p.notes ++ notes) all.taken; short = all.short }

  -- of a prefix of it alone
  pub part_read : (prefix behind : List ℕ) → prefix ++ behind ≡ text → behind ≢ []
      → (notes : List Line) × Reads limits opening prefix notes
      × (keep_latest limits.history (reads limits.history opening notes) ≡ keep_latest limits.history (reads limits.history opening []))
  part_read prefix behind whole some =
      let f = p.before prefix behind whole some in (
        f.0,
        record { good = good limits opening (lines prefix) f.0 f.1.taken; short = f.1.short },
        ap (λ z. z.node.shown) (sym (read limits.history opening f.0)) ∙ ap (λ n. n.shown) f.2.node,
      )

-- ---- the snapshot of a token that is held

got : (log : Log) (low many i : ℕ) (token : List ℕ) → slice_get (tokens_of log low many) i ≡ Some token
    → (j : ℕ) × (low ≤ j) × (j < low + many) × (token ≡ log.token j)
got log low zero i token e = absurd (cc)
got log low (suc many) zero token e = (low, omega arith, omega arith, cc)
got log low (suc many) (suc i) token e =
    let r = got log (low + 1) many i token e in
    let from : low + 1 ≤ r.0 = r.1 in
    let to : r.0 < low + 1 + many = r.2 in
    (r.0, omega (arith, from), omega (arith, to), r.3)

placed : (o : Option ℕ) (held : List (List ℕ)) (token : List ℕ) → option_and_then (λ place. slice_get held (place - 0)) o ≡ Some token
    → (i : ℕ) × (slice_get held i ≡ Some token)
placed None held token e = absurd (cc)
placed (Some i) held token e = (i - 0, e)

-- a token that is held is one of those from the oldest to the node's own
pub held_is_in : HeldTokensStand → (log : Log) (own : Position) (token : List ℕ) → own.low ≤ own.at → holds_token (node_at log own) token ≡ true
    → (j : ℕ) × (own.low ≤ j) × (j ≤ own.at) × (token ≡ log.token j)
held_is_in stand log own token order holds =
    let found = placed (place_of (node_at log own) token) (tokens_of log own.low (suc (own.at - own.low))) token (stand (node_at log own) token holds) in
    let r = got log own.low (suc (own.at - own.low)) found.0 token found.1 in
    let to : r.0 < own.low + suc (own.at - own.low) = r.2 in
    (r.0, r.1, omega (arith, to, order), r.3)

-- such a batch is dropped, and nothing is published
module _ (batches : BatchesPublishAtEnd) (sized : ListingHasSize) (weighs : ListingHasBytes) (limits : Limits) (s : StagingState) (p : Published)
    (few : 1 ≤ limits.staged) (small : is_large limits p.tables ≡ false) (fits : is_large limits (published_tables s.node.shown) ≡ false)
    (sendable : IsSendable p) (nothing : s.changes ≡ []) (goes_on : s.afresh ≡ false) (holds : holds_token s.node.shown p.token ≡ true) where
  abbrev its_changes : List Change
  its_changes = listing p.tables

  again : is_again s.node.shown s.afresh (Some p.token) ≡ true
  again = ap (λ b. not b && holds_token s.node.shown p.token) goes_on ∙ holds

  stays : step s (Note its_changes (Some p.token)) ≡ s
  stays =
      ap (λ b. if b then without_changes (staging s its_changes) else publishing (staging s its_changes) p.token) again
      ∙ ap (λ cs. record { node = s.node; afresh = s.afresh; changes = cs }) (sym nothing)

  none : times_published s (Note its_changes (Some p.token) ∷ []) ≡ 0
  none = ap (λ b. (if not b then 1 else 0) + 0) again

  long : length its_changes ≡ max 1 (size p.tables)
  long = sized p.tables

  pub is_dropped : PublishesAtEnd limits s (snapshot_text p.tables p.token) s 0
  is_dropped =
      let r = batches limits s its_changes p.token (record {
        some = λ e. let zero_long : length its_changes ≡ 0 = ap length e in omega (arith, long, zero_long);
        within = sendable.within;
        name = sendable.token;
        few = subst (λ cs. is_full limits (cs ++ its_changes) ≡ false) (sym nothing) (large_listing sized weighs limits p.tables few small);
        small = subst (λ z. is_large limits (published_tables z.node.shown) ≡ false) (sym stays) fits;
      }) in
      record {
        notes = r.notes;
        takes = r.takes;
        ended = r.ended;
        leads_to = r.leads_to ∙ stays;
        counted = r.counted ∙ none;
        before = r.before;
      }

-- ---- a file after another

pub cut : (first prefix more behind : List ℕ) → prefix ++ behind ≡ first ++ more
    → ((m : List ℕ) × (prefix ≡ first ++ m) × (m ++ behind ≡ more)) ⊎ ((m : List ℕ) × (prefix ++ m ≡ first) × (m ≢ []))
cut [] prefix more behind e = inl (prefix, refl, e)
cut (x ∷ first) [] more behind e = inr (x ∷ first, refl, λ n. let no : x ∷ first ≡ [] = n in absurd (cc))
cut (x ∷ first) (y ∷ prefix) more behind e =
    let head : y ≡ x = cc in
    let tails : prefix ++ behind ≡ first ++ more = cc in
    further head (cut first prefix more behind tails)
  where
    further : y ≡ x → ((m : List ℕ) × (prefix ≡ first ++ m) × (m ++ behind ≡ more)) ⊎ ((m : List ℕ) × (prefix ++ m ≡ first) × (m ≢ []))
        → ((m : List ℕ) × (y ∷ prefix ≡ x ∷ first ++ m) × (m ++ behind ≡ more)) ⊎ ((m : List ℕ) × (y ∷ prefix ++ m ≡ x ∷ first) × (m ≢ []))
    further head (inl (m, is, ends)) = inl (m, (λ i. head i ∷ is i), ends)
    further head (inr (m, is, some)) = inr (m, (λ i. head i ∷ is i), some)

no_notes : (limits : Limits) (opening : Opening) (notes : List Line) → Reads limits opening [] notes → notes ≡ []
unfolding lines rest
no_notes limits opening [] r = refl
no_notes limits opening (n ∷ ns) r = absurd r.good

module _ (read : SentIsRead) (limits : Limits) (log : Log) (own : Position) (is_log : IsLog limits log) (is_position : IsPosition limits log own) where
  -- a node at a position keeps no more than its history
  pub is_latest : keep_latest limits.history (node_at log own) ≡ node_at log own
  is_latest =
      let order = is_position.order in
      let c : Connection = record { framing = Close; fresh = false; start = own.at; parts = []; delivered = 0; last = own.at; over = false } in
      let r = read limits log (Some own) c [] [] is_log (record {
        mirror = is_position;
        start = λ e. (own, refl, order, omega arith);
        order = record { more = []; parts = refl; go_on = refl };
        sent = is_position.in_log;
      }) refl in
      ap (λ ns. keep_latest limits.history (reads limits.history (opening_at log (Some own) false) ns))
      (sym (no_notes limits (opening_at log (Some own) false) r.notes r.nothing_bad)) ∙ r.shows

-- ---- what a record begins with

module _ (limits : Limits) (log : Log) (is_log : IsLog limits log) where
  all_within : (k : ℕ) → k ≤ length log.commits → AllByRecursion IsChange (log.first ++ all_changes (take k log.commits))
  all_within zero within = subst (AllByRecursion IsChange) (sym (append-nil log.first)) is_log.first
  all_within (suc k) within =
      subst (AllByRecursion IsChange) (sym (one_more log k (omega arith)))
      (all-append IsChange _ _ (all_within k (omega arith)) (is_log.accepted (suc k) (omega arith) within).changes)

  pub is_small : (k : ℕ) → k ≤ length log.commits → is_large limits (state_after log k) ≡ false
  is_small zero within = is_log.small
  is_small (suc k) within = (is_log.accepted (suc k) (omega arith) within).small

  pub is_sendable : ListingIsWithin → (k : ℕ) → k ≤ length log.commits → IsSendable (record { tables = state_after log k; token = log.token k })
  is_sendable listed k within =
      record {
        token = is_log.named.names k within;
        within = listed (log.first ++ all_changes (take k log.commits)) (all_within k within);
      }

-- ---- which tokens are held then

-- each commit that is new drops the tokens that are older than the history, and no others
keeps_low : (history : History) (log : Log) (own p : Position) (k last : ℕ) (parts : List Part) (n : ℕ) → own.low ≤ p.at → k ≤ p.at → GoOn k parts last
    → p.low ≡ (renewed history log p.at own.low).low
    → (q : Position) × (moved_by history log (Some p) (blocks_within log parts n) ≡ Some q) × (q.low ≡ (renewed history log q.at own.low).low)
keeps_low history log own p k last [] n above to g e = (p, refl, e)
keeps_low history log own p k last (Snapshot m ∷ parts) n above to g e = absurd g
keeps_low history log own p k last (Line_feed ∷ parts) n above to g e = by (nat_le (length (part_text log Line_feed)) n) refl (keeps_low history log own p k last parts (n - length (part_text log Line_feed)) above to g e)
  where
    by : (b : Bool) → nat_le (length (part_text log Line_feed)) n ≡ b
        → (q : Position) × (moved_by history log (Some p) (blocks_within log parts (n - length (part_text log Line_feed))) ≡ Some q) × (q.low ≡ (renewed history log q.at own.low).low)
        → (q : Position) × (moved_by history log (Some p) (blocks_within log (Line_feed ∷ parts) n) ≡ Some q) × (q.low ≡ (renewed history log q.at own.low).low)
    by true is r = (r.0, ap (λ b. moved_by history log (Some p) (if b then block_onto Line_feed (blocks_within log parts (n - length (part_text log Line_feed))) else [])) is ∙ r.1, r.2)
    by false is r = (p, ap (λ b. moved_by history log (Some p) (if b then block_onto Line_feed (blocks_within log parts (n - length (part_text log Line_feed))) else [])) is, e)
keeps_low history log own p k last (Commit m ∷ parts) n above to g e =
    by (nat_le (length (part_text log (Commit m))) n) refl
    (keeps_low history log own next (k + 1) last parts (n - length (part_text log (Commit m))) (reach (nat_lt p.at m) refl).0 (reach (nat_lt p.at m) refl).1 g.1 (low (nat_lt p.at m) refl))
  where
    next : Position
    next = if nat_lt p.at m then renewed history log m p.low else p

    reach : (b : Bool) → nat_lt p.at m ≡ b → (own.low ≤ next.at) × (k + 1 ≤ next.at)
    reach true is =
        let less = ltb-true p.at m is in
        let number = g.0 in
        let at : next.at ≡ m = ap (λ b. (if b then renewed history log m p.low else p).at) is in
        (omega (arith, above, less, at), omega (arith, number, at))
    reach false is =
        let less = ltb-false p.at m is in
        let number = g.0 in
        let at : next.at ≡ p.at = ap (λ b. (if b then renewed history log m p.low else p).at) is in
        (omega (arith, above, at), omega (arith, number, less, at))

    low : (b : Bool) → nat_lt p.at m ≡ b → next.low ≡ (renewed history log next.at own.low).low
    low true is =
        let less = ltb-true p.at m is in
        let number = g.0 in
        let one : suc p.at ≡ m = omega (arith, less, to, number) in
        ap (λ b. (if b then renewed history log m p.low else p).low) is
        ∙ ap (λ l. (renewed history log m l).low) e
        ∙ subst (λ j. (renewed history log j (renewed history log p.at own.low).low).low ≡ (renewed history log j own.low).low) one (renewed_again history log own.low p.at above)
        ∙ ap (λ b. (renewed history log (if b then renewed history log m p.low else p).at own.low).low) (sym is)
    low false is =
        ap (λ b. (if b then renewed history log m p.low else p).low) is ∙ e
        ∙ ap (λ b. (renewed history log (if b then renewed history log m p.low else p).at own.low).low) (sym is)

    by : (b : Bool) → nat_le (length (part_text log (Commit m))) n ≡ b
        → (q : Position) × (moved_by history log (Some next) (blocks_within log parts (n - length (part_text log (Commit m)))) ≡ Some q) × (q.low ≡ (renewed history log q.at own.low).low)
        → (q : Position) × (moved_by history log (Some p) (blocks_within log (Commit m ∷ parts) n) ≡ Some q) × (q.low ≡ (renewed history log q.at own.low).low)
    by true is r = (r.0, ap (λ b. moved_by history log (Some p) (if b then block_onto (Commit m) (blocks_within log parts (n - length (part_text log (Commit m)))) else [])) is ∙ r.1, r.2)
    by false is r = (p, ap (λ b. moved_by history log (Some p) (if b then block_onto (Commit m) (blocks_within log parts (n - length (part_text log (Commit m)))) else [])) is, e)

-- ---- the law

-- what the proofs stand on
pub record Given : Type 0 where
  pub read : StepsRead
  pub good : TakenAreGood
  pub goes_on : TextsGoOn
  pub batches : BatchesPublishAtEnd
  pub sized : ListingHasSize
  pub weighs : ListingHasBytes
  pub listed : ListingIsWithin
  pub stand : HeldTokensStand
  pub prefixes : SentIsRead
  pub tokens : TokensTellStates
  pub shows : ScreensShowStates
  pub one : ReadingIsOne
  pub sends : NodesSendTheNext
  pub order : PartsGoOn
  pub stays : PlacesStay
  pub reached : AllIsReached

module _ (g : Given) (limits : Limits) (log : Log) (nodes : List NodeState) (own : Position) (written : List ℕ) (r : Record)
    (is_log : IsLog limits log) (in_log : AreInLog log nodes) (is_position : IsPosition limits log own) (recorded : IsRecorded nodes written r)
    (holds : holds_token (node_at log own) recorded.snapshot.token ≡ true) where
  abbrev opening : Opening
  opening = opening_at log (Some own) false

  abbrev before : StagingState
  before = standing_after limits.history opening []

  abbrev p : Published
  p = recorded.snapshot

  abbrev text : List ℕ
  text = snapshot_text p.tables p.token

  -- the snapshot is that of a state of the log, and the mirror holds its token
  begins : (k : ℕ) × (k ≤ length log.commits) × (p ≡ record { tables = state_after log k; token = log.token k })
  begins = begun limits log nodes written r is_log in_log recorded

  within : (own.low ≤ begins.0) × (begins.0 ≤ own.at)
  within =
      let found = held_is_in g.stand log own p.token is_position.order holds in
      let small = is_position.in_log in
      let low : own.low ≤ found.0 = found.1 in
      let high : found.0 ≤ own.at = found.2 in
      let same : log.token begins.0 ≡ log.token found.0 = sym (ap (λ x. x.token) begins.2) ∙ found.3 in
      let equal : begins.0 ≡ found.0 = (g.tokens log begins.0 found.0 is_log.named begins.1 (omega (arith, high, small)) same).0 in
      (omega (arith, low, equal), omega (arith, high, equal))

  shown_latest : before.node.shown ≡ node_at log own
  shown_latest = is_latest g.prefixes limits log own is_log is_position

  dropped : PublishesAtEnd limits before text before 0
  dropped =
      is_dropped g.batches g.sized g.weighs limits before p is_log.range.staged_from
      (subst (λ x. is_large limits x.tables ≡ false) (sym begins.2) (is_small limits log is_log begins.0 begins.1))
      (subst (λ n. is_large limits (published_tables n) ≡ false) (sym shown_latest) (is_small limits log is_log own.at is_position.in_log))
      (subst IsSendable (sym begins.2) (is_sendable limits log is_log g.listed begins.0 begins.1))
      refl refl (subst (λ n. holds_token n p.token ≡ true) (sym shown_latest) holds)

  -- what comes after it is what a session is sent that starts at its token
  rest_shows : (prefix behind : List ℕ) → prefix ++ behind ≡ joined recorded.texts → ShowsState limits log (Some own) false prefix
  rest_shows prefix behind e =
      g.shows limits log nodes begins.0 recorded.texts r.token (Some own) false prefix behind is_log in_log begins.1
      (subst (λ x. Told nodes x.token recorded.texts r.token) begins.2 recorded.told) is_position
      (λ _. (own, refl, within.0, within.1)) e

  pub goes_on_in_log : (prefix behind : List ℕ) → prefix ++ behind ≡ written → ShowsState limits log (Some own) false prefix
  goes_on_in_log prefix behind whole =
      by (cut text prefix (joined recorded.texts) (behind ++ r.own)
      (sym (append_assoc prefix behind r.own) ∙ ap (λ w. w ++ r.own) whole ∙ recorded.all))
    where
      by : ((m : List ℕ) × (prefix ≡ text ++ m) × (m ++ (behind ++ r.own) ≡ joined recorded.texts)) ⊎ ((m : List ℕ) × (prefix ++ m ≡ text) × (m ≢ []))
          → ShowsState limits log (Some own) false prefix
      by (inl (m, is, ends)) =
          let s = rest_shows m (behind ++ r.own) ends in
          record {
            notes = dropped.notes ++ s.notes;
            nothing_bad = subst (λ b. Reads limits opening b (dropped.notes ++ s.notes)) (sym is)
                (both_read g.read g.good g.goes_on limits opening text dropped m s.notes s.nothing_bad);
            at = s.at;
            is_place = s.is_place;
            shows = same_shown g.read g.good g.goes_on limits opening text dropped s.notes ∙ s.shows;
          }
      by (inr (m, is, some)) =
          let f = part_read g.read g.good g.goes_on limits opening text dropped prefix m is some in
          record {
            notes = f.0;
            nothing_bad = f.1;
            at = Some own;
            is_place = is_position;
            shows = f.2 ∙ shown_latest;
          }

  -- all of it brings the mirror on
  pub reaches_on : r.own ≡ [] → ReachesOn limits log own r.token written
  reaches_on nothing =
      record {
        reaches = record {
          notes = dropped.notes ++ found.notes;
          nothing_bad = subst (λ b. Reads limits opening b (dropped.notes ++ found.notes)) (sym whole)
              (both_read g.read g.good g.goes_on limits opening text dropped (joined recorded.texts) found.notes found.nothing_bad);
          at = moved_by limits.history log (Some own) (blocks_within log c.parts (length (joined recorded.texts)));
          is_place = (g.stays limits log (Some own) c (length (joined recorded.texts)) opened).0;
          shows = same_shown g.read g.good g.goes_on limits opening text dropped found.notes ∙ found.shows;
          last = order.last;
          token_is = order.token_is;
          reaches = subst (λ n. IsAsFarAs (moved_by limits.history log (Some own) (blocks_within log c.parts n)) order.last) (ap length sent) (g.reached limits log (Some own) c opened);
        };
        place = low.0;
        at = low.1;
        holds = low.2;
      }
    where
      whole : written ≡ text ++ joined recorded.texts
      whole = sym (append-nil written) ∙ ap (λ o. written ++ o) (sym nothing) ∙ recorded.all

      told : Told nodes (log.token begins.0) recorded.texts r.token
      told = subst (λ x. Told nodes x.token recorded.texts r.token) begins.2 recorded.told

      order : StandInOrder log begins.0 recorded.texts r.token
      order = screens_connect g.sends g.order log nodes begins.0 recorded.texts r.token is_log.named in_log begins.1 told

      c : Connection
      c = connection log begins.0 recorded.texts r.token false order

      opened : IsOpened limits log (Some own) c
      opened = is_opened limits log begins.0 recorded.texts r.token (Some own) false order is_position (λ _. (own, refl, within.0, within.1))

      sent : sent_text log c ≡ joined recorded.texts
      sent = its_text limits log begins.0 recorded.texts r.token (Some own) false order is_position (λ _. (own, refl, within.0, within.1))

      found : PrefixIsRead limits log (Some own) c (joined recorded.texts)
      found = g.prefixes limits log (Some own) c (joined recorded.texts) [] is_log opened (append-nil (joined recorded.texts) ∙ sym sent)

      low : (q : Position) × (moved_by limits.history log (Some own) (blocks_within log c.parts (length (joined recorded.texts))) ≡ Some q)
          × (q.low ≡ (renewed limits.history log q.at own.low).low)
      low =
          keeps_low limits.history log own own begins.0 order.last order.parts (length (joined recorded.texts)) is_position.order within.1 order.go_on
          (renewed_itself limits log own is_position)

-- ---- one after the other

no_batches : (found : List Batch) → has_none found ≡ true → found ≡ []
no_batches [] e = refl
no_batches (b ∷ bs) e = absurd (true≢false (sym e))

is_some_published : (p : Published) → Some p ≡ None → ⊥
is_some_published p e = cc

module _ (limits : Limits) (log : Log) (own : Position) (notes : List Line) (mirror : MirrorState) (bytes : List ℕ)
    (bounds : mirror.limits ≡ limits) (stands : StandsAt first_opening bytes notes mirror) (same : mirror.node ≡ node_at log own) where
  abbrev shown : NodeState
  shown = reads mirror.limits.history first_opening notes

  there : Some (record { tables = state_after log own.at; token = log.token own.at }) ≡ shown.published
  there = sym (ap (λ n. n.published) same) ∙ ap (λ m. m.node.published) stands.state

  -- it has published, so it asks with a token
  asks : is_none mirror.since ≡ false
  asks = by (awaits_reset first_opening notes) refl
    where
      by : (b : Bool) → awaits_reset first_opening notes ≡ b → is_none mirror.since ≡ false
      by true e =
          let empty : batches notes ≡ [] = no_batches (batches notes) e in
          let nothing : shown.published ≡ None = ap (λ bs. (shows first_opening (unskipped mirror.limits.history first_opening bs)).published) empty in
          absurd (is_some_published (record { tables = state_after log own.at; token = log.token own.at }) (there ∙ nothing))
      by false e =
          ap (λ m. is_none m.since) stands.state
          ∙ ap (λ b. is_none (if b then None else published_token shown)) e
          ∙ ap (λ o. is_none (token_of o)) (sym there)

  pub begins_again : present_opening (cut_off mirror) ≡ opening_at log (Some own) false
  begins_again = λ i. record { before = same i; fresh = asks i }

pub files_follow : Given → FilesFollow
files_follow g limits log nodes written prefix behind former further part rest later notes mirror is_log in_log first whole second all bounds stands holds =
    let restores = files_restore g.one g.shows limits log nodes written prefix behind former is_log in_log first whole in
    let found = restores.fed notes mirror bounds stands in
    by found.0 found.1 found.2
  where
    by : (place : Option Position) → IsPlaceOfLog limits log place → mirror.node ≡ node_where log place → FollowsFile limits log mirror part
    by None is_place same =
        let no : holds_token (node_where log None) second.snapshot.token ≡ true = subst (λ n. holds_token n second.snapshot.token ≡ true) same holds in
        absurd (true≢false (sym no))
    by (Some own) is_place same =
        let held = subst (λ n. holds_token n second.snapshot.token ≡ true) same holds in
        record {
          own = own;
          is_position = is_place;
          shows = same;
          begins = begins_again limits log own notes mirror prefix bounds stands same;
          reads_on = reads_on_in_log g.one limits log own part
              (λ before later' e. goes_on_in_log g limits log nodes own further later is_log in_log is_place second held before (later' ++ rest)
              (sym (append_assoc before later' rest) ∙ ap (λ f. f ++ rest) e ∙ all));
        }

pub files_follow_on : Given → FilesFollowOn
files_follow_on g limits log nodes own further later is_log in_log is_position recorded holds nothing =
    reaches_on g limits log nodes own further later is_log in_log is_position recorded holds nothing
