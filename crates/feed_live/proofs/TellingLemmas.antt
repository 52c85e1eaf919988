-- A text that tells a log is honest, in whatever words and with whatever tokens.
use Rattle.std.proofs.Common.{◌≡◌, ◌⊎◌, inl, inr, refl, sym, ap, ◌∙◌, subst, ℕ, Bool, true, false, List, [], ◌∷◌, ◌++◌, append_assoc, append-nil, Option, Some, None, is_none, is_some}
use Rattle.std.specs.Prelude.{if◌then◌else◌}
use Rattle.feed_settings.specs.Limits.{Limits}
use Rattle.feed_note.specs.declared.line.Line.{Line}
use Rattle.feed_note.specs.declared.line.Line.TheVariants.{KeepAlive, Note}
use Rattle.feed_note.specs.Lines.{lines, is_line_feed, onto_first}
use Rattle.feed_note.specs.Meaning.{OnlyOne}
use Rattle.feed_node.specs.declared.fault.FeedFault.{FeedFault}
use Rattle.feed_node.specs.declared.fault.FeedFault.TheVariants.{NotOpen, LongLine, Line as BadLine, StageFull, Memory}
use Rattle.feed_node.specs.Mirroring.{MirrorState, cut_off, StandsAt, HasStopped, HasLost, Faulted}
use Rattle.feed_node.specs.Reading.{Opening, AllGood, AllGoodAfter, FaultsAt, at_line, at_rest, reads, keep_latest}
use Rattle.feed_follow.specs.Carrying.{HasPayload, FeedsCarryText}
use Rattle.feed_follow.specs.declared.fault.FollowFault.{FollowFault}
use Rattle.feed_follow.specs.declared.fault.FollowFault.TheVariants.{Closed, LongHead, BadHead, Status, BadCoding, BadLength, BadChunk, Feed, Memory as FollowMemory}
use Rattle.feed_follow.specs.Following.{HasReached, IsCutAfter, IsCutAtFault, Leaves, Brings, HasBadLine, HasLostSome, Fails}
use Rattle.feed_follow.specs.Standing.{Standing, in_head, token_refused, in_body, done, failed, Stands}
use Rattle.feed_world.specs.Log.{Log, IsNamed}
use Rattle.feed_world.specs.Position.{Position, IsPlaceOfLog}
use Rattle.feed_world.specs.Reading.{opening_at}
use Rattle.feed_world.specs.Telling.{Tells, TellsShow, told_to}
use Rattle.feed_laws.specs.Laws.{IsInLog}
use Rattle.feed_device.specs.Links.{Exchange}
use Rattle.feed_live.specs.Upstream.{AsksInLog}
use Rattle.feed_live.proofs.StateLemmas.{honest_however}
use Rattle.feed_live.specs.Telling.{AreMeant, TextTells, MeaningTells, MayBegin, ToldIsHonest, CarriesTheLog, TellingIsHonest, FeedIsHonest}

-- ---- the lines of a prefix

onto_more : (b : ℕ) (c : Bool) (ls ms more : List (List ℕ)) → ls ++ more ≡ ms
    → (m : List (List ℕ)) × ((if c then [] ∷ ls else onto_first b ls) ++ m ≡ (if c then [] ∷ ms else onto_first b ms))
onto_more b true ls ms more e = (more, ap (λ l. [] ∷ l) e)
onto_more b false [] ms more e = (onto_first b ms, refl)
onto_more b false (l ∷ ls) ms more e = (more, ap (onto_first b) e)

pub lines_begin : (x y : List ℕ) → (more : List (List ℕ)) × (lines x ++ more ≡ lines (x ++ y))
unfolding lines
lines_begin [] y = (lines y, refl)
lines_begin (b ∷ x) y = let later = lines_begin x y in onto_more b (is_line_feed b) (lines x) (lines (x ++ y)) later.0 later.1

-- good lines have a meaning
meant : (limits : Limits) (opening : Opening) (earlier : List Line) (xs : List (List ℕ)) (notes : List Line) → AllGoodAfter limits opening earlier xs notes → AreMeant xs notes
meant limits opening earlier [] [] h = tt
meant limits opening earlier (x ∷ xs) (n ∷ notes) h = (h.0.means, meant limits opening (earlier ++ n ∷ []) xs notes h.1)
meant limits opening earlier [] (n ∷ notes) h = absurd h
meant limits opening earlier (x ∷ xs) [] h = absurd h

-- ---- lines that have one meaning

told_before : OnlyOne → (log : Log) (xs later : List (List ℕ)) (ns notes : List Line) (fresh : Bool) (k : ℕ) → (waiting : _) → AreMeant (xs ++ later) notes → AreMeant xs ns
    → Tells log fresh k waiting notes → Tells log fresh k waiting ns
told_before one log [] later [] notes fresh k waiting a b t = tt
told_before one log [] later (n ∷ ns) notes fresh k waiting a b t = absurd b
told_before one log (x ∷ xs) later [] notes fresh k waiting a b t = absurd b
told_before one log (x ∷ xs) later (n ∷ ns) [] fresh k waiting a b t = absurd a
told_before one log (x ∷ xs) later (n ∷ ns) (m ∷ notes) fresh k waiting a b t =
    by (λ f j w. told_before one log xs later ns notes f j w a.1 b.1) n (subst (λ z. Tells log fresh k waiting (z ∷ notes)) (one.meaning x m n a.0 b.0) t)
  where
    by : ((f : Bool) (j : ℕ) (w : _) → Tells log f j w notes → Tells log f j w ns) → (z : Line) → Tells log fresh k waiting (z ∷ notes) → Tells log fresh k waiting (z ∷ ns)
    by go KeepAlive s = go fresh k waiting s
    by go (Note changes None) s = go fresh k (waiting ++ changes) s
    by go (Note changes (Some token)) s = (s.0, go false (told_to fresh k) [] s.1)

pub meaning_tells : OnlyOne → MeaningTells
meaning_tells one log fresh k text notes are tells xs later ns whole meant =
    told_before one log xs later ns notes fresh k [] (subst (λ ls. AreMeant ls notes) (sym whole) are) meant tells

-- ---- what a mirror makes of it

module _ (show : TellsShow) (limits : Limits) (log : Log) (named : IsNamed log) (place : Option Position) (fresh : Bool) (k : ℕ)
    (is_place : IsPlaceOfLog limits log place) (begins : MayBegin place fresh k) (text : List ℕ) (tells : TextTells log fresh k text) where
  abbrev opening : Opening
  opening = opening_at log place fresh

  reads_told : (bounds : Limits) → bounds ≡ limits → (payload later : List ℕ) → payload ++ later ≡ text → (xs ys : List (List ℕ)) (notes : List Line) → xs ++ ys ≡ lines payload
      → AllGood bounds opening xs notes → IsInLog limits log (keep_latest bounds.history (reads bounds.history opening notes))
  reads_told bounds same payload later whole xs ys notes cut good =
      let b = lines_begin payload later in
      let ends : xs ++ (ys ++ b.0) ≡ lines text = sym (append_assoc xs ys b.0) ∙ ap (λ l. l ++ b.0) cut ∙ b.1 ∙ ap lines whole in
      let s = show limits log place fresh k notes named is_place begins (tells xs (ys ++ b.0) notes ends (meant bounds opening [] xs notes good)) in
      subst (λ h. IsInLog limits log (keep_latest h (reads h opening notes))) (sym (ap (λ l. l.history) same)) (s.0, s.1, s.2)

  faults_told : (bounds : Limits) → bounds ≡ limits → (payload later : List ℕ) → payload ++ later ≡ text → (notes : List Line) (fault : FeedFault)
      → FaultsAt bounds opening payload notes fault → IsInLog limits log (keep_latest bounds.history (reads bounds.history opening notes))
  faults_told bounds same payload later whole notes fault (at_line xs x after cut good bad) = reads_told bounds same payload later whole xs (x ∷ after) notes (sym cut) good
  faults_told bounds same payload later whole notes fault (at_rest good long) = reads_told bounds same payload later whole (lines payload) [] notes (append-nil (lines payload)) good

  stands_told : (mirror : MirrorState) → mirror.limits ≡ limits → (payload later : List ℕ) → payload ++ later ≡ text → (notes : List Line) → StandsAt opening payload notes mirror → IsInLog limits log mirror.node
  stands_told mirror same payload later whole notes stands =
      subst (λ n. IsInLog limits log n) (sym (ap (λ m. m.node) stands.state))
      (reads_told mirror.limits same payload later whole (lines payload) [] notes (append-nil (lines payload)) stands.nothing_bad.good)

  stopped_told : (old new : MirrorState) (fault : FeedFault) (payload later : List ℕ) → payload ++ later ≡ text → old.limits ≡ limits → (notes : List Line)
      → HasStopped opening payload notes fault old new → IsInLog limits log new.node
  stopped_told old new fault payload later whole same notes stopped =
      subst (λ n. IsInLog limits log n) (sym (ap (λ m. m.node) stopped.state)) (faults_told old.limits same payload later whole notes fault stopped.first)

  lost_told : (old new : MirrorState) (before piece behind : List ℕ) → (before ++ piece) ++ behind ≡ text → old.limits ≡ limits → HasLost opening before piece old new → IsInLog limits log new.node
  lost_told old new before piece behind whole same lost =
      let ends : (before ++ lost.counted) ++ (lost.uncounted ++ behind) ≡ text =
      sym (append_assoc (before ++ lost.counted) lost.uncounted behind)
      ∙ ap (λ b. b ++ behind) (append_assoc before lost.counted lost.uncounted ∙ ap (λ p. before ++ p) lost.whole) ∙ whole in
      subst (λ n. IsInLog limits log n) (sym (ap (λ m. m.node) lost.state))
      (reads_told old.limits same (before ++ lost.counted) (lost.uncounted ++ behind) ends (lines (before ++ lost.counted)) [] lost.notes (append-nil (lines (before ++ lost.counted))) lost.nothing_bad.good)

  faulted_told : (old new : MirrorState) (before piece behind : List ℕ) (fault : FeedFault) → (before ++ piece) ++ behind ≡ text → old.limits ≡ limits → Faulted opening before piece old new fault → IsInLog limits log new.node
  faulted_told old new before piece behind Memory whole same f = lost_told old new before piece behind whole same f
  faulted_told old new before piece behind NotOpen whole same f = stopped_told old new NotOpen (before ++ piece) behind whole same f.0 f.1
  faulted_told old new before piece behind LongLine whole same f = stopped_told old new LongLine (before ++ piece) behind whole same f.0 f.1
  faulted_told old new before piece behind (BadLine fault) whole same f = stopped_told old new (BadLine fault) (before ++ piece) behind whole same f.0 f.1
  faulted_told old new before piece behind StageFull whole same f = stopped_told old new StageFull (before ++ piece) behind whole same f.0 f.1

pub told_is_honest : TellsShow → ToldIsHonest
told_is_honest show limits log place fresh k begun input named is_place begins opens tells =
    record {
      stands = λ before behind notes mirror whole bounds stands.
          stands_told show limits log named place fresh k is_place begins input tells mirror bounds before behind whole notes (subst (λ o. StandsAt o before notes mirror) opens stands);
      stops = λ before piece behind old new fault whole bounds stopped.
          faulted_told show limits log named place fresh k is_place begins input tells old new before piece behind fault whole bounds (subst (λ o. Faulted o before piece old new fault) opens stopped);
    }

-- ---- a response

module _ (show : TellsShow) (limits : Limits) (log : Log) (named : IsNamed log) (exchange : Exchange) (begun : MirrorState) (asks : AsksInLog limits log begun) (told : CarriesTheLog limits log exchange begun asks) where
  begun_in : IsInLog limits log begun.node
  begun_in = (asks.place, asks.is_place, ap (λ o. o.before) asks.asks.opening)

  as_begun : (mirror : MirrorState) → mirror.node ≡ begun.node → IsInLog limits log mirror.node
  as_begun mirror same = subst (λ n. IsInLog limits log n) (sym same) begun_in

  -- a payload that came
  module _ (bytes behind : List ℕ) (whole : bytes ++ behind ≡ exchange.received) (standing : Standing) (stands : Stands (is_some begun.since) bytes standing)
      (payload : List ℕ) (has : HasPayload standing payload) (mirror : MirrorState) where
    reached : HasReached begun payload mirror → IsInLog limits log mirror.node
    reached h =
        let c = told.carries bytes behind payload standing whole stands has in
        stands_told show limits log named asks.place (is_none begun.since) told.k asks.is_place told.begins told.text told.tells mirror (h.limits ∙ asks.asks.limits_are) payload c.0 c.1 h.notes
        (subst (λ o. StandsAt o payload h.notes mirror) asks.asks.opening h.stands)

    cut_after : IsCutAfter begun payload mirror → IsInLog limits log mirror.node
    cut_after h =
        let c = told.carries bytes behind payload standing whole stands has in
        subst (λ n. IsInLog limits log n) (sym (ap (λ m. m.node) h.state))
        (subst (λ o. IsInLog limits log (keep_latest begun.limits.history (reads begun.limits.history o h.notes))) (sym asks.asks.opening)
        (reads_told show limits log named asks.place (is_none begun.since) told.k asks.is_place told.begins told.text told.tells begun.limits asks.asks.limits_are payload c.0 c.1 (lines payload) [] h.notes
        (append-nil (lines payload)) (subst (λ o. AllGood begun.limits o (lines payload) h.notes) asks.asks.opening h.nothing_bad.good)))

    cut_at_fault : (fault : FeedFault) → IsCutAtFault begun payload fault mirror → IsInLog limits log mirror.node
    cut_at_fault fault h =
        let c = told.carries bytes behind payload standing whole stands has in
        subst (λ n. IsInLog limits log n) (sym (ap (λ m. m.node) h.state))
        (subst (λ o. IsInLog limits log (keep_latest begun.limits.history (reads begun.limits.history o h.notes))) (sym asks.asks.opening)
        (faults_told show limits log named asks.place (is_none begun.since) told.k asks.is_place told.begins told.text told.tells begun.limits asks.asks.limits_are payload c.0 c.1 h.notes fault
        (subst (λ o. FaultsAt begun.limits o payload h.notes fault) asks.asks.opening h.first)))

  left : (bytes behind : List ℕ) → bytes ++ behind ≡ exchange.received → (standing : Standing) (mirror : MirrorState) → Stands (is_some begun.since) bytes standing → Leaves begun standing mirror → IsInLog limits log mirror.node
  left bytes behind whole in_head mirror stands e = as_begun mirror (ap (λ m. m.node) e)
  left bytes behind whole token_refused mirror stands e = as_begun mirror (ap (λ m. m.node) e)
  left bytes behind whole (in_body payload) mirror stands h = reached bytes behind whole (in_body payload) stands payload refl mirror h
  left bytes behind whole (done payload) mirror stands h = reached bytes behind whole (done payload) stands payload refl mirror h
  left bytes behind whole (failed BadChunk payload) mirror stands h = cut_after bytes behind whole (failed BadChunk payload) stands payload refl mirror h
  left bytes behind whole (failed Closed payload) mirror stands e = as_begun mirror (ap (λ m. m.node) e)
  left bytes behind whole (failed LongHead payload) mirror stands e = as_begun mirror (ap (λ m. m.node) e)
  left bytes behind whole (failed BadHead payload) mirror stands e = as_begun mirror (ap (λ m. m.node) e)
  left bytes behind whole (failed (Status status) payload) mirror stands e = as_begun mirror (ap (λ m. m.node) e)
  left bytes behind whole (failed BadCoding payload) mirror stands e = as_begun mirror (ap (λ m. m.node) e)
  left bytes behind whole (failed BadLength payload) mirror stands e = as_begun mirror (ap (λ m. m.node) e)
  left bytes behind whole (failed (Feed fault) payload) mirror stands e = as_begun mirror (ap (λ m. m.node) e)
  left bytes behind whole (failed FollowMemory payload) mirror stands e = as_begun mirror (ap (λ m. m.node) e)

  lost_some : (before piece behind : List ℕ) → (before ++ piece) ++ behind ≡ exchange.received → (mirror : MirrorState) → HasLostSome begun (is_some begun.since) before piece mirror → IsInLog limits log mirror.node
  lost_some before piece behind whole mirror lost = by lost.left
    where
      ends : (before ++ lost.counted) ++ (lost.uncounted ++ behind) ≡ exchange.received
      ends =
          sym (append_assoc (before ++ lost.counted) lost.uncounted behind)
          ∙ ap (λ b. b ++ behind) (append_assoc before lost.counted lost.uncounted ∙ ap (λ p. before ++ p) (sym lost.whole)) ∙ whole

      by : (Stands (is_some begun.since) (before ++ lost.counted) in_head × (mirror ≡ cut_off begun)) ⊎ ((payload : List ℕ) × Brings (is_some begun.since) (before ++ lost.counted) payload × IsCutAfter begun payload mirror)
          → IsInLog limits log mirror.node
      by (inl none) = as_begun mirror (ap (λ m. m.node) none.1)
      by (inr (payload, inl stands, cut)) = cut_after (before ++ lost.counted) (lost.uncounted ++ behind) ends (in_body payload) stands payload refl mirror cut
      by (inr (payload, inr stands, cut)) = cut_after (before ++ lost.counted) (lost.uncounted ++ behind) ends (done payload) stands payload refl mirror cut

  bad_line : (bytes behind : List ℕ) → bytes ++ behind ≡ exchange.received → (fault : FeedFault) (mirror : MirrorState) → HasBadLine begun (is_some begun.since) bytes fault mirror → IsInLog limits log mirror.node
  bad_line bytes behind whole fault mirror bad = by bad.brings
    where
      ends : bad.prefix ++ (bad.later ++ behind) ≡ exchange.received
      ends = sym (append_assoc bad.prefix bad.later behind) ∙ ap (λ b. b ++ behind) (sym bad.whole) ∙ whole

      by : Brings (is_some begun.since) bad.prefix bad.payload → IsInLog limits log mirror.node
      by (inl stands) = cut_at_fault bad.prefix (bad.later ++ behind) ends (in_body bad.payload) stands bad.payload refl mirror fault bad.cut
      by (inr stands) = cut_at_fault bad.prefix (bad.later ++ behind) ends (done bad.payload) stands bad.payload refl mirror fault bad.cut

  failed_told : (before piece behind : List ℕ) → (before ++ piece) ++ behind ≡ exchange.received → (mirror : MirrorState) (fault : FollowFault) → Fails begun (is_some begun.since) before piece mirror fault → IsInLog limits log mirror.node
  failed_told before piece behind whole mirror FollowMemory f = lost_some before piece behind whole mirror f
  failed_told before piece behind whole mirror (Feed Memory) f = lost_some before piece behind whole mirror f
  failed_told before piece behind whole mirror (Feed NotOpen) f = bad_line (before ++ piece) behind whole NotOpen mirror f
  failed_told before piece behind whole mirror (Feed LongLine) f = bad_line (before ++ piece) behind whole LongLine mirror f
  failed_told before piece behind whole mirror (Feed (BadLine fault)) f = bad_line (before ++ piece) behind whole (BadLine fault) mirror f
  failed_told before piece behind whole mirror (Feed StageFull) f = bad_line (before ++ piece) behind whole StageFull mirror f
  failed_told before piece behind whole mirror Closed f = as_begun mirror (ap (λ m. m.node) f.1)
  failed_told before piece behind whole mirror LongHead f = left (before ++ piece) behind whole (failed LongHead f.0) mirror f.1 f.2
  failed_told before piece behind whole mirror BadHead f = left (before ++ piece) behind whole (failed BadHead f.0) mirror f.1 f.2
  failed_told before piece behind whole mirror (Status status) f = left (before ++ piece) behind whole (failed (Status status) f.0) mirror f.1 f.2
  failed_told before piece behind whole mirror BadCoding f = left (before ++ piece) behind whole (failed BadCoding f.0) mirror f.1 f.2
  failed_told before piece behind whole mirror BadLength f = left (before ++ piece) behind whole (failed BadLength f.0) mirror f.1 f.2
  failed_told before piece behind whole mirror BadChunk f = left (before ++ piece) behind whole (failed BadChunk f.0) mirror f.1 f.2

pub telling_is_honest : TellsShow → TellingIsHonest
telling_is_honest show limits log servers exchange named tells begun request more asks is_request asked =
    let told = tells begun request more asks is_request asked in
    honest_however exchange.shown (record {
      shows = λ before behind standing follower mirror whole long at.
          left show limits log named exchange begun asks told before behind whole standing mirror (subst (λ h. Stands h before standing) at.asked at.stands) at.leaves;
      fails = λ before piece behind mirror fault whole long failed. failed_told show limits log named exchange begun asks told before piece behind whole mirror fault failed;
    })

pub feed_is_honest : FeedsCarryText → TellsShow → FeedIsHonest
feed_is_honest carry show limits log servers exchange named feeds =
    telling_is_honest show limits log servers exchange named
    (λ begun request more asks is_request asked.
    let f = feeds begun request more asks is_request asked in
    record { k = f.k; text = f.text; begins = f.begins; carries = carry (is_some begun.since) exchange.received f.text f.is_feed; tells = f.tells })
