-- What pieces of a body bring to the mirror that they are fed to.
use Rattle.std.proofs.Common.{◌≡◌, ◌≢◌, inl, inr, ℕ, ◌+◌, ◌-◌, ◌<◌, ◌≤◌, List, [], ◌∷◌, ◌++◌, length, take, drop, refl, sym, ap, ◌∙◌, subst, arith, append-nil, append_assoc, length-append, length-drop, Some}
use Rattle.std.proofs.lemmas.List.{take_all}
use Rattle.std.proofs.lemmas.Bool.{cases_lt}
use Rattle.feed_node.specs.declared.fault.FeedFault.{FeedFault}
use Rattle.feed_node.specs.declared.fault.FeedFault.TheVariants.{Memory as FeedMemory}
use Rattle.feed_node.specs.Mirroring.{MirrorState}
use Rattle.feed_wire.specs.declared.chunk.Chunking.{Chunking}
use Rattle.feed_wire.specs.declared.chunk.Chunking.TheVariants.{LineStart, InBytes, Whole}
use Rattle.feed_follow.specs.declared.coding.BodyFraming.{BodyFraming}
use Rattle.feed_follow.specs.declared.coding.BodyFraming.TheVariants as framed
use Rattle.feed_follow.specs.declared.fault.FollowFault.{FollowFault}
use Rattle.feed_follow.specs.declared.fault.FollowFault.TheVariants.{BadChunk, Feed}
use Rattle.feed_follow.specs.declared.follower.Part.{Part}
use Rattle.feed_follow.specs.declared.follower.Part.TheVariants.{Head, ToEnd, Sized, InChunks, Done, Closed}
use Rattle.feed_wire.specs.ChunkReading.{ReadsChunks, stays, goes, next}
use Rattle.feed_follow.specs.Bodies.{IsBody, IsBodyPrefix}
use Rattle.feed_follow.specs.Following.{HasReached, IsCutAfter, IsCutAtFault}
use Rattle.feed_follow.specs.Follower.{ReadsBody}
use Rattle.feed_follow.specs.Feeding.{HasFed, StopsAt, StopsBehind, StopsFeeding, FeedsChunks, FeedsToEnd, StopsInChunks, BodyGoesOn, BringsBody, BodyFails, BodyStops}
use Rattle.feed_wire.proofs.ChunkedRuns.{reads_both, refused_byte, run_is_whole, run_breaks_off, data_run, brings_nothing}

-- a slice to the end
pub to_the_end : (n : ℕ) (bytes : List ℕ) → take (length bytes - n) (drop n bytes) ≡ drop n bytes
to_the_end n bytes = take_all (length bytes - n) (drop n bytes) (omega (arith, length-drop n bytes))

-- ---- the mirror

pub fed_nothing : (mirror : MirrorState) → HasFed mirror [] mirror
fed_nothing mirror start before h = subst (λ t. HasReached start t mirror)
    (sym (append-nil before)) h

pub fed_both : (old middle new : MirrorState) (p q : List ℕ) → HasFed old p middle
    → HasFed middle q new → HasFed old (p ++ q) new
fed_both old middle new p q first second start before h =
    subst (λ t. HasReached start t new) (append_assoc before p q)
    (second start (before ++ p) (first start before h))

stops_later : (old middle new : MirrorState) (p q bytes : List ℕ) (fault : FeedFault)
    → HasFed old p middle → StopsBehind middle q bytes new fault
    → StopsBehind old (p ++ q) bytes new fault
stops_later old middle new p q bytes fault fed stops start before h =
    subst (λ t. StopsAt start t bytes new fault) (append_assoc before p q)
    (stops start (before ++ p) (fed start before h))

-- ---- chunks

pub feeds_nothing : (at : Chunking) (mirror : MirrorState) → FeedsChunks at [] mirror at mirror
feeds_nothing at mirror = record { payload = []; reads = stays at; fed = fed_nothing mirror }

pub feeds_both : (at middle to : Chunking) (x y : List ℕ) (old between new : MirrorState)
    → FeedsChunks at x old middle between → FeedsChunks middle y between to new
    → FeedsChunks at (x ++ y) old to new
feeds_both at middle to x y old between new first second = record {
  payload = first.payload ++ second.payload;
  reads = reads_both at middle to x first.payload y second.payload first.reads second.reads;
  fed = fed_both old between new first.payload second.payload first.fed second.fed;
}

-- the mirror stopped within bytes of the chunk that comes next
pub stops_in_data : (left : ℕ) (bytes later : List ℕ) (old new : MirrorState) (fault : FollowFault)
    → length bytes ≤ left → StopsFeeding old bytes new fault
    → StopsInChunks (InBytes left) (bytes ++ later) old new fault
stops_in_data left bytes later old new (Feed fault) few stops = record {
  prefix = [];
  bytes = bytes;
  later = later;
  left = left;
  payload = [];
  split = refl;
  reads = stays (InBytes left);
  fits = few;
  stops = stops;
}
stops_in_data left bytes later old new fault few stops = absurd stops

-- the same behind a prefix that was read
pub stops_behind : (at middle : Chunking) (prefix rest : List ℕ) (old between new : MirrorState)
    (fault : FollowFault)
    → FeedsChunks at prefix old middle between → StopsInChunks middle rest between new fault
    → StopsInChunks at (prefix ++ rest) old new fault
stops_behind at middle prefix rest old between new BadChunk feeds meets = record {
  prefix = prefix ++ meets.prefix;
  byte = meets.byte;
  later = meets.later;
  place = meets.place;
  split = ap (λ t. prefix ++ t) meets.split
      ∙ sym (append_assoc prefix meets.prefix (meets.byte ∷ meets.later));
  feeds = feeds_both at middle meets.place prefix meets.prefix old between new feeds meets.feeds;
  going = meets.going;
  refused = meets.refused;
}
stops_behind at middle prefix rest old between new (Feed fault) feeds stop = record {
  prefix = prefix ++ stop.prefix;
  bytes = stop.bytes;
  later = stop.later;
  left = stop.left;
  payload = feeds.payload ++ stop.payload;
  split = ap (λ t. prefix ++ t) stop.split
      ∙ sym (append_assoc prefix stop.prefix (stop.bytes ++ stop.later));
  reads = reads_both at middle (InBytes stop.left) prefix feeds.payload stop.prefix stop.payload
      feeds.reads stop.reads;
  fits = stop.fits;
  stops = stops_later old between new feeds.payload stop.payload stop.bytes fault feeds.fed
      stop.stops;
}
stops_behind at middle prefix rest old between new fault feeds stop = absurd stop

-- a byte that is none of a chunk's
pub feeds_byte : (at to : Chunking) (b : ℕ) (mirror : MirrorState)
    → ((left : ℕ) → at ≢ InBytes left) → next at b ≡ Some to
    → FeedsChunks at (b ∷ []) mirror to mirror
feeds_byte at to b mirror other e = record {
  payload = [];
  reads = subst (λ p. ReadsChunks at (b ∷ []) p to) (ap (λ p. p ++ []) (brings_nothing at b other))
      (goes at to to b [] [] e (stays to));
  fed = fed_nothing mirror;
}

-- bytes of a chunk
pub feeds_data : (left : ℕ) (bytes : List ℕ) (to : Chunking) (old new : MirrorState)
    → ReadsChunks (InBytes left) bytes bytes to → HasFed old bytes new
    → FeedsChunks (InBytes left) bytes old to new
feeds_data left bytes to old new reads fed = record { payload = bytes; reads = reads; fed = fed }

-- ---- a body of which so many bytes are still to come

sized_brings : (left : ℕ) (text payload more : List ℕ) (framing : BodyFraming)
    → ReadsBody framing text payload (Sized left) → length more ≤ left
    → BringsBody framing (text ++ more) (payload ++ more)
sized_brings left text payload more framing h few =
    let same : payload ++ more ≡ text ++ more = ap (λ t. t ++ more) h.2 in
    subst (λ f. BringsBody f (text ++ more) (payload ++ more)) (sym h.0)
    (elim (cases_lt (length more) left) [
      | inl less ↦ inl (omega (arith, length-append text more), same)
      | inr full ↦ inr (
        text ++ more,
        [],
        sym (append-nil (text ++ more)),
        (omega (arith, length-append text more), same),
      )
    ])

-- a mirror that stopped within what belongs to the body
stops_so : (start : MirrorState) (framing : BodyFraming) (text payload bytes later : List ℕ)
    (old new : MirrorState) (fault : FollowFault)
    → ((more : List ℕ) → length more ≤ length bytes
    → BringsBody framing (text ++ more) (payload ++ more))
    → StopsFeeding old bytes new fault → HasReached start payload old
    → BodyFails start framing text (bytes ++ later) new fault
stops_so start framing text payload bytes later old new (Feed FeedMemory) brings stops reached =
    let (counted, uncounted, whole, cut) = stops start payload reached in
    record {
      counted = counted;
      uncounted = uncounted ++ later;
      whole = ap (λ t. t ++ later) whole ∙ append_assoc counted uncounted later;
      payload = payload ++ counted;
      brings = brings counted (omega (arith, ap length whole, length-append counted uncounted));
      cut = subst (λ t. IsCutAfter start (t ++ counted) new) (append-nil payload) cut;
    }
stops_so start framing text payload bytes later old new (Feed fault) brings stops reached =
    record {
      prefix = text ++ bytes;
      later = later;
      whole = sym (append_assoc text bytes later);
      payload = payload ++ bytes;
      brings = brings bytes (omega arith);
      cut = subst (λ t. IsCutAtFault start (t ++ bytes) fault new) (append-nil payload)
          (stops start payload reached);
    }
stops_so start framing text payload bytes later old new fault brings stops reached = absurd stops

pub sized_stops : (left : ℕ) (bytes later : List ℕ) (old new : MirrorState) (fault : FollowFault)
    → length bytes ≤ left → StopsFeeding old bytes new fault
    → BodyStops (Sized left) (bytes ++ later) old new fault
sized_stops left bytes later old new fault few stops start framing text payload h reached =
    stops_so start framing text payload bytes later old new fault
    (λ more short. sized_brings left text payload more framing h
    (let all : length more ≤ left = omega arith in all)) stops reached

pub sized_ends : (left : ℕ) (bytes later : List ℕ) (old new : MirrorState) → length bytes ≡ left
    → HasFed old bytes new → BodyGoesOn (Sized left) (bytes ++ later) old new Done
sized_ends left bytes later old new full fed framing text payload h =
    let whole : IsBody framing (text ++ bytes) (payload ++ bytes) =
    subst (λ f. IsBody f (text ++ bytes) (payload ++ bytes)) (sym h.0)
    (omega (arith, length-append text bytes), ap (λ t. t ++ bytes) h.2) in
    (bytes, (text ++ bytes, later, sym (append_assoc text bytes later), whole), fed)

pub sized_goes_on : (left : ℕ) (bytes : List ℕ) (old new : MirrorState) → length bytes < left
    → HasFed old bytes new → BodyGoesOn (Sized left) bytes old new (Sized (left - length bytes))
sized_goes_on left bytes old new some fed framing text payload h =
    let same : length text + left ≡ length (text ++ bytes) + (left - length bytes) =
    omega (arith, length-append text bytes) in
    (bytes, (h.0 ∙ ap framed.Sized same, omega arith, ap (λ t. t ++ bytes) h.2), fed)

-- ---- a body to the end of the connection

pub open_goes_on : (bytes : List ℕ) (old new : MirrorState) → HasFed old bytes new
    → BodyGoesOn ToEnd bytes old new ToEnd
open_goes_on bytes old new fed framing text payload h =
    (bytes, (h.0, ap (λ t. t ++ bytes) h.1), fed)

pub open_stops : (bytes : List ℕ) (old new : MirrorState) (fault : FollowFault)
    → StopsFeeding old bytes new fault → BodyStops ToEnd bytes old new fault
open_stops bytes old new fault stops start framing text payload h reached =
    subst (λ t. BodyFails start framing text t new fault) (append-nil bytes)
    (stops_so start framing text payload bytes [] old new fault
    (λ more _. subst (λ f. BringsBody f (text ++ more) (payload ++ more)) (sym h.0)
    (inl (ap (λ t. t ++ more) h.1))) stops reached)

-- ---- a chunked body

chunks_bring : (text payload prefix q : List ℕ) (at to : Chunking) (framing : BodyFraming)
    → ReadsBody framing text payload (InChunks at) → to ≢ Whole → ReadsChunks at prefix q to
    → IsBodyPrefix framing (text ++ prefix) (payload ++ q)
chunks_bring text payload prefix q at to framing h going reads =
    subst (λ f. IsBodyPrefix f (text ++ prefix) (payload ++ q)) (sym h.0)
    (run_breaks_off to (text ++ prefix) (payload ++ q) going
    (reads_both LineStart at to text payload prefix q h.2 reads))

pub chunks_end : (at : Chunking) (piece : List ℕ) (old new : MirrorState)
    → FeedsToEnd at piece old Whole new → BodyGoesOn (InChunks at) piece old new Done
chunks_end at piece old new run framing text payload h =
    let body = run_is_whole (text ++ run.prefix) (payload ++ run.feeds.payload)
    (reads_both LineStart at Whole text payload run.prefix run.feeds.payload h.2
    run.feeds.reads) in (
      run.feeds.payload,
      (
        text ++ run.prefix,
        run.ignored,
        ap (λ t. text ++ t) run.split ∙ sym (append_assoc text run.prefix run.ignored),
        subst (λ f. IsBody f (text ++ run.prefix) (payload ++ run.feeds.payload)) (sym h.0) body,
      ),
      run.feeds.fed,
    )

pub chunks_go_on : (at to : Chunking) (piece : List ℕ) (old new : MirrorState) → to ≢ Whole
    → FeedsToEnd at piece old to new → BodyGoesOn (InChunks at) piece old new (InChunks to)
chunks_go_on at to piece old new going run framing text payload h =
    let all : run.prefix ≡ piece = elim run.to_end [
      | inl none ↦ sym (run.split ∙ ap (λ t. run.prefix ++ t) none ∙ append-nil run.prefix)
      | inr whole ↦ absurd (going whole)
    ] in
    let reads = reads_both LineStart at to text payload run.prefix run.feeds.payload h.2
    run.feeds.reads in (
      run.feeds.payload,
      (
        h.0,
        going,
        subst
            (λ t. ReadsChunks LineStart (text ++ t) (payload ++ run.feeds.payload) to) all reads,
      ),
      run.feeds.fed,
    )

chunk_brings : (at : Chunking) (text payload prefix q counted : List ℕ) (left : ℕ)
    (framing : BodyFraming)
    → ReadsBody framing text payload (InChunks at) → ReadsChunks at prefix q (InBytes left)
    → length counted ≤ left
    → IsBodyPrefix framing (text ++ (prefix ++ counted)) (payload ++ (q ++ counted))
chunk_brings at text payload prefix q counted left framing h reads few =
    let (to, going, run) = data_run counted left few in
    chunks_bring text payload (prefix ++ counted) (q ++ counted) at to framing h going
    (reads_both at (InBytes left) to prefix q counted counted reads run)

pub chunks_stop : (at : Chunking) (piece : List ℕ) (old new : MirrorState) (fault : FollowFault)
    → StopsInChunks at piece old new fault → BodyStops (InChunks at) piece old new fault
chunks_stop at piece old new BadChunk meets start framing text payload h reached =
    let q = meets.feeds.payload in
    let run = reads_both LineStart at meets.place text payload meets.prefix q h.2
    meets.feeds.reads in
    record {
      payload = payload ++ q;
      framed = h.0;
      bad = record {
        prefix = text ++ meets.prefix;
        byte = meets.byte;
        rest = meets.later;
        spelled = ap (λ t. text ++ t) meets.split
            ∙ sym (append_assoc text meets.prefix (meets.byte ∷ meets.later));
        breaks = run_breaks_off meets.place (text ++ meets.prefix) (payload ++ q) meets.going run;
        never = λ other. refused_byte meets.place meets.byte (text ++ meets.prefix)
            (payload ++ q) other run meets.refused;
      };
      reached = meets.feeds.fed start payload reached;
    }
chunks_stop at piece old new (Feed FeedMemory) stop start framing text payload h reached =
    let (counted, uncounted, whole, cut) = stop.stops start payload reached in
    record {
      counted = stop.prefix ++ counted;
      uncounted = uncounted ++ stop.later;
      whole = stop.split ∙ ap (λ t. stop.prefix ++ (t ++ stop.later)) whole ∙ simp append_assoc;
      payload = payload ++ (stop.payload ++ counted);
      brings = inl (chunk_brings at text payload stop.prefix stop.payload counted stop.left framing h
          stop.reads (omega (arith, stop.fits, ap length whole, length-append counted uncounted)));
      cut = subst (λ t. IsCutAfter start t new) (append_assoc payload stop.payload counted) cut;
    }
chunks_stop at piece old new (Feed fault) stop start framing text payload h reached =
    record {
      prefix = text ++ (stop.prefix ++ stop.bytes);
      later = stop.later;
      whole = ap (λ t. text ++ t) stop.split ∙ simp append_assoc;
      payload = payload ++ (stop.payload ++ stop.bytes);
      brings = inl (chunk_brings at text payload stop.prefix stop.payload stop.bytes stop.left
          framing h stop.reads stop.fits);
      cut = subst (λ t. IsCutAtFault start t fault new)
          (append_assoc payload stop.payload stop.bytes) (stop.stops start payload reached);
    }
chunks_stop at piece old new fault stop start framing text payload h reached = absurd stop

-- ---- no body, or one that is whole

pub rest_stays : (part : Part) (piece : List ℕ) (mirror : MirrorState)
    → ((left : ℕ) → part ≢ Sized left) → ((at : Chunking) → part ≢ InChunks at) → part ≢ ToEnd
    → BodyGoesOn part piece mirror mirror part
rest_stays (Sized left) piece mirror a b c framing text payload h = absurd (a left refl)
rest_stays (InChunks at) piece mirror a b c framing text payload h = absurd (b at refl)
rest_stays ToEnd piece mirror a b c framing text payload h = absurd (c refl)
rest_stays Done piece mirror a b c framing text payload h =
    let (body, ignored, split, is) = h in (
      [],
      (
        body,
        ignored ++ piece,
        ap (λ t. t ++ piece) split
            ∙ append_assoc body ignored piece,
        subst (λ p. IsBody framing body p)
            (sym (append-nil payload)) is,
      ),
      fed_nothing mirror,
    )
rest_stays Head piece mirror a b c framing text payload h = absurd h
rest_stays Closed piece mirror a b c framing text payload h = absurd h
