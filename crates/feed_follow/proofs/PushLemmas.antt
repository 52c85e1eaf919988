-- Where a follower stands after a piece.
use Rattle.std.proofs.Common.{◌≡◌, ◌≢◌, inl, inr, ℕ, ◌-◌, ◌<◌, Bool, List, [], ◌++◌, length, refl, sym, ap, ◌∙◌, subst, arith, append-nil, append_assoc, length-append, zero-add, take, drop, take-append-drop, Bor}
use Rattle.std.specs.Prelude.{true, false, Ok, Err, Result, IfOk, IfErr, is_some, ◌==◌, Option, Some, None}
use Rattle.std.specs.Option.{option_copied}
use Rattle.std.proofs.lemmas.Bool.{cases_Bool}
use Rattle.std.proofs.lemmas.Result.{IfOk-weaker, MatchResult-weaker}
use Rattle.std.proofs.lemmas.Bool.Decides.{nat_tests}
use Rattle.httparse.specs.Grammar.{ResponseHead, print_response}
use Rattle.feed_node.specs.declared.fault.FeedFault.{FeedFault}
use Rattle.feed_node.specs.declared.fault.FeedFault.TheVariants.{Memory as FeedMemory}
use Rattle.feed_node.specs.Reading.{Reads as ReadsLines}
use Rattle.feed_node.specs.Mirroring.{MirrorState, cut_off, refused_off, mirror_after, present_opening}
use Rattle.feed_wire.specs.declared.chunk.Chunking.TheVariants.{LineStart}
use Rattle.feed_follow.specs.declared.coding.BodyFraming.{BodyFraming}
use Rattle.feed_follow.specs.declared.coding.BodyFraming.TheVariants as framed
use Rattle.feed_follow.specs.declared.fault.FollowFault.{FollowFault}
use Rattle.feed_follow.specs.declared.fault.FollowFault.TheVariants.{LongHead, BadHead, Status, BadCoding, BadLength, BadChunk, Closed as WasClosed, Feed, Memory}
use Rattle.feed_follow.specs.declared.heads.Verdict.{Verdict}
use Rattle.feed_follow.specs.declared.heads.Verdict.TheVariants.{Body, Refusal}
use Rattle.feed_follow.specs.declared.follower.Part.{Part}
use Rattle.feed_follow.specs.declared.follower.Part.TheVariants.{Head, ToEnd, Sized, InChunks, Done, Closed}
use Rattle.feed_wire.specs.ChunkReading.{stays}
use Rattle.feed_wire.specs.ResponseHeads.{BeginsWithResponse, HasNoWholeResponse}
use Rattle.feed_follow.specs.HeadRead.{IsUnfinished, IsNoHead}
use Rattle.feed_follow.specs.Standing.{Standing, in_head, token_refused, in_body, done, failed, verdict, Stands, StandsInBody, StandsBehind}
use Rattle.feed_follow.specs.Following.{HasReached, IsCutAfter, IsCutAtFault, Leaves, Brings, Fails}
use Rattle.feed_follow.specs.Follower.{FollowerState, ReadsBody, standing_with, IsInBody, FollowsAt, first_part, progress, GoesOnOrRefuses}
use Rattle.feed_follow.specs.Feeding.{BringsBody, BodyGoesOn, BodyFails, BodyStops}
use Rattle.feed_follow.specs.Keeping.{HeadBrings, HeadRefuses, HeadGoesOn, HeadStops}
use Rattle.feed_wire.proofs.ChunkedRuns.{run_breaks_off}
use Rattle.feed_follow.specs.declared.heads.WholeHead.{WholeHead}
use Rattle.feed_follow.specs.HeadRead.{IsHeadRead}
use Rattle.feed_wire.proofs.ResponseLemmas.{longer}
use Rattle.feed_follow.proofs.HeadLemmas.{whole_at, found_in_piece}
use Rattle.feed_follow.proofs.BodyLemmas.{to_the_end}

-- ---- the mirror

pub cut_after : (start : MirrorState) (payload : List ℕ) (mirror : MirrorState)
    → HasReached start payload mirror → IsCutAfter start payload (cut_off mirror)
cut_after start payload mirror h = record {
  notes = h.notes;
  nothing_bad = subst (λ l. ReadsLines l (present_opening start) payload h.notes) h.limits
      h.stands.nothing_bad;
  state = ap cut_off h.stands.state
      ∙ ap (λ l. cut_off (mirror_after l (present_opening start) h.notes [])) h.limits;
}

cut_again : (start : MirrorState) (payload : List ℕ) (mirror : MirrorState)
    → IsCutAfter start payload mirror → IsCutAfter start payload (cut_off mirror)
cut_again start payload mirror h =
    record { notes = h.notes; nothing_bad = h.nothing_bad; state = ap cut_off h.state }

fault_again : (start : MirrorState) (payload : List ℕ) (fault : FeedFault) (mirror : MirrorState)
    → IsCutAtFault start payload fault mirror → IsCutAtFault start payload fault (cut_off mirror)
fault_again start payload fault mirror h =
    record { notes = h.notes; first = h.first; state = ap cut_off h.state }

-- ---- behind a whole head

stands_behind : (had_token : Bool) (bytes : List ℕ) (head : ResponseHead) (text : List ℕ)
    (framing : BodyFraming) (standing : Standing)
    → BeginsWithResponse bytes head text → verdict had_token head ≡ Ok (Body framing)
    → StandsInBody framing text standing → Stands had_token bytes standing
stands_behind had_token bytes head text framing standing begins says h =
    inr (head, text, begins, subst (λ v. StandsBehind v text standing) (sym says) h)

body_stands : (framing : BodyFraming) (text payload : List ℕ) (part : Part)
    → ReadsBody framing text payload part → StandsInBody framing text (standing_with payload part)
body_stands framing text payload ToEnd h = subst (λ f. StandsInBody f text (in_body payload))
    (sym h.0) h.1
body_stands framing text payload (Sized left) h = subst (λ f. StandsInBody f text (in_body payload))
    (sym h.0) (let some = h.1 in omega arith, h.2)
body_stands framing text payload (InChunks at) h = subst
    (λ f. StandsInBody f text (in_body payload)) (sym h.0) (run_breaks_off at text payload h.1 h.2)
body_stands framing text payload Done h = h
body_stands framing text payload Head h = absurd h
body_stands framing text payload Closed h = absurd h

module _ (start : MirrorState) (bytes : List ℕ) (had_token : Bool) (kept : List ℕ)
    (mirror : MirrorState) (asked : had_token ≡ is_some start.since)
    (head : ResponseHead) (text : List ℕ) (begins : BeginsWithResponse bytes head text)
    (framing : BodyFraming) (says : verdict had_token head ≡ Ok (Body framing))
    (payload : List ℕ) (reached : HasReached start payload mirror) where
  is_in : (part : Part) → ReadsBody framing text payload part
      → IsInBody (record { had_token = had_token; kept = kept; part = part }) bytes
      (standing_with payload part)
  is_in part reads = record {
    head = head;
    text = text;
    begins = begins;
    framing = framing;
    says = says;
    payload =
        payload;
    reads = reads;
    standing_is = refl;
  }

  stands_so : (part : Part) → ReadsBody framing text payload part
      → Stands had_token bytes (standing_with payload part)
  stands_so part reads = stands_behind had_token bytes head text framing
      (standing_with payload part) begins says (body_stands framing text payload part reads)

  pub behind_head : (part : Part) → ReadsBody framing text payload part
      → GoesOnOrRefuses start bytes (record { had_token = had_token; kept = kept; part = part }) mirror
      (progress part)
  behind_head ToEnd reads = (
    in_body payload,
    refl,
    record {
      asked = asked;
      stands = stands_so ToEnd reads;
      keeps = is_in ToEnd reads;
      leaves =
          reached;
    },
  )
  behind_head (Sized left) reads = (
    in_body payload,
    refl,
    record {
      asked = asked;
      stands = stands_so (Sized left) reads;
      keeps = is_in
          (Sized left) reads;
      leaves = reached;
    },
  )
  behind_head (InChunks at) reads = (
    in_body payload,
    refl,
    record {
      asked = asked;
      stands = stands_so (InChunks at) reads;
      keeps = is_in
          (InChunks at) reads;
      leaves = reached;
    },
  )
  behind_head Done reads = (
    done payload,
    refl,
    record
        { asked = asked; stands = stands_so Done reads; keeps = is_in Done reads; leaves = reached },
  )
  behind_head Head reads = absurd reads
  behind_head Closed reads = absurd reads

-- ---- a head that goes on

pub head_goes_on : (start : MirrorState) (bytes : List ℕ) (had_token : Bool) (kept : List ℕ)
    (mirror : MirrorState) (part : Part)
    → had_token ≡ is_some start.since → HeadGoesOn had_token bytes start kept mirror part
    → GoesOnOrRefuses start bytes (record { had_token = had_token; kept = kept; part = part }) mirror
    (progress part)
head_goes_on start bytes had_token kept mirror Head asked h = (
  in_head,
  refl,
  record {
    asked = asked;
    stands = inl (h.0.no_head, h.0.within);
    keeps = (h.1, refl);
    leaves =
        h.2;
  },
)
head_goes_on start bytes had_token kept mirror Closed asked h = (
  h.cut,
  record {
    asked = asked;
    stands = inr (
      h.head,
      h.rest,
      h.begins,
      subst (λ v. StandsBehind v h.rest token_refused)
          (sym h.says) refl,
    );
    keeps = refl;
    leaves = ap refused_off h.cut;
  },
)
head_goes_on start bytes had_token kept mirror ToEnd asked h = behind_head start bytes had_token
    kept mirror asked h.head h.text h.begins h.framing h.says h.payload h.reached ToEnd h.reads
head_goes_on start bytes had_token kept mirror (Sized left) asked h =
    behind_head start bytes had_token kept mirror asked h.head h.text h.begins h.framing h.says
    h.payload h.reached (Sized left) h.reads
head_goes_on start bytes had_token kept mirror (InChunks at) asked h =
    behind_head start bytes had_token kept mirror asked h.head h.text h.begins h.framing h.says
    h.payload h.reached (InChunks at) h.reads
head_goes_on start bytes had_token kept mirror Done asked h = behind_head start bytes had_token kept
    mirror asked h.head h.text h.begins h.framing h.says h.payload h.reached Done h.reads

-- ---- a body that goes on

-- the follower is in a body, of which this payload came
abbrev pub is_body : Part → Bool
is_body Head = false
is_body Closed = false
is_body part = true

pub a_body : (part : Part) → part ≢ Head → part ≢ Closed → is_body part ≡ true
a_body Head head closed = absurd (head refl)
a_body Closed head closed = absurd (closed refl)
a_body part head closed = refl

pub record InBody (start : MirrorState) (before : List ℕ) (follower : FollowerState)
    (mirror : MirrorState) : Type 0 where
  pub head : ResponseHead
  pub text : List ℕ
  pub begins : BeginsWithResponse before head text
  pub framing : BodyFraming
  pub says : verdict follower.had_token head ≡ Ok (Body framing)
  pub payload : List ℕ
  pub reads : ReadsBody framing text payload follower.part
  pub reached : HasReached start payload mirror

from_keeps : (start : MirrorState) (before : List ℕ) (standing : Standing) (had_token : Bool)
    (kept : List ℕ) (part : Part) (mirror : MirrorState)
    → ((payload : List ℕ) → Leaves start (standing_with payload part) mirror
    → HasReached start payload mirror)
    → IsInBody (record { had_token = had_token; kept = kept; part = part }) before standing
    → Leaves start standing mirror
    → InBody start before (record { had_token = had_token; kept = kept; part = part }) mirror
from_keeps start before standing had_token kept part mirror reach k leaves = record {
  head = k.head;
  text = k.text;
  begins = k.begins;
  framing = k.framing;
  says = k.says;
  payload = k.payload;
  reads = k.reads;
  reached = reach k.payload (subst (λ s. Leaves start s mirror) k.standing_is leaves);
}

pub in_body_of : (start : MirrorState) (before : List ℕ) (standing : Standing) (had_token : Bool)
    (kept : List ℕ) (part : Part) (mirror : MirrorState)
    → is_body part ≡ true
    → FollowsAt start before standing (record { had_token = had_token; kept = kept; part = part })
    mirror
    → InBody start before (record { had_token = had_token; kept = kept; part = part }) mirror
in_body_of start before standing had_token kept ToEnd mirror is f = from_keeps start before standing
    had_token kept ToEnd mirror (λ _ h. h) f.keeps f.leaves
in_body_of start before standing had_token kept (Sized left) mirror is f =
    from_keeps start before standing had_token kept (Sized left) mirror (λ _ h. h) f.keeps f.leaves
in_body_of start before standing had_token kept (InChunks at) mirror is f =
    from_keeps start before standing had_token kept (InChunks at) mirror (λ _ h. h) f.keeps f.leaves
in_body_of start before standing had_token kept Done mirror is f = from_keeps start before standing
    had_token kept Done mirror (λ _ h. h) f.keeps f.leaves
in_body_of start before standing had_token kept Head mirror is f = cc
in_body_of start before standing had_token kept Closed mirror is f = cc

pub body_goes_on : (start : MirrorState) (before piece : List ℕ) (standing : Standing)
    (had_token : Bool) (kept more : List ℕ) (part to : Part) (old new : MirrorState)
    → is_body part ≡ true
    → FollowsAt start before standing (record { had_token = had_token; kept = kept; part = part })
    old
    → BodyGoesOn part piece old new to
    → GoesOnOrRefuses start (before ++ piece) (record { had_token = had_token; kept = more; part = to }) new
    (progress to)
body_goes_on start before piece standing had_token kept other part to old new is f goes =
    let b = in_body_of start before standing had_token kept part old is f in
    let (more, reads, fed) = goes b.framing b.text b.payload b.reads in
    behind_head start (before ++ piece) had_token other new f.asked b.head (b.text ++ piece)
    (longer before piece b.head b.text b.begins) b.framing b.says
    (b.payload ++ more) (fed start b.payload b.reached) to reads

-- ---- a body with a fault

brings_behind : (had_token : Bool) (bytes : List ℕ) (head : ResponseHead) (text : List ℕ)
    (framing : BodyFraming) (payload : List ℕ)
    → BeginsWithResponse bytes head text → verdict had_token head ≡ Ok (Body framing)
    → BringsBody framing text payload → Brings had_token bytes payload
brings_behind had_token bytes head text framing payload begins says (inl h) = inl
    (stands_behind had_token bytes head text framing (in_body payload) begins says h)
brings_behind had_token bytes head text framing payload begins says (inr h) = inr
    (stands_behind had_token bytes head text framing (done payload) begins says h)

-- of which text came with the bytes before and a prefix of the piece
pub body_fails : (start : MirrorState) (had_token : Bool) (before prefix rest : List ℕ)
    (head : ResponseHead) (text : List ℕ) (framing : BodyFraming) (new : MirrorState)
    (fault : FollowFault)
    → BeginsWithResponse (before ++ prefix) head text → verdict had_token head ≡ Ok (Body framing)
    → BodyFails start framing text rest new fault
    → Fails start had_token before (prefix ++ rest) (cut_off new) fault
body_fails start had_token before prefix rest head text framing new BadChunk begins says h = (
  h.payload,
  stands_behind had_token (before ++ (prefix ++ rest)) head (text ++ rest) framing
      (failed BadChunk h.payload)
      (subst (λ t. BeginsWithResponse t head (text ++ rest)) (append_assoc before prefix rest)
      (longer (before ++ prefix) rest head text begins)) says (h.framed, h.bad),
  cut_after start h.payload new h.reached,
)
body_fails start had_token before prefix rest head text framing new (Feed FeedMemory) begins says h =
    record {
      counted = prefix ++ h.counted;
      uncounted = h.uncounted;
      whole = ap (λ t. prefix ++ t) h.whole ∙ sym (append_assoc prefix h.counted h.uncounted);
      left = inr (
        h.payload,
        brings_behind had_token (before ++ (prefix ++ h.counted)) head
            (text ++ h.counted) framing h.payload
            (subst (λ t. BeginsWithResponse t head (text ++ h.counted))
            (append_assoc before prefix h.counted)
            (longer (before ++ prefix) h.counted head text begins)) says h.brings,
        cut_again start h.payload new h.cut,
      );
    }
body_fails start had_token before prefix rest head text framing new (Feed fault) begins says h =
    record {
      prefix = print_response head ++ h.prefix;
      later = h.later;
      whole = sym (append_assoc before prefix rest) ∙ ap (λ t. t ++ rest) begins.reads.1
          ∙ append_assoc (print_response head) text rest
          ∙ ap (λ t. print_response head ++ t) h.whole
          ∙ sym (append_assoc (print_response head) h.prefix h.later);
      payload = h.payload;
      brings = brings_behind had_token (print_response head ++ h.prefix) head h.prefix framing h.payload
          (record { reads = (begins.reads.0, refl); size = begins.size }) says h.brings;
      cut = fault_again start h.payload fault new h.cut;
    }
body_fails start had_token before prefix rest head text framing new fault begins says h = absurd h

pub body_stops : (start : MirrorState) (before piece : List ℕ) (standing : Standing)
    (had_token : Bool) (kept : List ℕ) (part : Part) (old new : MirrorState) (fault : FollowFault)
    → is_body part ≡ true
    → FollowsAt start before standing (record { had_token = had_token; kept = kept; part = part })
    old
    → BodyStops part piece old new fault → Fails start had_token before piece (cut_off new) fault
body_stops start before piece standing had_token kept part old new fault is f stops =
    let b = in_body_of start before standing had_token kept part old is f in
    body_fails start had_token before [] piece b.head b.text b.framing new fault
    (subst (λ t. BeginsWithResponse t b.head b.text) (sym (append-nil before)) b.begins) b.says
    (stops start b.framing b.text b.payload b.reads b.reached)

-- ---- a head with a fault

no_head_stands : (had_token : Bool) (bytes : List ℕ) (fault : FollowFault)
    → IsNoHead had_token bytes fault → Stands had_token bytes (failed fault [])
no_head_stands had_token bytes fault h = elim h.stands [
  | inl none ↦ inl none
  | inr (head, rest, begins, says) ↦ inr
      (head, rest, begins, subst (λ v. StandsBehind v rest (failed fault [])) (sym says) refl)
]

pub head_stops : (start : MirrorState) (before piece : List ℕ) (had_token : Bool)
    (new : MirrorState) (fault : FollowFault)
    → IsUnfinished before → HeadStops had_token before piece start new fault
    → Fails start had_token before piece (cut_off new) fault
head_stops start before piece had_token new Memory unfinished h = record {
  counted = [];
  uncounted = piece;
  whole = refl;
  left = inl (
    subst (λ t. Stands had_token t in_head) (sym (append-nil before))
        (inl (unfinished.no_head, unfinished.within)),
    ap cut_off h,
  );
}
head_stops start before piece had_token new BadChunk unfinished h =
    subst (λ t. Fails start had_token before t (cut_off new) BadChunk) (sym h.split)
    (body_fails start had_token before h.prefix h.text h.head [] h.framing new BadChunk h.begins
    h.says h.fails)
head_stops start before piece had_token new (Feed fault) unfinished h =
    subst (λ t. Fails start had_token before t (cut_off new) (Feed fault)) (sym h.split)
    (body_fails start had_token before h.prefix h.text h.head [] h.framing new
    (Feed fault) h.begins h.says h.fails)
head_stops start before piece had_token new WasClosed unfinished h = absurd h
head_stops start before piece had_token new LongHead unfinished h =
    ([], no_head_stands had_token (before ++ piece) LongHead h.0, ap cut_off h.1)
head_stops start before piece had_token new BadHead unfinished h =
    ([], no_head_stands had_token (before ++ piece) BadHead h.0, ap cut_off h.1)
head_stops start before piece had_token new (Status status) unfinished h =
    ([], no_head_stands had_token (before ++ piece) (Status status) h.0, ap cut_off h.1)
head_stops start before piece had_token new BadCoding unfinished h =
    ([], no_head_stands had_token (before ++ piece) BadCoding h.0, ap cut_off h.1)
head_stops start before piece had_token new BadLength unfinished h =
    ([], no_head_stands had_token (before ++ piece) BadLength h.0, ap cut_off h.1)

-- a head that can't be followed
pub stops_in_head : (had_token : Bool) (before piece : List ℕ) (mirror : MirrorState)
    (fault : FollowFault)
    → IsNoHead had_token (before ++ piece) fault
    → HeadStops had_token before piece mirror mirror fault
stops_in_head had_token before piece mirror LongHead h = (h, refl)
stops_in_head had_token before piece mirror BadHead h = (h, refl)
stops_in_head had_token before piece mirror (Status status) h = (h, refl)
stops_in_head had_token before piece mirror BadCoding h = (h, refl)
stops_in_head had_token before piece mirror BadLength h = (h, refl)
stops_in_head had_token before piece mirror fault h = absurd h.of_head

-- a body behind a head that can't
pub stops_in_body : (had_token : Bool) (before piece : List ℕ) (old new : MirrorState)
    (fault : FollowFault) (prefix text : List ℕ) (head : ResponseHead) (framing : BodyFraming)
    → piece ≡ prefix ++ text → BeginsWithResponse (before ++ prefix) head []
    → verdict had_token head ≡ Ok (Body framing) → BodyFails old framing [] text new fault
    → HeadStops had_token before piece old new fault
stops_in_body had_token before piece old new BadChunk prefix text head framing split begins says h =
    record {
      prefix = prefix;
      text = text;
      split = split;
      head = head;
      begins = begins;
      framing =
          framing;
      says = says;
      fails = h;
    }
stops_in_body had_token before piece old new (Feed fault) prefix text head framing split begins says
    h = record {
      prefix = prefix;
      text = text;
      split = split;
      head = head;
      begins = begins;
      framing =
          framing;
      says = says;
      fails = h;
    }
stops_in_body had_token before piece old new fault prefix text head framing split begins says h =
    absurd h

-- ---- the first part of a body, and an empty response

pub first_reads : (framing : BodyFraming) → ReadsBody framing [] [] (first_part framing)
first_reads framed.ToEnd = (refl, refl)
first_reads framed.InChunks = (refl, (λ same. cc), stays LineStart)
first_reads (framed.Sized n) =
    elim (cases_Bool (n == 0)) [
      | inl none ↦ rw none (
        [],
        [],
        refl,
        (let zero : 0 ≡ n = grind (arith, nat_tests) in zero, refl),
      )
      | inr some ↦ rw some (
        ap framed.Sized (sym (zero-add n)),
        (let more : 0 < n = grind (arith, nat_tests) in more),
        refl,
      )
    ]

-- what a body part brought behind a head
pub brings_part : (had_token : Bool) (bytes : List ℕ) (old new : MirrorState) (kept : List ℕ)
    (part : Part)
    → HeadBrings had_token bytes old new part → HeadGoesOn had_token bytes old kept new part
brings_part had_token bytes old new kept ToEnd h = h
brings_part had_token bytes old new kept (Sized left) h = h
brings_part had_token bytes old new kept (InChunks at) h = h
brings_part had_token bytes old new kept Done h = h
brings_part had_token bytes old new kept Head h = absurd h.reads
brings_part had_token bytes old new kept Closed h = absurd h.reads

no_head_in_nothing : HasNoWholeResponse []
unfolding print_response
no_head_in_nothing head rest b =
    let digits = b.reads.0.digits.0 in
    let sizes = simp length-append at (ap length b.reads.1) in
    absurd (omega arith)

pub nothing_in_head : (had_token : Bool) → Stands had_token [] in_head
nothing_in_head had_token = inl (
  no_head_in_nothing,
  λ past. elim past
      [ inl long ↦ absurd (omega arith) | inr lines ↦ absurd (omega arith) ],
)

-- ---- by the part that is read

-- a response that stands in its head has an unfinished one
unfinished_of : (had_token : Bool) (bytes : List ℕ) → Stands had_token bytes in_head
    → IsUnfinished bytes
unfinished_of had_token bytes (inl (none, within)) = record { no_head = none; within = within }
unfinished_of had_token bytes (inr (head, rest, begins, h)) = absurd
    (not_behind (verdict had_token head) rest h)
  where
    not_behind : (v : Result Verdict FollowFault) (rest : List ℕ) → StandsBehind v rest in_head → ⊥
    not_behind (Ok (Body framing)) rest h = h
    not_behind (Ok Refusal) rest h = cc
    not_behind (Err fault) rest h = cc

record AtHead (start : MirrorState) (before : List ℕ) (had_token : Bool) (kept : List ℕ)
    (old : MirrorState) : Type 0 where
  unfinished : IsUnfinished kept
  same : kept ≡ before
  began : old ≡ start
  asked : had_token ≡ is_some start.since

at_head : (start : MirrorState) (before : List ℕ) (standing : Standing) (had_token : Bool)
    (kept : List ℕ) (part : Part) (old : MirrorState)
    → part ≡ Head
    → FollowsAt start before standing (record { had_token = had_token; kept = kept; part = part })
    old
    → AtHead start before had_token kept old
at_head start before standing had_token kept part old e f =
    let g = subst (λ p. FollowsAt start before standing
    (record { had_token = had_token; kept = kept; part = p }) old) e f in
    let stands = subst (λ s. Stands had_token before s) g.keeps.1 g.stands in
    record {
      unfinished = subst IsUnfinished (sym g.keeps.0) (unfinished_of had_token before stands);
      same = g.keeps.0;
      began = subst (λ s. Leaves start s old) g.keeps.1 g.leaves;
      asked = g.asked;
    }

module _ (start : MirrorState) (before : List ℕ) (standing : Standing) (had_token : Bool)
    (kept : List ℕ) (part : Part) (old : MirrorState)
    (f : FollowsAt start before standing
    (record { had_token = had_token; kept = kept; part = part }) old)
    (r : Result Part FollowFault) (piece more : List ℕ) (new : MirrorState) where
  pub head_ok : part ≡ Head
      → (IsUnfinished kept → IfOk r (HeadGoesOn had_token (kept ++ piece) old more new))
      → IfOk r (λ to. GoesOnOrRefuses start (before ++ piece)
      (record { had_token = had_token; kept = more; part = to }) new (progress to))
  head_ok e h =
      let a = at_head start before standing had_token kept part old e f in
      IfOk-weaker r (HeadGoesOn had_token (kept ++ piece) old more new)
      (λ to. GoesOnOrRefuses start (before ++ piece)
      (record { had_token = had_token; kept = more; part = to }) new (progress to))
      (λ to goes. head_goes_on start (before ++ piece) had_token more new to a.asked
      (subst (λ x. HeadGoesOn had_token (x ++ piece) start more new to) a.same
      (subst (λ m. HeadGoesOn had_token (kept ++ piece) m more new to) a.began goes)))
      (h a.unfinished)

  pub head_err : part ≡ Head
      → (IsUnfinished kept → IfErr r (HeadStops had_token kept piece old new))
      → IfErr r (Fails start had_token before piece (cut_off new))
  head_err e h =
      let a = at_head start before standing had_token kept part old e f in
      MatchResult-weaker r (h a.unfinished) (λ _ x. x)
      (λ fault stops. head_stops start before piece had_token new fault
      (subst IsUnfinished a.same a.unfinished)
      (subst (λ x. HeadStops had_token x piece start new fault) a.same
      (subst (λ m. HeadStops had_token kept piece m new fault) a.began stops)))

  pub body_ok : part ≢ Head → part ≢ Closed → IfOk r (BodyGoesOn part piece old new)
      → IfOk r (λ to. GoesOnOrRefuses start (before ++ piece)
      (record { had_token = had_token; kept = more; part = to }) new (progress to))
  body_ok head closed h =
      IfOk-weaker r (BodyGoesOn part piece old new)
      (λ to. GoesOnOrRefuses start (before ++ piece)
      (record { had_token = had_token; kept = more; part = to }) new (progress to))
      (λ to goes. body_goes_on start before piece standing had_token kept more part to old new
      (a_body part head closed) f goes) h

  pub body_err : part ≢ Head → part ≢ Closed → IfErr r (BodyStops part piece old new)
      → IfErr r (Fails start had_token before piece (cut_off new))
  body_err head closed h = MatchResult-weaker r h (λ _ x. x)
      (λ fault stops. body_stops start before piece standing had_token kept part old new fault
      (a_body part head closed) f stops)

-- ---- a head that is whole

pub refuses : (had_token : Bool) (kept piece : List ℕ) (len : ℕ) (found : WholeHead)
    (old new : MirrorState)
    → IsHeadRead had_token (kept ++ take len piece) found → found.says ≡ Refusal
    → new ≡ cut_off old → HeadRefuses had_token (kept ++ piece) old new
refuses had_token kept piece len found old new h is cut = record {
  head = h.head;
  rest = drop found.len (kept ++ take len piece) ++ drop len piece;
  begins = found_in_piece had_token kept piece len found h;
  says = h.says ∙ ap (λ (v : Verdict). Ok v) is;
  cut = cut;
}

module _ (had_token : Bool) (kept piece : List ℕ) (len : ℕ) (found : WholeHead)
    (framing : BodyFraming) (part : Part) (s : ℕ) (old mid new : MirrorState)
    (unfinished : IsUnfinished kept) (h : IsHeadRead had_token (kept ++ take len piece) found)
    (is : found.says ≡ Body framing)
    (first : part ≡ first_part framing) (at : s ≡ found.len - length kept)
    (began : HasReached old [] mid) where
  begins : (w : ResponseHead)
      → BeginsWithResponse (kept ++ take (found.len - length kept) piece) w []
      → BeginsWithResponse (kept ++ take s piece) w []
  begins w b = subst (λ n. BeginsWithResponse (kept ++ take n piece) w []) (sym at) b

  first_is : ReadsBody framing [] [] part
  first_is = subst (ReadsBody framing [] []) (sym first) (first_reads framing)

  pub whole_goes_on : (more : List ℕ) (to : Part)
      → BodyGoesOn part (take (length piece - s) (drop s piece)) mid new to
      → HeadGoesOn had_token (kept ++ piece) old more new to
  whole_goes_on more to goes =
      let w = whole_at had_token kept piece len found unfinished h in
      let (payload, reads, fed) = subst (λ t. BodyGoesOn part t mid new to)
      (to_the_end s piece) goes framing [] [] first_is in
      brings_part had_token (kept ++ piece) old new more to (record {
        head = w.head;
        text = drop s piece;
        begins = subst (λ t. BeginsWithResponse t w.head (drop s piece))
            (append_assoc kept (take s piece) (drop s piece)
            ∙ ap (λ t. kept ++ t) (take-append-drop s piece))
            (longer (kept ++ take s piece) (drop s piece) w.head [] (begins w.head w.begins));
        framing = framing;
        says = w.says ∙ ap (λ (v : Verdict). Ok v) is;
        payload = payload;
        reads = reads;
        reached = fed old [] began;
      })

  pub whole_stops : (fault : FollowFault)
      → BodyStops part (take (length piece - s) (drop s piece)) mid new fault
      → HeadStops had_token kept piece old new fault
  whole_stops fault stops =
      let w = whole_at had_token kept piece len found unfinished h in
      stops_in_body had_token kept piece old new fault (take s piece) (drop s piece) w.head framing
      (sym (take-append-drop s piece)) (begins w.head w.begins)
      (w.says ∙ ap (λ (v : Verdict). Ok v) is)
      (subst (λ t. BodyStops part t mid new fault) (to_the_end s piece) stops old framing [] []
      first_is began)

pub is_some_copied : {T : Type 0} → (o : Option (Bor T)) → is_some o ≡ is_some (option_copied o)
is_some_copied None = refl
is_some_copied (Some x) = refl
