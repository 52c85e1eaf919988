-- How far a response has come that is followed.
use Rattle.std.proofs.Common.{◌≡◌, ◌≢◌, inl, inr, ◌≤◌, ℕ, Bool, List, [], ◌++◌, length, take}
use Rattle.std.proofs.Common.{append-nil, refl, sym, ap, ◌∙◌, subst, Option}
use Rattle.std.specs.Prelude.{is_some, Ok, Err, Result}
use Rattle.std.specs.Io.KnownBytes.{Consumes, IsAtEnd, Keeps}
use Rattle.std.proofs.KnownBytes.{Consumes-nil, Consumes-trans, Consumes-kept}
use Rattle.httparse.specs.Grammar.{ResponseHead, ReadsResponse, NeverHasResponse}
use Rattle.feed_node.specs.declared.fault.FeedFault.TheVariants.{Memory as FeedMemory}
use Rattle.feed_node.specs.Mirroring.{MirrorState, cut_off}
use Rattle.feed_follow.specs.declared.fault.FollowFault.{FollowFault}
use Rattle.feed_follow.specs.declared.fault.FollowFault.TheVariants.{LongHead, BadHead, Status}
use Rattle.feed_follow.specs.declared.fault.FollowFault.TheVariants.{BadCoding, BadLength, BadChunk}
use Rattle.feed_follow.specs.declared.fault.FollowFault.TheVariants.{Closed, Feed, Memory}
use Rattle.feed_follow.specs.declared.fault.Progress.TheVariants as reached
use Rattle.feed_follow.specs.Standing.{Standing, in_head, token_refused, in_body, done, failed}
use Rattle.feed_follow.specs.Standing.{Stands}
use Rattle.feed_follow.specs.Following.{Fails, HasLostSome}
use Rattle.feed_follow.specs.Follower.{FollowerState, FollowsAt, GoesOn}
use Rattle.feed_follow.specs.Laws.{StandsOnce}
use Rattle.feed_http.specs.declared.fault.EngineFault.{EngineFault}
use Rattle.feed_http.specs.declared.fault.EngineFault.TheVariants as fault
use Rattle.feed_http.specs.declared.fault.Followed.{Followed}
use Rattle.feed_http.specs.declared.fault.Followed.TheVariants.{Early, Ended, Done, TokenRefused}
use Rattle.feed_http.specs.Exchange.{Gave}
use Rattle.feed_http.specs.HeadReading.{read_bytes}
use Rattle.feed_http.specs.Following.{IsGoingOn, CameAsNeeded, nothing_came, more_came}
use Rattle.feed_http.specs.Following.{HasCome, EndsAs, MetFault, Comes, Follows}

-- a response goes on, its follower stands behind what came, and this is answered if no more comes
pub record GoesOnAt (source left : Option (List ℕ)) (start : MirrorState) (at_end : Followed)
    (follower : FollowerState) (mirror : MirrorState) : Type 0 where
  pub bytes : List ℕ
  pub standing : Standing
  pub going : IsGoingOn standing
  pub ends : (end : Option (List ℕ)) → IsAtEnd end → EndsAs standing end at_end
  pub given : Consumes source left bytes
  pub needed : CameAsNeeded (is_some start.since) bytes
  pub follows : FollowsAt start bytes standing follower mirror

pub goes_at_first : (source : Option (List ℕ)) (start : MirrorState) (follower : FollowerState)
    → FollowsAt start [] in_head follower start
    → GoesOnAt source source start Early follower start
goes_at_first source start follower follows = record {
  bytes = [];
  standing = in_head;
  going = tt;
  ends = λ end h. (refl, h);
  given = Consumes-nil source;
  needed = nothing_came;
  follows = follows;
}

stands_with : (start : MirrorState) (bytes : List ℕ) (standing : Standing)
    (follower : FollowerState) (mirror : MirrorState)
    → FollowsAt start bytes standing follower mirror
    → Stands (is_some start.since) bytes standing
stands_with start bytes standing follower mirror f =
    subst (λ b. Stands b bytes standing) f.asked f.stands

has_come : (source left : Option (List ℕ)) (start : MirrorState) (bytes : List ℕ)
    (standing : Standing) (follower : FollowerState) (mirror : MirrorState)
    → Consumes source left bytes → CameAsNeeded (is_some start.since) bytes
    → FollowsAt start bytes standing follower mirror → HasCome source left start standing mirror
has_come source left start bytes standing follower mirror given needed f = record {
  bytes = bytes;
  given = given;
  needed = needed;
  stands = stands_with start bytes standing follower mirror f;
  leaves = f.leaves;
}

-- where no more of it comes
pub broke_off : (source middle left : Option (List ℕ)) (start : MirrorState) (at_end : Followed)
    (follower : FollowerState) (mirror : MirrorState)
    → GoesOnAt source middle start at_end follower mirror → Keeps middle left
    → (standing : Standing) × IsGoingOn standing × HasCome source left start standing mirror
broke_off source middle left start at_end follower mirror g keeps =
    let given = Consumes-kept source middle left g.bytes g.given keeps in (
      g.standing,
      g.going,
      has_come source left start g.bytes g.standing follower mirror given g.needed g.follows,
    )

-- where the reader has no more
pub ended : (source middle left : Option (List ℕ)) (start : MirrorState) (at_end : Followed)
    (follower : FollowerState) (mirror : MirrorState) (buf : List ℕ) (n : ℕ)
    → GoesOnAt source middle start at_end follower mirror → n ≡ 0
    → Consumes middle left (take n buf) → IsAtEnd left
    → (standing : Standing) × EndsAs standing left at_end
    × HasCome source left start standing mirror
ended source middle left start at_end follower mirror buf n g none taken end =
    let nothing : Consumes middle left [] =
    subst (λ k. Consumes middle left (take k buf)) none taken in
    let both = Consumes-trans source middle left g.bytes [] g.given nothing in
    let given = subst (Consumes source left) (append-nil g.bytes) both in (
      g.standing,
      g.ends left end,
      has_come source left start g.bytes g.standing follower mirror given g.needed g.follows,
    )

module _ (source middle left : Option (List ℕ)) (start : MirrorState) (at_end : Followed)
    (follower : FollowerState) (mirror : MirrorState)
    (goes : GoesOnAt source middle start at_end follower mirror) (piece : List ℕ)
    (given : Consumes middle left piece) (short : length piece ≤ read_bytes) where
  all_given : Consumes source left (goes.bytes ++ piece)
  all_given = Consumes-trans source middle left goes.bytes piece goes.given given

  stands : Stands (is_some start.since) goes.bytes goes.standing
  stands = stands_with start goes.bytes goes.standing follower mirror goes.follows

  all_needed : CameAsNeeded (is_some start.since) (goes.bytes ++ piece)
  all_needed = more_came goes.bytes piece goes.standing goes.needed stands goes.going short

  come : (standing : Standing) (f : FollowerState) (m : MirrorState)
      → FollowsAt start (goes.bytes ++ piece) standing f m → HasCome source left start standing m
  come standing f m follows =
      has_come source left start (goes.bytes ++ piece) standing f m all_given all_needed follows

  -- a piece behind which the response goes on
  pub on_in_head : (f : FollowerState) (m : MirrorState)
      → GoesOn start (goes.bytes ++ piece) f m reached.Head
      → GoesOnAt source left start Early f m
  on_in_head f m (in_head, answer, follows) = record {
    bytes = goes.bytes ++ piece;
    standing = in_head;
    going = tt;
    ends = λ end h. (refl, h);
    given = all_given;
    needed = all_needed;
    follows = follows;
  }
  on_in_head f m (token_refused, is, follows) =
      let e : reached.Head ≡ reached.TokenRefused = is in cc
  on_in_head f m (in_body payload, is, follows) = let e : reached.Head ≡ reached.Body = is in cc
  on_in_head f m (done payload, is, follows) = let e : reached.Head ≡ reached.Done = is in cc
  on_in_head f m (failed fault payload, is, follows) = absurd is

  pub on_in_body : (f : FollowerState) (m : MirrorState)
      → GoesOn start (goes.bytes ++ piece) f m reached.Body
      → GoesOnAt source left start Ended f m
  on_in_body f m (in_body payload, answer, follows) = record {
    bytes = goes.bytes ++ piece;
    standing = in_body payload;
    going = tt;
    ends = λ end h. (refl, h);
    given = all_given;
    needed = all_needed;
    follows = follows;
  }
  on_in_body f m (in_head, is, follows) = let e : reached.Body ≡ reached.Head = is in cc
  on_in_body f m (token_refused, is, follows) =
      let e : reached.Body ≡ reached.TokenRefused = is in cc
  on_in_body f m (done payload, is, follows) = let e : reached.Body ≡ reached.Done = is in cc
  on_in_body f m (failed fault payload, is, follows) = absurd is

  -- a piece with which the response is over
  pub over_done : (f : FollowerState) (m : MirrorState)
      → GoesOn start (goes.bytes ++ piece) f m reached.Done
      → (standing : Standing) × EndsAs standing left Done × HasCome source left start standing m
  over_done f m (done payload, is, follows) = (done payload, refl, come (done payload) f m follows)
  over_done f m (in_head, is, follows) = let e : reached.Done ≡ reached.Head = is in cc
  over_done f m (token_refused, is, follows) =
      let e : reached.Done ≡ reached.TokenRefused = is in cc
  over_done f m (in_body payload, is, follows) = let e : reached.Done ≡ reached.Body = is in cc
  over_done f m (failed fault payload, is, follows) = absurd is

  pub over_refused : (f : FollowerState) (m : MirrorState)
      → GoesOn start (goes.bytes ++ piece) f m reached.TokenRefused
      → (standing : Standing) × EndsAs standing left TokenRefused
      × HasCome source left start standing m
  over_refused f m (token_refused, is, follows) =
      (token_refused, refl, come token_refused f m follows)
  over_refused f m (in_head, is, follows) = let e : reached.TokenRefused ≡ reached.Head = is in cc
  over_refused f m (in_body payload, is, follows) =
      let e : reached.TokenRefused ≡ reached.Body = is in cc
  over_refused f m (done payload, is, follows) =
      let e : reached.TokenRefused ≡ reached.Done = is in cc
  over_refused f m (failed fault payload, is, follows) = absurd is

  -- a piece with a fault
  pub met : (m : MirrorState) (fault : FollowFault)
      → Fails start follower.had_token goes.bytes piece m fault
      → MetFault source left start m fault
  met m fault fails = record {
    before = goes.bytes;
    piece = piece;
    given = all_given;
    needed = goes.needed;
    standing = goes.standing;
    stands = stands;
    going = goes.going;
    short = short;
    fails = subst (λ b. Fails start b goes.bytes piece m fault) goes.follows.asked fails;
  }

-- ---- a fault of the response

not_there : (bytes : List ℕ) → NeverHasResponse bytes → (head : ResponseHead) (rest : List ℕ)
    → ¬ (ReadsResponse bytes head rest)
not_there bytes never head rest reads =
    never [] head rest (subst (λ t. ReadsResponse t head rest) (sym (append-nil bytes)) reads)

-- where a response goes on its token isn't refused
not_refused : (had_token : Bool) (bytes : List ℕ) (standing : Standing) → StandsOnce
    → IsGoingOn standing → Stands had_token bytes standing
    → Stands had_token bytes token_refused → ⊥
not_refused had_token bytes standing once going so (inl (_, refused)) = refused
not_refused had_token bytes standing once going so (inr (head, rest, begins, refused)) =
    elim (once had_token bytes standing token_refused so (inr (head, rest, begins, refused))) [
      | inl same ↦ subst IsGoingOn same going
      | inr never ↦ not_there bytes never head rest begins.reads
    ]

-- so a push there answers something else
pub not_closed : (start : MirrorState) (had_token : Bool) (before piece : List ℕ)
    (standing : Standing) (m : MirrorState) (fault : FollowFault) → StandsOnce
    → IsGoingOn standing → Stands had_token before standing
    → Fails start had_token before piece m fault → fault ≢ Closed
not_closed start had_token before piece standing m fault once going so fails is =
    let refused = subst (Fails start had_token before piece m) is fails in
    not_refused had_token before standing once going so refused.0

lost_cuts : (start : MirrorState) (had_token : Bool) (before piece : List ℕ) (m : MirrorState)
    → HasLostSome start had_token before piece m → cut_off m ≡ m
lost_cuts start had_token before piece m h = elim h.left [
  | inl (_, is) ↦ ap cut_off is ∙ sym is
  | inr (payload, brings, cut) ↦ ap cut_off cut.state ∙ sym cut.state
]

-- a mirror that met a fault is cut already
fault_cuts : (start : MirrorState) (had_token : Bool) (before piece : List ℕ) (m : MirrorState)
    (fault : FollowFault) → Fails start had_token before piece m fault → cut_off m ≡ m
fault_cuts start had_token before piece m Memory h = lost_cuts start had_token before piece m h
fault_cuts start had_token before piece m (Feed FeedMemory) h =
    lost_cuts start had_token before piece m h
fault_cuts start had_token before piece m (Feed fault) h = ap cut_off h.cut.state ∙ sym h.cut.state
fault_cuts start had_token before piece m Closed h = ap cut_off h.1 ∙ sym h.1
fault_cuts start had_token before piece m BadChunk (_, _, h) =
    ap cut_off h.state ∙ sym h.state
fault_cuts start had_token before piece m LongHead (_, _, h) = ap cut_off h ∙ sym h
fault_cuts start had_token before piece m BadHead (_, _, h) = ap cut_off h ∙ sym h
fault_cuts start had_token before piece m (Status status) (_, _, h) =
    ap cut_off h ∙ sym h
fault_cuts start had_token before piece m BadCoding (_, _, h) = ap cut_off h ∙ sym h
fault_cuts start had_token before piece m BadLength (_, _, h) = ap cut_off h ∙ sym h

met_is_cut : (source left : Option (List ℕ)) (start m : MirrorState) (fault : FollowFault)
    → MetFault source left start m fault → MetFault source left start (cut_off m) fault
met_is_cut source left start m fault met =
    let same = fault_cuts start (is_some start.since) met.before met.piece m fault met.fails in
    subst (λ n. MetFault source left start n fault) (sym same) met

-- how following ends is how the response came, and then the mirror is cut
pub cut_behind : (most_reads : ℕ) (gave : Gave) (start m n : MirrorState)
    (told : Result Followed EngineFault) → n ≡ cut_off m → Comes most_reads gave start told m
    → Follows most_reads gave start told n
cut_behind most_reads gave start m n (Ok f) is (standing, ends, came) = (standing, ends, (m, came, is))
cut_behind most_reads gave start m n (Err fault.Read) is (standing, going, came) =
    (standing, going, (m, came, is))
cut_behind most_reads gave start m n (Err fault.TooManyReads) is ((standing, going, came), count) =
    ((standing, going, (m, came, is)), count)
cut_behind most_reads gave start m n (Err (fault.Follow why)) is (other, has) = (
  other,
  subst (λ k. MetFault gave.source gave.left start k why) (sym is)
      (met_is_cut gave.source gave.left start m why has),
)
cut_behind most_reads gave start m n (Err fault.Write) is none = absurd none
cut_behind most_reads gave start m n (Err fault.Memory) is none = absurd none
cut_behind most_reads gave start m n (Err (fault.Commit why)) is none = absurd none
