-- A refusal that is followed whole: the token is refused, or there is a status; or memory runs out.
use Rattle.std.proofs.Common.{◌≡◌, refl, sym, ap, ◌∙◌, subst, ℕ, ◌+◌, ◌<◌, Bool, true, false, ◌&&◌, arith, List, [], ◌++◌, length, take, length-append, inl, inr, is_some, nat_lt, ltb-true, ltb-false}
use Rattle.std.specs.Prelude.{if◌then◌else◌, ◌==◌}
use Rattle.std.proofs.lemmas.List.{take_all}
use Rattle.feed_node.specs.declared.fault.FeedFault.{FeedFault}
use Rattle.feed_node.specs.declared.fault.FeedFault.TheVariants.{NotOpen, LongLine, Line as BadLine, StageFull, Memory as FeedMemory}
use Rattle.feed_node.specs.Mirroring.{MirrorState, cut_off}
use Rattle.feed_follow.specs.declared.fault.FollowFault.{FollowFault}
use Rattle.feed_follow.specs.declared.fault.FollowFault.TheVariants.{Closed, LongHead, BadHead, Status, BadCoding, BadLength, BadChunk, Feed, Memory as FollowMemory}
use Rattle.feed_follow.specs.declared.fault.Progress.{Progress}
use Rattle.feed_follow.specs.Follower.{FollowerState, GoesOn}
use Rattle.feed_follow.specs.Following.{Leaves, Answers, HasBadLine, HasLostSome, Fails}
use Rattle.feed_follow.specs.Standing.{Standing, in_head, token_refused, in_body, done, failed, Stands}
use Rattle.feed_wire.specs.declared.refusal.Refusal.{Refusal}
use Rattle.feed_wire.specs.Answer.{refusal_code, refusal_head, refusal_body, refusal_text}
use Rattle.feed_answer.specs.Carried.{refusal_standing, refusal_at}
use Rattle.feed_answer.specs.FollowLaws.{RefusalsAreFollowed}
use Rattle.feed_world.specs.declared.event.Reply.TheVariants.{Refused, NotYet}
use Rattle.feed_world.specs.States.{FollowsRefusal, refusal_reply}
use Rattle.feed_world.proofs.Brought.{prefix_is}

-- a refusal has no body that is followed, and no other fault than its status
abbrev pub IsOfRefusal : Standing → Type 0
IsOfRefusal in_head = Unit {0}
IsOfRefusal token_refused = Unit {0}
IsOfRefusal (in_body payload) = ⊥
IsOfRefusal (done payload) = ⊥
IsOfRefusal (failed (Status n) payload) = Unit {0}
IsOfRefusal (failed fault payload) = ⊥

standing_of : (refusal : Refusal) (had : Bool) → IsOfRefusal (refusal_standing had refusal)
standing_of refusal had = by ((refusal_code refusal == 400) && had)
  where
    by : (b : Bool) → IsOfRefusal (if b then token_refused else failed (Status (refusal_code refusal)) [])
    by true = tt
    by false = tt

pub at_of : (refusal : Refusal) (had : Bool) (n : ℕ) → IsOfRefusal (refusal_at had refusal n)
at_of refusal had n = by (nat_lt n (length (refusal_head refusal)))
  where
    by : (b : Bool) → IsOfRefusal (if b then in_head else refusal_standing had refusal)
    by true = tt
    by false = standing_of refusal had

module _ (refusals : RefusalsAreFollowed) (refusal : Refusal) (old : MirrorState) (reader : FollowerState) (bytes : List ℕ) (is : bytes ≡ refusal_text refusal) where
  -- the whole of it stands in one way
  whole : (had : Bool) (q : Standing) → Stands had bytes q → q ≡ refusal_standing had refusal
  whole had q st =
      let n = length (refusal_text refusal) in
      let a = length-append (refusal_head refusal) (refusal_body refusal) in
      (refusals refusal n had).only q (subst (λ t. Stands had t q) (is ∙ sym (take_all n (refusal_text refusal) (omega arith))) st)
      ∙ by (nat_lt n (length (refusal_head refusal))) refl a
    where
      by : (b : Bool) → nat_lt (length (refusal_text refusal)) (length (refusal_head refusal)) ≡ b → length (refusal_text refusal) ≡ length (refusal_head refusal) + length (refusal_body refusal)
          → (if b then in_head else refusal_standing had refusal) ≡ refusal_standing had refusal
      by true e a = let less = ltb-true _ _ e in absurd (omega (arith, less, a))
      by false e a = refl

  -- a prefix of it stands so
  of_prefix : (had : Bool) (prefix behind : List ℕ) (q : Standing) → prefix ++ behind ≡ bytes → Stands had prefix q → IsOfRefusal q
  of_prefix had prefix behind q e st =
      let n = length prefix in
      let same : prefix ≡ take n (refusal_text refusal) = sym (prefix_is prefix behind (refusal_text refusal) (e ∙ is)) in
      subst IsOfRefusal (sym ((refusals refusal n had).only q (subst (λ t. Stands had t q) same st))) (at_of refusal had n)

  of_whole : (had : Bool) (q : Standing) → Stands had bytes q → IsOfRefusal q
  of_whole had q st = subst IsOfRefusal (sym (whole had q st)) (standing_of refusal had)

  -- nothing is wrong: the token is refused
  pub went_on : reader.had_token ≡ is_some old.since → (follower : FollowerState) (new : MirrorState) (answer : Progress) (number : ℕ) → follower.had_token ≡ reader.had_token
      → GoesOn old ([] ++ bytes) follower new answer → FollowsRefusal refusal number old Refused new
  went_on asked follower new answer number same (now, answers, follows) =
      let stands = follows.stands in
      let is_now : now ≡ refusal_standing (is_some old.since) refusal = whole (is_some old.since) now (subst (λ h. Stands h bytes now) follows.asked stands) in
      by ((refusal_code refusal == 400) && is_some old.since) refl (subst (λ q. Leaves old q new) is_now follows.leaves) (subst (λ q. Answers q answer) is_now answers)
    where
      by : (b : Bool) → ((refusal_code refusal == 400) && is_some old.since) ≡ b → Leaves old (if b then token_refused else failed (Status (refusal_code refusal)) []) new
          → Answers (if b then token_refused else failed (Status (refusal_code refusal)) []) answer → FollowsRefusal refusal number old Refused new
      by true e leaves answers = inl (ap (λ b. if b then token_refused else failed (Status (refusal_code refusal)) []) e, refl, leaves)
      by false e leaves answers = absurd answers

  lost : (new : MirrorState) → HasLostSome old reader.had_token [] bytes new → new ≡ cut_off old
  lost new l =
      elim l.left [
        | inl head ↦ head.1
        | inr body ↦ elim body.1 [
          | inl going ↦ absurd (of_prefix reader.had_token l.counted l.uncounted (in_body body.0) (sym l.whole) going)
          | inr ended ↦ absurd (of_prefix reader.had_token l.counted l.uncounted (done body.0) (sym l.whole) ended)
        ]
      ]

  no_bad_line : (fault : FeedFault) (new : MirrorState) → HasBadLine old reader.had_token ([] ++ bytes) fault new → ⊥
  no_bad_line fault new l =
      elim l.brings [
        | inl going ↦ of_prefix reader.had_token l.prefix l.later (in_body l.payload) (sym l.whole) going
        | inr ended ↦ of_prefix reader.had_token l.prefix l.later (done l.payload) (sym l.whole) ended
      ]

  -- before the first byte it stands in its head
  never_first : Stands reader.had_token [] token_refused → ⊥
  never_first st = by (nat_lt 0 (length (refusal_head refusal))) refl ((refusals refusal 0 reader.had_token).only token_refused st) (some_head refusal)
    where
      some_head : (refusal : Refusal) → 0 < length (refusal_head refusal)
      some_head refusal = omega arith

      by : (b : Bool) → nat_lt 0 (length (refusal_head refusal)) ≡ b → token_refused ≡ (if b then in_head else refusal_standing reader.had_token refusal) → 0 < length (refusal_head refusal) → ⊥
      by true e same some = absurd (cc)
      by false e same some = let none = ltb-false _ _ e in omega (arith, none, some)

  -- a fault: the status, or a want of memory
  pub met : reader.had_token ≡ is_some old.since → (fault : FollowFault) (new : MirrorState) (number : ℕ) → Fails old reader.had_token [] bytes new fault
      → FollowsRefusal refusal number old (refusal_reply number fault) new
  met asked FollowMemory new number l = inr (inr ((FollowMemory, refl, tt), lost new l))
  met asked (Feed FeedMemory) new number l = inr (inr ((Feed FeedMemory, refl, tt), lost new l))
  met asked (Feed NotOpen) new number l = absurd (no_bad_line NotOpen new l)
  met asked (Feed LongLine) new number l = absurd (no_bad_line LongLine new l)
  met asked (Feed (BadLine fault)) new number l = absurd (no_bad_line (BadLine fault) new l)
  met asked (Feed StageFull) new number l = absurd (no_bad_line StageFull new l)
  met asked Closed new number l = absurd (never_first l.0)
  met asked LongHead new number l = absurd (of_whole reader.had_token (failed LongHead l.0) l.1)
  met asked BadHead new number l = absurd (of_whole reader.had_token (failed BadHead l.0) l.1)
  met asked BadCoding new number l = absurd (of_whole reader.had_token (failed BadCoding l.0) l.1)
  met asked BadLength new number l = absurd (of_whole reader.had_token (failed BadLength l.0) l.1)
  met asked BadChunk new number l = absurd (of_whole reader.had_token (failed BadChunk l.0) l.1)
  met asked (Status n) new number l =
      let is_now = whole (is_some old.since) (failed (Status n) l.0) (subst (λ h. Stands h bytes (failed (Status n) l.0)) asked l.1) in
      by ((refusal_code refusal == 400) && is_some old.since) refl is_now
    where
      by : (b : Bool) → ((refusal_code refusal == 400) && is_some old.since) ≡ b → failed (Status n) l.0 ≡ (if b then token_refused else failed (Status (refusal_code refusal)) [])
          → FollowsRefusal refusal number old NotYet new
      by true e same = absurd (cc)
      by false e same = inr (inl (ap (λ b. if b then token_refused else failed (Status (refusal_code refusal)) []) e, refl, l.2))
