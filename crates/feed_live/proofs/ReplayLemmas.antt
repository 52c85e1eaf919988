-- A replay that came whole ends at a state of the log, whatever it went through.
use Rattle.std.proofs.Common.{◌≡◌, ◌⊎◌, inl, inr, refl, sym, ap, ◌∙◌, subst, ℕ, arith, false, true≢false, List, [], ◌∷◌, ◌++◌, append-nil, length, length-append, is_some}
use Rattle.feed_settings.specs.Limits.{Limits}
use Rattle.feed_node.specs.declared.fault.FeedFault.{FeedFault}
use Rattle.feed_node.specs.declared.fault.FeedFault.TheVariants.{NotOpen, LongLine, Line as BadLine, StageFull, Memory}
use Rattle.feed_node.specs.Mirroring.{MirrorState, present_opening}
use Rattle.feed_node.specs.Reading.{Reads, reads, keep_latest}
use Rattle.feed_node.specs.Steps.{ReadingIsOne}
use Rattle.feed_follow.specs.Carrying.{HasPayload, IsFeedOf, FeedsCarryText}
use Rattle.feed_follow.specs.declared.fault.FollowFault.{FollowFault}
use Rattle.feed_follow.specs.declared.fault.FollowFault.TheVariants.{Closed, LongHead, BadHead, Status, BadCoding, BadLength, BadChunk, Feed, Memory as FollowMemory}
use Rattle.feed_follow.specs.Following.{HasReached, IsCutAfter, Leaves, Brings, HasBadLine, Fails}
use Rattle.feed_wire.specs.ResponseHeads.{BeginsWithResponse}
use Rattle.feed_follow.specs.Laws.{StandsOnce}
use Rattle.feed_follow.specs.Standing.{Standing, in_head, token_refused, in_body, done, failed, Stands, StandsBehind}
use Rattle.feed_world.specs.Log.{Log}
use Rattle.feed_live.proofs.StateLemmas.{of_log}
use Rattle.feed_live.specs.Telling.{Replays, ReplayIsHonest}
use Rattle.feed_live.specs.Upstream.{AsksInLog, IsOfLog, wants_memory, EndsInLog, IsHonestAs}

all_of : (xs ys zs : List ℕ) → xs ++ ys ≡ zs → length xs ≡ length zs → xs ≡ zs
all_of xs [] zs e n = sym (append-nil xs) ∙ e
all_of xs (y ∷ ys) zs e n = let l = ap length e in let s = length-append xs (y ∷ ys) in absurd (omega (arith, l, s, n))

module _ (once : StandsOnce) (carry : FeedsCarryText) (one : ReadingIsOne) (limits : Limits) (log : Log) (begun : MirrorState) (received text : List ℕ)
    (asks : AsksInLog limits log begun) (is_feed : IsFeedOf (is_some begun.since) received text) (replays : Replays log begun text) where
  as_begun : (mirror : MirrorState) → mirror.node ≡ begun.node → IsOfLog log mirror.node.published
  as_begun mirror same = subst (λ n. IsOfLog log n.published) (sym same) (of_log limits log begun.node (asks.place, asks.is_place, ap (λ o. o.before) asks.asks.opening))

  abbrev standing : Standing
  standing = is_feed.brings.0

  stands : Stands (is_some begun.since) received standing
  stands = inr (is_feed.head, is_feed.body, is_feed.begins, subst (λ v. StandsBehind v is_feed.body standing) (sym is_feed.says) is_feed.brings.1)

  -- the payload of all that was received is the text
  brought : (other : Standing) → Stands (is_some begun.since) received other → HasPayload other text
  brought other there =
      by (λ same. subst (λ s. HasPayload s text) same is_feed.brings.2)
      (λ never. absurd (never [] is_feed.head is_feed.body (subst (λ b. BeginsWithResponse b is_feed.head is_feed.body) (sym (append-nil received)) is_feed.begins).reads))
      (once (is_some begun.since) received standing other stands there)
    where
      by : {A B C : Type 0} → (A → C) → (B → C) → A ⊎ B → C
      by one other (inl a) = one a
      by one other (inr b) = other b

  ended : (payload : List ℕ) (mirror : MirrorState) → text ≡ payload → IsCutAfter begun payload mirror → IsOfLog log mirror.node.published
  ended payload mirror is cut =
      subst (λ m. IsOfLog log m.node.published) (sym cut.state) (replays.ends cut.notes (subst (λ t. Reads begun.limits (present_opening begun) t cut.notes) (sym is) cut.nothing_bad))

  reached : (payload : List ℕ) (mirror : MirrorState) → text ≡ payload → HasReached begun payload mirror → IsOfLog log mirror.node.published
  reached payload mirror is h =
      let read : Reads begun.limits (present_opening begun) payload h.notes = subst (λ l. Reads l (present_opening begun) payload h.notes) h.limits h.stands.nothing_bad in
      let node : mirror.node ≡ keep_latest mirror.limits.history (reads mirror.limits.history (present_opening begun) h.notes) = ap (λ m. m.node) h.stands.state in
      let same : mirror.node ≡ keep_latest begun.limits.history (reads begun.limits.history (present_opening begun) h.notes) =
      node ∙ ap (λ l. keep_latest l.history (reads l.history (present_opening begun) h.notes)) h.limits in
      subst (λ n. IsOfLog log n.published) (sym same) (replays.ends h.notes (subst (λ t. Reads begun.limits (present_opening begun) t h.notes) (sym is) read))

  left : (other : Standing) (mirror : MirrorState) → Stands (is_some begun.since) received other → Leaves begun other mirror → IsOfLog log mirror.node.published
  left in_head mirror there e = as_begun mirror (ap (λ m. m.node) e)
  left token_refused mirror there e = as_begun mirror (ap (λ m. m.node) e)
  left (in_body payload) mirror there h = reached payload mirror (brought (in_body payload) there) h
  left (done payload) mirror there h = reached payload mirror (brought (done payload) there) h
  left (failed BadChunk payload) mirror there h = ended payload mirror (brought (failed BadChunk payload) there) h
  left (failed Closed payload) mirror there e = as_begun mirror (ap (λ m. m.node) e)
  left (failed LongHead payload) mirror there e = as_begun mirror (ap (λ m. m.node) e)
  left (failed BadHead payload) mirror there e = as_begun mirror (ap (λ m. m.node) e)
  left (failed (Status status) payload) mirror there e = as_begun mirror (ap (λ m. m.node) e)
  left (failed BadCoding payload) mirror there e = as_begun mirror (ap (λ m. m.node) e)
  left (failed BadLength payload) mirror there e = as_begun mirror (ap (λ m. m.node) e)
  left (failed (Feed fault) payload) mirror there e = as_begun mirror (ap (λ m. m.node) e)
  left (failed FollowMemory payload) mirror there e = as_begun mirror (ap (λ m. m.node) e)

  -- no line of it is bad
  no_bad_line : (fault : FeedFault) (mirror : MirrorState) → HasBadLine begun (is_some begun.since) received fault mirror → ⊥
  no_bad_line fault mirror bad = by bad.brings
    where
      none : (other : Standing) → Stands (is_some begun.since) bad.prefix other → HasPayload other bad.payload → ⊥
      none other there has =
          let c = carry (is_some begun.since) received text is_feed bad.prefix bad.later bad.payload other (sym bad.whole) there has in
          let r = replays.read bad.payload c.0 c.1 in
          one.faultless begun.limits (present_opening begun) bad.payload r.0 bad.cut.notes fault r.1 bad.cut.first

      by : Brings (is_some begun.since) bad.prefix bad.payload → ⊥
      by (inl there) = none (in_body bad.payload) there refl
      by (inr there) = none (done bad.payload) there refl

  fails_so : (before piece : List ℕ) → before ++ piece ≡ received → (mirror : MirrorState) (fault : FollowFault) → wants_memory fault ≡ false
      → Fails begun (is_some begun.since) before piece mirror fault → IsOfLog log mirror.node.published
  fails_so before piece whole mirror FollowMemory wants f = absurd (true≢false wants)
  fails_so before piece whole mirror (Feed Memory) wants f = absurd (true≢false wants)
  fails_so before piece whole mirror (Feed NotOpen) wants f = absurd (no_bad_line NotOpen mirror (subst (λ b. HasBadLine begun (is_some begun.since) b NotOpen mirror) whole f))
  fails_so before piece whole mirror (Feed LongLine) wants f = absurd (no_bad_line LongLine mirror (subst (λ b. HasBadLine begun (is_some begun.since) b LongLine mirror) whole f))
  fails_so before piece whole mirror (Feed (BadLine why)) wants f = absurd (no_bad_line (BadLine why) mirror (subst (λ b. HasBadLine begun (is_some begun.since) b (BadLine why) mirror) whole f))
  fails_so before piece whole mirror (Feed StageFull) wants f = absurd (no_bad_line StageFull mirror (subst (λ b. HasBadLine begun (is_some begun.since) b StageFull mirror) whole f))
  fails_so before piece whole mirror Closed wants f = as_begun mirror (ap (λ m. m.node) f.1)
  fails_so before piece whole mirror LongHead wants f = as_begun mirror (ap (λ m. m.node) f.2)
  fails_so before piece whole mirror BadHead wants f = as_begun mirror (ap (λ m. m.node) f.2)
  fails_so before piece whole mirror (Status status) wants f = as_begun mirror (ap (λ m. m.node) f.2)
  fails_so before piece whole mirror BadCoding wants f = as_begun mirror (ap (λ m. m.node) f.2)
  fails_so before piece whole mirror BadLength wants f = as_begun mirror (ap (λ m. m.node) f.2)
  fails_so before piece whole mirror BadChunk wants f =
      left (failed BadChunk f.0) mirror (subst (λ b. Stands (is_some begun.since) b (failed BadChunk f.0)) whole f.1) f.2

  ends_so : EndsInLog log begun (length received) received
  ends_so =
      record {
        shows = λ before behind other follower mirror is long at.
            left other mirror (subst (λ b. Stands (is_some begun.since) b other) (all_of before behind received is long) (subst (λ h. Stands h before other) at.asked at.stands)) at.leaves;
        fails = λ before piece behind mirror fault is long wants failed.
            fails_so before piece (all_of (before ++ piece) behind received is long) mirror fault wants failed;
      }

pub replay_is_honest : StandsOnce → FeedsCarryText → ReadingIsOne → ReplayIsHonest
replay_is_honest once carry one limits log servers exchange text shown replays begun request more asks is_request asked =
    let r = replays begun request more asks is_request asked in
    subst (λ s. IsHonestAs limits log begun s exchange.received) (sym shown) (ends_so once carry one limits log begun exchange.received text asks r.0 r.1)
