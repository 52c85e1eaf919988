-- Bytes that carry no feed leave what a mirror shows.
use Rattle.std.proofs.Common.{◌≡◌, sym, ap, ◌∙◌, subst, ℕ, ◌⊎◌, inl, inr, List, [], ◌++◌, take, length, append_assoc}
use Rattle.std.specs.Prelude.{Bool, true, false, ◌&&◌, ◌==◌, nat_lt, is_some, if◌then◌else◌}
use Rattle.feed_settings.specs.Limits.{Limits}
use Rattle.feed_node.specs.declared.fault.FeedFault.{FeedFault}
use Rattle.feed_node.specs.declared.fault.FeedFault.TheVariants.{NotOpen, LongLine, Line as BadLine, StageFull, Memory as FeedMemory}
use Rattle.feed_node.specs.Mirroring.{MirrorState, cut_off}
use Rattle.feed_follow.specs.declared.fault.FollowFault.{FollowFault}
use Rattle.feed_follow.specs.declared.fault.FollowFault.TheVariants.{Closed, LongHead, BadHead, Status, BadCoding, BadLength, BadChunk, Feed, Memory}
use Rattle.feed_follow.specs.Following.{Leaves, Fails, Brings, HasBadLine, HasLostSome, IsCutAfter}
use Rattle.feed_follow.specs.Standing.{Standing, in_head, token_refused, in_body, done, failed, Stands}
use Rattle.feed_wire.specs.declared.refusal.Refusal.{Refusal}
use Rattle.feed_wire.specs.Answer.{refusal_code, refusal_head, refusal_text}
use Rattle.feed_answer.specs.Carried.{refusal_at}
use Rattle.feed_answer.specs.FollowLaws.{StandsOnly, RefusalsAreFollowed}
use Rattle.feed_world.specs.Log.{Log}
use Rattle.feed_world.proofs.Brought.{prefix_is}
use Rattle.feed_laws.specs.Laws.{IsInLog}
use Rattle.feed_live.specs.Upstream.{StaysInLog}

-- a response that stands so has brought nothing
abbrev pub BringsNone : Standing → Type 0
BringsNone in_head = Unit {0}
BringsNone token_refused = Unit {0}
BringsNone (in_body payload) = ⊥
BringsNone (done payload) = ⊥
BringsNone (failed (Status n) payload) = Unit {0}
BringsNone (failed fault payload) = ⊥

-- each prefix of a text stands so, and in no other way
abbrev pub CarriesNone : List ℕ → Type 0
CarriesNone text = (had : Bool) (n : ℕ) → (s : Standing) × StandsOnly had (take n text) s × BringsNone s

-- a refusal carries none
none_at : (had : Bool) (refusal : Refusal) (n : ℕ) → BringsNone (refusal_at had refusal n)
none_at had refusal n = by (nat_lt n (length (refusal_head refusal))) ((refusal_code refusal == 400) && had)
  where
    by : (a b : Bool)
        → BringsNone (if a then in_head else (if b then token_refused else failed (Status (refusal_code refusal)) []))
    by true b = tt
    by false true = tt
    by false false = tt

pub refusal_carries_none : RefusalsAreFollowed → (refusal : Refusal) → CarriesNone (refusal_text refusal)
refusal_carries_none refusals refusal had n = (refusal_at had refusal n, refusals refusal n had, none_at had refusal n)

leaves_node : (begun mirror : MirrorState) (s : Standing) → BringsNone s → Leaves begun s mirror → mirror.node ≡ begun.node
leaves_node begun mirror in_head is l = ap (λ m. m.node) l
leaves_node begun mirror token_refused is l = ap (λ m. m.node) l
leaves_node begun mirror (failed (Status n) payload) is l = ap (λ m. m.node) l
leaves_node begun mirror (in_body payload) is l = absurd is
leaves_node begun mirror (done payload) is l = absurd is
leaves_node begun mirror (failed Closed payload) is l = absurd is
leaves_node begun mirror (failed LongHead payload) is l = absurd is
leaves_node begun mirror (failed BadHead payload) is l = absurd is
leaves_node begun mirror (failed BadCoding payload) is l = absurd is
leaves_node begun mirror (failed BadLength payload) is l = absurd is
leaves_node begun mirror (failed BadChunk payload) is l = absurd is
leaves_node begun mirror (failed (Feed fault) payload) is l = absurd is
leaves_node begun mirror (failed Memory payload) is l = absurd is

still_in_log : (limits : Limits) (log : Log) (begun mirror : MirrorState) → IsInLog limits log begun.node → mirror.node ≡ begun.node → IsInLog limits log mirror.node
still_in_log limits log begun mirror there same = (there.0, there.1, same ∙ there.2)

module _ (begun : MirrorState) (text : List ℕ) (none : CarriesNone text) where
  at : (had : Bool) (bytes behind : List ℕ) (s : Standing) → bytes ++ behind ≡ text → Stands had bytes s → BringsNone s
  at had bytes behind s is stands =
      let there = none had (length bytes) in
      let same : s ≡ there.0 = there.1.only s (subst (λ b. Stands had b s) (sym (prefix_is bytes behind text is)) stands) in
      subst BringsNone (sym same) there.2

  no_payload : (had : Bool) (bytes behind payload : List ℕ) → bytes ++ behind ≡ text → Brings had bytes payload → ⊥
  no_payload had bytes behind payload is (inl body) = at had bytes behind (in_body payload) is body
  no_payload had bytes behind payload is (inr whole) = at had bytes behind (done payload) is whole

  module _ (had : Bool) (before piece behind : List ℕ) (mirror : MirrorState) (is : (before ++ piece) ++ behind ≡ text) where
    lost : HasLostSome begun had before piece mirror → mirror.node ≡ begun.node
    lost l = by l.left
      where
        cut : (before ++ l.counted) ++ (l.uncounted ++ behind) ≡ text
        cut = sym (append_assoc (before ++ l.counted) l.uncounted behind)
            ∙ ap (λ b. b ++ behind) (append_assoc before l.counted l.uncounted ∙ ap (λ p. before ++ p) (sym l.whole)) ∙ is

        by : (Stands had (before ++ l.counted) in_head × (mirror ≡ cut_off begun))
            ⊎ ((payload : List ℕ) × Brings had (before ++ l.counted) payload × IsCutAfter begun payload mirror) → mirror.node ≡ begun.node
        by (inl (_, same)) = ap (λ m. m.node) same
        by (inr (payload, brings, _)) = absurd (no_payload had (before ++ l.counted) (l.uncounted ++ behind) payload cut brings)

    bad_line : (fault : FeedFault) → HasBadLine begun had (before ++ piece) fault mirror → mirror.node ≡ begun.node
    bad_line fault b =
        absurd (no_payload had b.prefix (b.later ++ behind) b.payload (sym (append_assoc b.prefix b.later behind) ∙ ap (λ t. t ++ behind) (sym b.whole) ∙ is) b.brings)

    stopped : (fault : FollowFault) (payload : List ℕ) → Stands had (before ++ piece) (failed fault payload) → Leaves begun (failed fault payload) mirror
        → mirror.node ≡ begun.node
    stopped fault payload stands leaves =
        leaves_node begun mirror (failed fault payload) (at had (before ++ piece) behind (failed fault payload) is stands) leaves

    fails_so : (fault : FollowFault) → Fails begun had before piece mirror fault → mirror.node ≡ begun.node
    fails_so Memory f = lost f
    fails_so (Feed FeedMemory) f = lost f
    fails_so (Feed NotOpen) f = bad_line NotOpen f
    fails_so (Feed LongLine) f = bad_line LongLine f
    fails_so (Feed (BadLine fault)) f = bad_line (BadLine fault) f
    fails_so (Feed StageFull) f = bad_line StageFull f
    fails_so Closed f = ap (λ m. m.node) f.1
    fails_so LongHead f = stopped LongHead f.0 f.1 f.2
    fails_so BadHead f = stopped BadHead f.0 f.1 f.2
    fails_so (Status n) f = stopped (Status n) f.0 f.1 f.2
    fails_so BadCoding f = stopped BadCoding f.0 f.1 f.2
    fails_so BadLength f = stopped BadLength f.0 f.1 f.2
    fails_so BadChunk f = stopped BadChunk f.0 f.1 f.2

  pub no_feed_stays : (limits : Limits) (log : Log) → IsInLog limits log begun.node → (received behind : List ℕ) → received ++ behind ≡ text → StaysInLog limits log begun 0 received
  no_feed_stays limits log in_log received behind is =
      record {
        shows = λ before later standing follower mirror here long f.
            still_in_log limits log begun mirror in_log (leaves_node begun mirror standing
            (at follower.had_token before (later ++ behind) standing (sym (append_assoc before later behind) ∙ ap (λ b. b ++ behind) here ∙ is) f.stands) f.leaves);
        fails = λ before piece later mirror fault here long f.
            still_in_log limits log begun mirror in_log (fails_so (is_some begun.since) before piece (later ++ behind) mirror
            (sym (append_assoc (before ++ piece) later behind) ∙ ap (λ b. b ++ behind) here ∙ is) fault f);
      }
