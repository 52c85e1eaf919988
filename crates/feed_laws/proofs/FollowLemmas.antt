-- What a mirror makes of all that a screen was handed.
use Rattle.std.proofs.Common.{◌≡◌, ◌≢◌, refl, sym, ap, ◌∙◌, subst, ℕ, zero, suc, ◌+◌, ◌-◌, ◌<◌, ◌≤◌, ◌^◌, length-append, max, min, Bool, true, false, true≢false, List, [], ◌∷◌, ◌++◌, ◌⊎◌, inl, inr, length, take, drop, Option, Some, None, append_assoc, append-nil, arith, nat_lt}
use Rattle.std.specs.Prelude.{Contains, if◌then◌else◌, is_none, is_some, Result, Ok, Err}
use Rattle.std.proofs.Math.Seq.{take-length}
use Rattle.std.proofs.lemmas.Bool.Decides.{nat_tests}
use Rattle.std.proofs.lemmas.List.{take_min, take-append-le, take-append-drop}
use Rattle.feed_settings.specs.Limits.{Limits}
use Rattle.feed_settings.specs.declared.framing.Framing.{Framing}
use Rattle.feed_settings.specs.declared.framing.Framing.TheVariants.{Close, Chunked}
use Rattle.feed_node.specs.declared.session.OpenFault.{OpenFault}
use Rattle.feed_node.specs.declared.session.OpenFault.TheVariants.{NotYet, NotHeld, Memory}
use Rattle.feed_node.specs.Mirroring.{MirrorState}
use Rattle.feed_node.specs.States.{NodeState, published_token}
use Rattle.feed_follow.specs.declared.fault.FollowFault.{FollowFault}
use Rattle.feed_follow.specs.declared.fault.FollowFault.TheVariants.{Closed, LongHead, BadHead, Status, BadCoding, BadLength, BadChunk, Feed, Memory as NoMemory}
use Rattle.feed_follow.specs.Follower.{FollowerState, FollowsAt}
use Rattle.feed_follow.specs.Following.{Leaves, Fails}
use Rattle.feed_follow.specs.Standing.{Standing, in_head, token_refused, in_body, done, failed, Stands}
use Rattle.feed_wire.specs.declared.refusal.Refusal.{Refusal}
use Rattle.feed_wire.specs.declared.refusal.Refusal.TheVariants.{NothingPublished, TokenNotHeld}
use Rattle.feed_wire.specs.Answer.{feed_head, refusal_code, refusal_text}
use Rattle.feed_answer.specs.Answered.{AnswerParts, AnswersTo, answer_to, answer_opened, refusing}
use Rattle.feed_wire.specs.Asked.{Asked, refused, feed, framing_for}
use Rattle.feed_wire.specs.CarriedBytes.{response_text, ended_text, carried_by}
use Rattle.feed_answer.specs.Carried.{standing_at, ended_at, refusal_at}
use Rattle.feed_wire.specs.Framed.{frame, frame_end}
use Rattle.feed_answer.specs.Served.{opening_text}
use Rattle.feed_wire.specs.FrameLaws.{AreTexts, joined}
use Rattle.feed_answer.specs.FollowLaws.{StandsOnly, WholeCarriesAll, ResponsesAreFollowed, EndsAreFollowed, RefusalsAreFollowed}
use Rattle.feed_answer.specs.Opening.{Started, opens}
use Rattle.feed_world.specs.Connection.{Connection, sent_text}
use Rattle.feed_world.specs.Following.{OpensAsked, SessionsOpenAsAsked, PlacesStay, AllIsReached, IsBroughtBy, CarriesPrefix, CarryFeed, FollowsTo, MirrorsFollow, IsCutInLog, FailsKeepStates, RefusalsKeepNodes, brought_by}
use Rattle.feed_world.specs.Laws.{opened_text}
use Rattle.feed_world.specs.Log.{Log, IsLog, tokens_of}
use Rattle.feed_world.specs.Position.{Position, IsPlaceOfLog, node_where}
use Rattle.feed_world.specs.Reading.{IsOpened}
use Rattle.feed_world.specs.States.{HasAsked, IsAsFarAs}
use Rattle.feed_world.specs.Step.{IsForMemory}
use Rattle.feed_hub.specs.Told.{Told, IsGoing, IsDue}
use Rattle.feed_hub.specs.Screen.{pending, token_at}
use Rattle.feed_laws.specs.Laws.{IsInLog, StandsInLog, AreInLog, StandInOrder, ScreensAreConnections}
use Rattle.feed_laws.specs.Follows.{MayAskWith, HasAskedSo, MayStop, FollowsInLog, ScreensFollow, ArrivesInLog, ScreensArrive}
use Rattle.feed_laws.proofs.LawLemmas.{connection, its_text, is_opened}
use Rattle.feed_laws.proofs.OpeningLemmas.{due_is_response}
use Rattle.feed_world.proofs.Responses.{frame_length}
use Rattle.feed_world.proofs.Refused.{at_of}

-- a prefix of bytes is one of them and more
prefix_of : (bytes rest : List ℕ) (n : ℕ) → take n bytes ≡ take (min n (length bytes)) (bytes ++ rest)
prefix_of bytes rest n =
    let few : min n (length bytes) ≤ length bytes = omega arith in
    sym (take_min n bytes) ∙ sym (take-append-le (min n (length bytes)) bytes rest few)

-- what comes behind a piece of them, and then the more
piece_of : (before piece later rest bytes all : List ℕ) → (before ++ piece) ++ later ≡ bytes → bytes ++ rest ≡ all
    → (before ++ piece) ++ (later ++ rest) ≡ all
piece_of before piece later rest bytes all e f =
    sym (append_assoc (before ++ piece) later rest) ∙ ap (λ bs. bs ++ rest) e ∙ f

moved_in : (limits : Limits) (log : Log) (one other : NodeState) → other ≡ one → IsInLog limits log one
    → IsInLog limits log other
moved_in limits log one other same there = (there.0, there.1, same ∙ there.2)

pub begun_in_log : (limits : Limits) (log : Log) (head contest : List ℕ) (begun : MirrorState)
    → HasAskedSo limits log head contest begun
    → IsInLog limits log begun.node
begun_in_log limits log head contest begun a = (a.place, a.is_place, ap (λ o. o.before) a.asked.opening)

-- ---- a refusal

-- an answer without a session refuses
pub is_refusal : (head contest : List ℕ) (node : NodeState) (framing : Framing) (answer : AnswerParts)
    → AnswersTo head contest node framing 0 answer
    → answer.session ≡ None → (refusal : Refusal) × (answer ≡ refusing refusal)
is_refusal head contest node framing answer answers none = by answers.asked answers.answer_is
  where
    of_opens : (f : Framing) (o : Result Started OpenFault) → answer ≡ answer_opened f o
        → (refusal : Refusal) × (answer ≡ refusing refusal)
    of_opens f (Ok started) e = let no : Some started.token ≡ None = sym (ap (λ a. a.session) e) ∙ none in absurd (cc)
    of_opens f (Err NotYet) e = (NothingPublished, e)
    of_opens f (Err NotHeld) e = (TokenNotHeld, e)
    of_opens f (Err Memory) e = (NothingPublished, e)

    by : (asked : Asked) → answer ≡ answer_to asked node framing 0 → (refusal : Refusal) × (answer ≡ refusing refusal)
    by (refused refusal) e = (refusal, e)
    by (feed minor since) e = of_opens (framing_for minor framing) (opens node 0 since) e

-- a response that stands so leaves what the mirror shows
abbrev IsOfRefusal : Standing → Type 0
IsOfRefusal in_head = Unit {0}
IsOfRefusal token_refused = Unit {0}
IsOfRefusal (in_body payload) = ⊥
IsOfRefusal (done payload) = ⊥
IsOfRefusal (failed (Status n) payload) = Unit {0}
IsOfRefusal (failed fault payload) = ⊥

leaves_node : (begun mirror : MirrorState) (s : Standing) → IsOfRefusal s → Leaves begun s mirror
    → mirror.node ≡ begun.node
leaves_node begun mirror in_head is l = ap (λ m. m.node) l
leaves_node begun mirror token_refused is l = ap (λ m. m.node) l
leaves_node begun mirror (failed (Status n) payload) is l = ap (λ m. m.node) l
leaves_node begun mirror (in_body payload) is l = absurd is
leaves_node begun mirror (done payload) is l = absurd is
leaves_node begun mirror (failed Closed payload) is l = absurd is
leaves_node begun mirror (failed LongHead payload) is l = absurd is
leaves_node begun mirror (failed BadHead payload) is l = absurd is
leaves_node begun mirror (failed BadCoding payload) is l = absurd is
leaves_node begun mirror (failed BadLength payload) is l = absurd is
leaves_node begun mirror (failed BadChunk payload) is l = absurd is
leaves_node begun mirror (failed (Feed fault) payload) is l = absurd is
leaves_node begun mirror (failed NoMemory payload) is l = absurd is

module _ (refusals : RefusalsAreFollowed) (keep : RefusalsKeepNodes) (limits : Limits) (log : Log) (begun : MirrorState)
    (answer : AnswerParts) (refusal : Refusal) (is : answer ≡ refusing refusal) (handed rest : List ℕ)
    (whole : handed ++ rest ≡ refusal_text refusal) (in_log : IsInLog limits log begun.node) where
  cut_of : (n : ℕ) → take n handed ≡ take (min n (length handed)) (refusal_text refusal)
  cut_of n = prefix_of handed rest n ∙ ap (take (min n (length handed))) whole

  refusal_stands : (n : ℕ) → (s : Standing) × StandsOnly (is_some begun.since) (take n handed) s
  refusal_stands n = (
    refusal_at (is_some begun.since) refusal (min n (length handed)),
    subst (λ bs. StandsOnly (is_some begun.since) bs (refusal_at (is_some begun.since) refusal (min n (length handed)))) (sym (cut_of n))
        (refusals refusal (min n (length handed)) (is_some begun.since)),
  )

  refusal_shows : (n : ℕ) (s : Standing) (follower : FollowerState) (mirror : MirrorState)
      → FollowsAt begun (take n handed) s follower mirror
      → IsInLog limits log mirror.node
  refusal_shows n s follower mirror f =
      let m = min n (length handed) in
      let same : s ≡ refusal_at follower.had_token refusal m =
      (refusals refusal m follower.had_token).only s (subst (λ bs. Stands follower.had_token bs s) (cut_of n) f.stands) in
      moved_in limits log begun.node mirror.node
      (leaves_node begun mirror s (subst IsOfRefusal (sym same) (at_of refusal follower.had_token m)) f.leaves) in_log

  refusal_fails : (before piece later : List ℕ) (mirror : MirrorState) (fault : FollowFault)
      → (before ++ piece) ++ later ≡ handed
      → Fails begun (is_some begun.since) before piece mirror fault
      → MayStop answer fault × IsInLog limits log mirror.node
  refusal_fails before piece later mirror fault e fails =
      let kept = keep refusal begun mirror (is_some begun.since) before piece (later ++ rest) fault
      (piece_of before piece later rest handed (refusal_text refusal) e whole) fails in
      (why kept.2, moved_in limits log begun.node mirror.node kept.0 in_log)
    where
      none : answer.session ≡ None
      none = ap (λ a. a.session) is

      why : (fault ≡ Status (refusal_code refusal)) ⊎ (IsForMemory fault ⊎ (fault ≡ Closed)) → MayStop answer fault
      why (inl status) = inr (none, inl (status ∙ ap (λ a. Status a.status) (sym is)))
      why (inr (inl memory)) = inl memory
      why (inr (inr closed)) = inr (none, inr closed)

  pub refusal_follows : FollowsInLog limits log answer begun handed
  refusal_follows = record { stands = refusal_stands; shows = refusal_shows; fails = refusal_fails }

-- ---- a feed

module _ (responses : ResponsesAreFollowed) (ends : EndsAreFollowed) (framing : Framing)
    (texts : List (List ℕ)) (are : AreTexts texts)
    (text : List ℕ) (is : joined texts ≡ text) where
  within : (n : ℕ) (b : Bool)
      → CarriesPrefix text (if b then in_head else in_body (take (carried_by framing texts n) (joined texts)))
  within n true = tt
  within n false = (drop (carried_by framing texts n) (joined texts), take-append-drop (carried_by framing texts n) (joined texts) ∙ is)

  pub response_carries : (had : Bool) → CarryFeed had text (response_text framing texts)
  response_carries had n = (standing_at framing texts n, responses framing texts n had are, within n (nat_lt n (length (feed_head framing))))

  at_end : (f : Framing) → f ≡ framing → (n : ℕ) → CarriesPrefix text (ended_at f texts n)
  at_end Close same n = subst (λ g. CarriesPrefix text (standing_at g texts n)) (sym same) (within n (nat_lt n (length (feed_head framing))))
  at_end Chunked same n = by (nat_lt n (length (ended_text Chunked texts)))
    where
      by : (b : Bool) → CarriesPrefix text (if b then standing_at Chunked texts n else done (joined texts))
      by true = subst (λ g. CarriesPrefix text (standing_at g texts n)) (sym same) (within n (nat_lt n (length (feed_head framing))))
      by false = ([], append-nil (joined texts) ∙ is)

  pub ended_carries : (had : Bool) → CarryFeed had text (ended_text framing texts)
  ended_carries had n = (ended_at framing texts n, ends framing texts n had are, at_end framing refl n)

-- where bytes carry the text of such a connection, who follows them is in the log
module _ (places : PlacesStay) (follow : MirrorsFollow) (keep : FailsKeepStates) (limits : Limits)
    (log : Log) (place : Option Position) (c : Connection)
    (begun : MirrorState) (answer : AnswerParts) (handed rest due : List ℕ) (is_log : IsLog limits log)
    (opened : IsOpened limits log place c)
    (asked : HasAsked limits log place c.fresh begun) (whole : handed ++ rest ≡ due)
    (carry : (had : Bool) → CarryFeed had (sent_text log c) due)
    (in_log : IsInLog limits log begun.node) where
  due_of : (n : ℕ) → take n handed ≡ take (min n (length handed)) due
  due_of n = prefix_of handed rest n ∙ ap (take (min n (length handed))) whole

  brought_in : (n : ℕ) (mirror : MirrorState) → IsBroughtBy limits log place c n mirror → IsInLog limits log mirror.node
  brought_in n mirror b = (brought_by limits log place c n, (places limits log place c n opened).0, b.node)

  feed_stands : (n : ℕ) → (s : Standing) × StandsOnly (is_some begun.since) (take n handed) s
  feed_stands n =
      let w = carry (is_some begun.since) (min n (length handed)) in
      (w.0, subst (λ bs. StandsOnly (is_some begun.since) bs w.0) (sym (due_of n)) w.1)

  feed_shows : (n : ℕ) (s : Standing) (follower : FollowerState) (mirror : MirrorState)
      → FollowsAt begun (take n handed) s follower mirror
      → IsInLog limits log mirror.node
  feed_shows n s follower mirror f =
      by s (follow limits log place c begun mirror follower due (min n (length handed)) s is_log opened asked (carry follower.had_token)
      (subst (λ bs. FollowsAt begun bs s follower mirror) (due_of n) f))
    where
      by : (s : Standing) → FollowsTo limits log place c begun mirror s → IsInLog limits log mirror.node
      by in_head same = moved_in limits log begun.node mirror.node (ap (λ m. m.node) same) in_log
      by token_refused never = absurd never
      by (in_body payload) b = brought_in (length payload) mirror b
      by (done payload) b = brought_in (length payload) mirror b
      by (failed fault payload) never = absurd never

  feed_fails : (before piece later : List ℕ) (mirror : MirrorState) (fault : FollowFault)
      → (before ++ piece) ++ later ≡ handed
      → Fails begun (is_some begun.since) before piece mirror fault
      → MayStop answer fault × IsInLog limits log mirror.node
  feed_fails before piece later mirror fault e fails =
      let kept = keep limits log place c begun mirror (is_some begun.since) due before piece (later ++ rest) fault is_log opened asked
      (carry (is_some begun.since)) (piece_of before piece later rest handed due e whole) fails in
      (inl kept.0, by kept.1)
    where
      by : IsCutInLog limits log place c begun mirror → IsInLog limits log mirror.node
      by (inl same) = moved_in limits log begun.node mirror.node (ap (λ m. m.node) same) in_log
      by (inr (n, few, closed, b)) = brought_in n mirror b

  pub feed_follows : FollowsInLog limits log answer begun handed
  feed_follows = record { stands = feed_stands; shows = feed_shows; fails = feed_fails }

-- ---- where the screen's own mirror was

-- a token among those from a number on is that of one of these numbers
pub held_among : (log : Log) (low many : ℕ) (token : List ℕ) → Contains (tokens_of log low many) token
    → (m : ℕ) × (low ≤ m) × (m < low + many) × (log.token m ≡ token)
held_among log low zero token (i, within, is) = absurd (omega (arith, within))
held_among log low (suc many) token (zero, within, is) = (low, omega arith, omega arith, is)
held_among log low (suc many) token (suc i, within, is) =
    let (m, above, below, same) = held_among log (low + 1) many token (i, omega (arith, within), is) in
    (m, omega (arith, above), omega (arith, below), same)

-- who asks with none asks for everything
pub asks_alike : (begun : MirrorState) (since : Option (List ℕ)) → MayAskWith begun since
    → is_none since ≡ is_none begun.since
asks_alike begun None none = ap is_none (sym none)
asks_alike begun (Some token) (some, held) = by begun.since some
  where
    by : (since : Option (List ℕ)) → since ≢ None → false ≡ is_none since
    by None other = absurd (other refl)
    by (Some token) other = refl

-- who asked with a token that it holds was sent what comes after that
started : (limits : Limits) (log : Log) (head contest : List ℕ) (begun : MirrorState) (p : Position) (answer : AnswerParts) (opened : List ℕ)
    → (a : HasAskedSo limits log head contest begun) → (o : OpensAsked log p a.since 0 answer opened)
    → is_none begun.since ≡ false → (own : Position) × (a.place ≡ Some own) × (own.low ≤ o.k) × (o.k ≤ own.at)
started limits log head contest begun p answer opened a o some = asked_with a.since refl a.may_ask
  where
    at_place : (token : List ℕ) → a.since ≡ Some token → (place : Option Position) → a.place ≡ place → IsPlaceOfLog limits log place
        → Contains (node_where log place).held token
        → (own : Position) × (place ≡ Some own) × (own.low ≤ o.k) × (o.k ≤ own.at)
    at_place token is None at is_place (i, within, e) = absurd (omega (arith, within))
    at_place token is (Some own) at is_place held =
        let order : own.low ≤ own.at = is_place.order in
        let (m, above, below, same) = held_among log own.low (suc (own.at - own.low)) token held in
        let last : m ≤ own.at = omega (arith, order, above, below) in
        let in_log : own.at ≤ length log.commits = is_place.in_log in
        let there = o.own m (omega (arith, last, in_log)) (is ∙ ap Some (sym same)) in
        let from : p.low ≤ m = there.0 in
        let is_k : o.k ≡ max p.low (m - 0) = there.2 in
        (own, refl, omega (arith, above, from, is_k), omega (arith, last, from, is_k))

    asked_with : (since : Option (List ℕ)) → a.since ≡ since → MayAskWith begun since
        → (own : Position) × (a.place ≡ Some own) × (own.low ≤ o.k) × (o.k ≤ own.at)
    asked_with None is none = absurd (true≢false (ap is_none (sym none) ∙ some))
    asked_with (Some token) is (with, held) =
        at_place token is a.place refl a.is_place (subst (λ n. Contains n.held token) (ap (λ r. r.before) a.asked.opening) held)

-- ---- what was framed in memory fits into that

opened_fits : (framing : Framing) (opened text : List ℕ) → text ≡ opening_text framing opened
    → length text < 2 ^ 64 → length opened < 2 ^ 64
opened_fits framing opened text is fits =
    let a : length (feed_head framing ++ frame framing opened) ≡ length (feed_head framing) + length (frame framing opened) =
    length-append (feed_head framing) (frame framing opened) in
    let b : length text ≡ length (feed_head framing ++ frame framing opened) = ap length is in
    let d : length opened ≤ length (frame framing opened) = frame_length framing opened in
    omega (arith, a, b, d, fits)

-- how the whole stands that has the end of its body
end_stands : WholeCarriesAll → (framing : Framing) (texts : List (List ℕ)) (n : ℕ)
    → length (ended_text framing texts) ≤ n
    → (ended_at framing texts n ≡ in_body (joined texts)) ⊎ (ended_at framing texts n ≡ done (joined texts))
end_stands all Close texts n whole =
    let none : length (ended_text Close texts) ≡ length (response_text Close texts) = ap length (append-nil (response_text Close texts)) in
    inl (all Close texts n (omega (arith, none, whole))).1
end_stands all Chunked texts n whole =
    let past : nat_lt n (length (ended_text Chunked texts)) ≡ false = grind (arith, nat_tests) in
    inr (ap (λ b. if b then standing_at Chunked texts n else done (joined texts)) past)

-- ---- all of it

module _ (connects : ScreensAreConnections) (opens_so : SessionsOpenAsAsked)
    (responses : ResponsesAreFollowed) (ends : EndsAreFollowed)
    (places : PlacesStay) (follow : MirrorsFollow) (keep : FailsKeepStates)
    (limits : Limits) (log : Log) (nodes : List NodeState) (node : NodeState) (head contest : List ℕ)
    (framing : Framing) (answer : AnswerParts)
    (begun : MirrorState) (handed rest due : List ℕ) (is_log : IsLog limits log)
    (all_in : AreInLog log nodes) (node_in : StandsInLog log node)
    (a : HasAskedSo limits log head contest begun) (answers : AnswersTo head contest node framing 0 answer)
    (whole : handed ++ rest ≡ due)
    (token before : List ℕ) (g : IsGoing nodes answer token before) where
  found : (p : Position) × (node_in.1.0 ≡ Some p) × OpensAsked log p a.since 0 answer g.opened
  found = opens_so node_in.0 log node node_in.1.0 head contest a.minor a.since framing 0 answer g.opened is_log.named node_in.1.1 node_in.1.2 a.asks answers g.session

  o : OpensAsked log found.0 a.since 0 answer g.opened
  o = found.2

  text_is : answer.text ≡ opening_text answer.framing (opened_text log (is_none begun.since) o.k)
  text_is = o.text_is ∙ ap (λ f. opening_text answer.framing (opened_text log f o.k)) (asks_alike begun a.since a.may_ask)

  abbrev texts : List (List ℕ)
  texts = opened_text log (is_none begun.since) o.k ∷ g.texts

  in_order : StandInOrder log o.k g.texts token
  in_order = connects log nodes o.k g.texts token is_log.named all_in o.in_log (subst (λ t. Told nodes t g.texts token) o.token_is g.told)

  begins : is_none begun.since ≡ false → (own : Position) × (a.place ≡ Some own) × (own.low ≤ o.k) × (o.k ≤ own.at)
  begins = started limits log head contest begun found.0 answer g.opened a o

  abbrev c : Connection
  c = connection log o.k g.texts token (is_none begun.since) in_order

  is_open : IsOpened limits log a.place c
  is_open = is_opened limits log o.k g.texts token a.place (is_none begun.since) in_order a.is_place begins

  all_text : joined texts ≡ sent_text log c
  all_text = sym (its_text limits log o.k g.texts token a.place (is_none begun.since) in_order a.is_place begins)

  is_response : before ≡ response_text answer.framing texts
  is_response = g.due_is ∙ due_is_response log answer g.texts (is_none begun.since) o.k text_is

  are : AreTexts texts
  are = (opened_fits answer.framing (opened_text log (is_none begun.since) o.k) answer.text text_is g.opening_fits, g.fit)

  follows_by : ((had : Bool) → CarryFeed had (sent_text log c) due) → FollowsInLog limits log answer begun handed
  follows_by carry =
      feed_follows places follow keep limits log a.place c begun answer handed rest due is_log is_open a.asked whole carry (begun_in_log limits log head contest begun a)

  pub going_follows : due ≡ before → FollowsInLog limits log answer begun handed
  going_follows is =
      follows_by (λ had. subst (CarryFeed had (sent_text log c)) (sym (is ∙ is_response))
      (response_carries responses ends answer.framing texts are (sent_text log c) all_text had))

  pub ended_follows : due ≡ before ++ frame_end answer.framing → FollowsInLog limits log answer begun handed
  ended_follows is =
      follows_by (λ had. subst (CarryFeed had (sent_text log c)) (sym (is ∙ ap (λ t. t ++ frame_end answer.framing) is_response))
      (ended_carries responses ends answer.framing texts are (sent_text log c) all_text had))

  -- with all of it the mirror is as far as the session
  pub going_arrives : WholeCarriesAll → AllIsReached → due ≡ before → rest ≡ []
      → (s : Standing) (follower : FollowerState) (mirror : MirrorState)
      → FollowsAt begun handed s follower mirror → ArrivesInLog limits log token mirror
  going_arrives all reached is none s follower mirror f =
      let same : handed ≡ response_text answer.framing texts =
      sym (append-nil handed) ∙ ap (λ r. handed ++ r) (sym none) ∙ whole ∙ is ∙ is_response in
      let n = length (response_text answer.framing texts) in
      let uncut : take n (response_text answer.framing texts) ≡ response_text answer.framing texts = take-length (response_text answer.framing texts) in
      let f' : FollowsAt begun (take n (response_text answer.framing texts)) s follower mirror =
      subst (λ bs. FollowsAt begun bs s follower mirror) (same ∙ sym uncut) f in
      let stands : s ≡ in_body (joined texts) =
      (responses answer.framing texts n follower.had_token are).only s f'.stands ∙ (all answer.framing texts n (omega arith)).1 in
      let follows = follow limits log a.place c begun mirror follower (response_text answer.framing texts) n s is_log is_open a.asked
      (response_carries responses ends answer.framing texts are (sent_text log c) all_text follower.had_token) f' in
      let b : IsBroughtBy limits log a.place c (length (joined texts)) mirror =
      subst (FollowsTo limits log a.place c begun mirror) stands follows in
      record {
        place = brought_by limits log a.place c (length (joined texts));
        is_place = (places limits log a.place c (length (joined texts)) is_open).0;
        shows = b.node;
        last = in_order.last;
        token_is = in_order.token_is;
        reaches = subst (λ m. IsAsFarAs (brought_by limits log a.place c m) in_order.last) (ap length (sym all_text)) (reached limits log a.place c is_open);
      }

  -- and so it is with the end of the body behind it
  pub ended_arrives : WholeCarriesAll → AllIsReached → due ≡ before ++ frame_end answer.framing → rest ≡ []
      → (s : Standing) (follower : FollowerState) (mirror : MirrorState)
      → FollowsAt begun handed s follower mirror → ArrivesInLog limits log token mirror
  ended_arrives all reached is none s follower mirror f =
      let bytes = ended_text answer.framing texts in
      let n = length bytes in
      let same : handed ≡ bytes =
      sym (append-nil handed) ∙ ap (λ r. handed ++ r) (sym none) ∙ whole ∙ is ∙ ap (λ t. t ++ frame_end answer.framing) is_response in
      let f' : FollowsAt begun (take n bytes) s follower mirror =
      subst (λ bs. FollowsAt begun bs s follower mirror) (same ∙ sym (take-length bytes)) f in
      let stands = (ends answer.framing texts n follower.had_token are).only s f'.stands in
      let follows = follow limits log a.place c begun mirror follower bytes n s is_log is_open a.asked
      (ended_carries responses ends answer.framing texts are (sent_text log c) all_text follower.had_token) f' in
      elim (end_stands all answer.framing texts n (omega arith)) [
        | inl e ↦ arrived mirror (subst (FollowsTo limits log a.place c begun mirror) (stands ∙ e) follows)
        | inr e ↦ arrived mirror (subst (FollowsTo limits log a.place c begun mirror) (stands ∙ e) follows)
      ]
    where
      arrived : (mirror : MirrorState) → IsBroughtBy limits log a.place c (length (joined texts)) mirror → ArrivesInLog limits log token mirror
      arrived mirror b = record {
        place = brought_by limits log a.place c (length (joined texts));
        is_place = (places limits log a.place c (length (joined texts)) is_open).0;
        shows = b.node;
        last = in_order.last;
        token_is = in_order.token_is;
        reaches = subst (λ m. IsAsFarAs (brought_by limits log a.place c m) in_order.last) (ap length (sym all_text)) (reached limits log a.place c is_open);
      }

pub screens_are_safe : ScreensAreConnections → SessionsOpenAsAsked → ResponsesAreFollowed → EndsAreFollowed
    → RefusalsAreFollowed → RefusalsKeepNodes
    → PlacesStay → MirrorsFollow → FailsKeepStates → ScreensFollow
screens_are_safe connects opens_so responses ends refusals kept places follow keep limits log nodes node head contest framing answer begun common lines told handed s
    is_log all_in node_in a answers served =
    by (token_at told s.way) served.is_due
  where
    by : (at : Option (List ℕ)) → IsDue nodes answer at served.due → FollowsInLog limits log answer begun handed
    by (Some token) g =
        going_follows connects opens_so responses ends places follow keep limits log nodes node head contest framing answer begun handed (pending lines s) served.due
        is_log all_in node_in a answers served.owes.rest token served.due g refl
    by None (inr (token, before, g, e)) =
        ended_follows connects opens_so responses ends places follow keep limits log nodes node head contest framing answer begun handed (pending lines s) served.due
        is_log all_in node_in a answers served.owes.rest token before g e
    by None (inl (none, text)) =
        let refusal = is_refusal head contest node framing answer answers none in
        refusal_follows refusals kept limits log begun answer refusal.0 refusal.1 handed (pending lines s)
        (served.owes.rest ∙ text ∙ ap (λ x. x.text) refusal.1) (begun_in_log limits log head contest begun a)

pub screens_arrive : ScreensAreConnections → SessionsOpenAsAsked → ResponsesAreFollowed → EndsAreFollowed
    → PlacesStay → MirrorsFollow → FailsKeepStates
    → WholeCarriesAll → AllIsReached → ScreensArrive
screens_arrive connects opens_so responses ends places follow keep all reached limits log nodes node head contest framing answer begun common lines told handed token s
    standing follower mirror is_log all_in node_in a answers served at none f =
    going_arrives connects opens_so responses ends places follow keep limits log nodes node head contest framing answer begun handed (pending lines s) served.due
    is_log all_in node_in a answers served.owes.rest token served.due (subst (λ o. IsDue nodes answer o served.due) at served.is_due) all reached refl none
    standing follower mirror f
