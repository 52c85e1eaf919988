-- Relays that follow one another show states of one log.
use Rattle.std.proofs.Common.{◌≡◌, ◌≢◌, refl, sym, ap, ◌∙◌, subst, ℕ, suc, ◌-◌, ◌≤◌, arith, ◌⊎◌, inl, inr, length, List, [], ◌∷◌, ◌++◌, drop, append_assoc, take-append-drop, Option, Some, None, codes}
use Rattle.std.specs.Prelude.{string_bytes, Contains}
use Rattle.std.specs.List.{AllByRecursion}
use Rattle.std.proofs.lemmas.List.Elements.{All-contains, All-from_recursion}
use Rattle.feed_settings.specs.Limits.{Limits}
use Rattle.feed_node.specs.Mirroring.{MirrorState}
use Rattle.feed_node.specs.States.{NodeState}
use Rattle.feed_follow.specs.Laws.{StandsOnce}
use Rattle.feed_wire.specs.declared.refusal.Refusal.{Refusal}
use Rattle.feed_wire.specs.Answer.{refusal_text}
use Rattle.feed_answer.specs.Answered.{answer_to, refusing}
use Rattle.feed_wire.specs.Asked.{Asked, refused, feed, Asks, Requests}
use Rattle.feed_answer.specs.FollowLaws.{RefusalsAreFollowed}
use Rattle.feed_wire.specs.RequestLaws.{RequestIsRead, MayBeAskedWith}
use Rattle.feed_wire.specs.RequestText.{feed_path, request_text, request_text_as}
use Rattle.feed_wire.proofs.AskedLemmas.{one_request}
use Rattle.httparse.proofs.GrammarLemmas.{ReadsRequest-append}
use Rattle.feed_world.specs.Log.{Log, IsLog}
use Rattle.feed_world.specs.Position.{Position, IsPlaceOfLog, node_where}
use Rattle.feed_laws.proofs.FollowLemmas.{held_among}
use Rattle.feed_laws.specs.Follows.{MayAskWith}
use Rattle.feed_laws.specs.Laws.{IsInLog, AreInLog}
use Rattle.feed_hub.specs.Screen.{pending, token_at}
use Rattle.feed_hub.specs.Told.{IsDue}
use Rattle.feed_device.specs.Links.{Exchange}
use Rattle.feed_device.specs.Sockets.{traffic_of}
use Rattle.feed_live.specs.ScreenLaws.{HandedIsFollowed}
use Rattle.feed_live.specs.Laws.{RelaysShowTheLog, ShowsTheLog}
use Rattle.feed_live.specs.Network.{Relay, Network, IsOfNetwork, inside, outside, OthersStay, IsRelayNetwork, no_relays, one_starts, one_turns, NetworksShowTheLog, RelayedIsHonest, RequestsAreMeant}
use Rattle.feed_live.specs.Relaying.{IsRelaying}
use Rattle.feed_screens.specs.Serving.{WasServed, IsFaithful, nothing, refused as too_many, served, WasFaithful, full_text}
use Rattle.feed_live.specs.States.{states_of}
use Rattle.feed_live.specs.Upstream.{AsksInLog, IsHonest, AreHonest, StaysInLog}
use Rattle.feed_live.proofs.FullLemmas.{full_carries_none}
use Rattle.feed_live.proofs.HonestLemmas.{stays}
use Rattle.feed_screens.proofs.ServingLemmas.{number_tells}
use Rattle.feed_live.proofs.NoFeedLemmas.{no_feed_stays, refusal_carries_none}
use Rattle.feed_live.proofs.StateLemmas.{honest_however}

-- ---- one connection between two relays

nothing_came : (received behind : List ℕ) → received ++ behind ≡ [] → received ≡ []
nothing_came [] behind is = refl
nothing_came (b ∷ bytes) behind is = let no : b ∷ (bytes ++ behind) ≡ [] = is in absurd (cc)

begun_in_log : (limits : Limits) (log : Log) (begun : MirrorState) → AsksInLog limits log begun → IsInLog limits log begun.node
begun_in_log limits log begun a = (a.place, a.is_place, ap (λ o. o.before) a.asks.opening)

module _ (handed_follows : HandedIsFollowed) (refusals : RefusalsAreFollowed) (once : StandsOnce) (limits : Limits) (log : Log) (is_log : IsLog limits log)
    (begun : MirrorState) (a : AsksInLog limits log begun) where
  abbrev Stays : List ℕ → Type 0
  Stays received = StaysInLog limits log begun 0 received

  in_log : IsInLog limits log begun.node
  in_log = begun_in_log limits log begun a

  refusal_stays : (refusal : Refusal) (received behind : List ℕ) → received ++ behind ≡ refusal_text refusal → Stays received
  refusal_stays refusal received behind is = no_feed_stays begun (refusal_text refusal) (refusal_carries_none refusals refusal) limits log in_log received behind is

  full_stays : (received behind : List ℕ) → received ++ behind ≡ full_text → Stays received
  full_stays received behind is = no_feed_stays begun full_text (full_carries_none once) limits log in_log received behind is

  -- what a relay that is in the log served
  served_stays : (asked : Option (List ℕ)) → MayAskWith begun asked → (nodes : List NodeState) (contest came handed received behind : List ℕ) → AreInLog log nodes → (was : WasServed nodes contest came handed)
      → ((head behind : List ℕ) (minor : ℕ) (since : Option (List ℕ)) → came ≡ head ++ behind → Asks head contest (feed minor since) → since ≡ asked)
      → received ++ behind ≡ handed → Stays received
  served_stays with may nodes contest came handed received behind nodes_in was meant is = by was.given.answers.asked was.given.answers.asks was.given.answers.answer_is
    where
      of_refusal : (refusal : Refusal) → was.answer ≡ refusing refusal → (at : Option (List ℕ)) → IsDue nodes was.answer at was.served.due → Stays received
      of_refusal refusal e (Some token) g = let no : None ≡ Some g.opened = sym (ap (λ x. x.session) e) ∙ g.session in absurd (cc)
      of_refusal refusal e None (inr (token, before, g, ends)) = let no : None ≡ Some g.opened = sym (ap (λ x. x.session) e) ∙ g.session in absurd (cc)
      of_refusal refusal e None (inl (none, text)) =
          refusal_stays refusal received (behind ++ pending was.lines was.screen)
          (sym (append_assoc received behind (pending was.lines was.screen)) ∙ ap (λ t. t ++ pending was.lines was.screen) is ∙ was.served.owes.rest ∙ text ∙ ap (λ x. x.text) e)

      by : (asked : Asked) → Asks was.given.head contest asked → was.answer ≡ answer_to asked was.given.node was.given.framing 0 → Stays received
      by (refused refusal) asks e = of_refusal refusal e (token_at was.told was.screen.way) was.served.is_due
      by (feed minor since) asks e =
          let same = meant was.given.head was.given.behind minor since was.given.begins asks in
          let follows = handed_follows limits log nodes contest came handed begun was is_log nodes_in
          (record { minor = minor; since = with; may_ask = may; asks = subst (λ s. Asks was.given.head contest (feed minor s)) same asks; place = a.place; is_place = a.is_place; asked = a.asks }) in
          stays was.answer received behind handed is follows

  faithful_stays : (asked : Option (List ℕ)) → MayAskWith begun asked → (nodes : List NodeState) (contest came written received behind : List ℕ) → AreInLog log nodes
      → ((head behind : List ℕ) (minor : ℕ) (since : Option (List ℕ)) → came ≡ head ++ behind → Asks head contest (feed minor since) → since ≡ asked)
      → IsFaithful nodes contest came written → received ++ behind ≡ written → Stays received
  faithful_stays with may nodes contest came written received behind nodes_in meant nothing is =
      subst Stays (sym (nothing_came received behind is)) (full_stays [] full_text refl)
  faithful_stays with may nodes contest came written received behind nodes_in meant (too_many count) is =
      full_stays received (behind ++ drop count full_text)
      (sym (append_assoc received behind (drop count full_text)) ∙ ap (λ t. t ++ drop count full_text) is ∙ take-append-drop count full_text)
  faithful_stays with may nodes contest came written received behind nodes_in meant (served handed was) is =
      served_stays with may nodes contest came handed received behind nodes_in was meant is

module _ (handed_follows : HandedIsFollowed) (refusals : RefusalsAreFollowed) (once : StandsOnce) where
  pub relayed_is_honest : RelayedIsHonest
  relayed_is_honest log writer limits servers exchange is_log shows of =
      λ begun request more asks is_request asked.
      let went = of.went in
      let contest = string_bytes writer.live.contest in
      let was : WasFaithful (states_of writer.limits log) contest of.traffic =
      All-contains (WasFaithful (states_of writer.limits log) contest) (traffic_of went.socket) of.traffic
      (All-from_recursion (WasFaithful (states_of writer.limits log) contest) (traffic_of went.socket) (shows.written went.at went.socket went.socket_is)) went.among in
      honest_however exchange.shown
      (faithful_stays handed_follows refusals once limits log is_log begun asks is_request.since is_request.may_ask (states_of writer.limits log) contest of.traffic.came of.traffic.written
      exchange.received of.behind shows.states
      (λ head behind minor since begins asks_so. of.meant begun request more head behind minor since asks is_request asked begins asks_so) was of.begins)

-- ---- all steps

-- what holds of each relay at each step
record IsSound (log : Log) (relay : Relay) : Type 0 where
  pub is_log : IsLog relay.limits log
  pub honest : AreHonest relay.limits log relay.servers relay.exchanges
  pub relaying : IsRelaying relay.limits log relay.servers (Some relay.exchanges) relay.live relay.sockets

abbrev AreSound : Log → Network → Type 0
AreSound log network = (at : ℕ) (relay : Relay) → network at ≡ Some relay → IsSound log relay

-- at one number it is this one, and nothing happened at others
one_more : (log : Log) (old new : Network) (at : ℕ) (relay : Relay) → new at ≡ Some relay → OthersStay old new at → AreSound log old → IsSound log relay → AreSound log new
one_more log old new at relay here others before sound other found is = by (number_tells other at)
  where
    same : (n : ℕ) → n ≡ at → new n ≡ Some found → relay ≡ found
    same n e f = let both : Some relay ≡ Some found = sym here ∙ ap new (sym e) ∙ f in cc

    by : (other ≡ at) ⊎ (other ≢ at) → IsSound log found
    by (inl e) = subst (IsSound log) (same other e is) sound
    by (inr away) = before other found (sym (others other away) ∙ is)

module _ (relays : RelaysShowTheLog) (relayed : RelayedIsHonest) (log : Log) where
  shows_the_log : (relay : Relay) → IsSound log relay → ShowsTheLog relay.limits log relay.live relay.sockets
  shows_the_log relay s = relays relay.limits log relay.servers (Some relay.exchanges) relay.live relay.sockets s.honest s.relaying

  one_honest : (network : Network) (reader : Relay) (exchange : Exchange) → IsLog reader.limits log → AreSound log network
      → IsOfNetwork log network reader exchange → IsHonest reader.limits log reader.servers exchange
  one_honest network reader exchange is_log sound (outside honest) = honest
  one_honest network reader exchange is_log sound (inside at writer is of) =
      relayed log writer reader.limits reader.servers exchange is_log (shows_the_log writer (sound at writer is)) of

  all_honest : (network : Network) (reader : Relay) (exchanges : List Exchange) → IsLog reader.limits log → AreSound log network
      → AllByRecursion (IsOfNetwork log network reader) exchanges → AreHonest reader.limits log reader.servers exchanges
  all_honest network reader [] is_log sound all = tt
  all_honest network reader (latest ∷ before) is_log sound all =
      (one_honest network reader latest is_log sound all.0, all_honest network reader before is_log sound all.1)

  are_sound : (network : Network) → IsRelayNetwork log network → AreSound log network
  are_sound network (no_relays new none) = λ at relay is. let no : None ≡ Some relay = sym (none at) ∙ is in absurd (cc)
  are_sound network (one_starts old new at relay so_far free here others start) =
      one_more log old new at relay here others (are_sound old so_far)
      (record {
        is_log = start.is_log;
        honest = subst (AreHonest relay.limits log relay.servers) (sym start.none_asked) tt;
        relaying = start.relaying;
      })
  are_sound network (one_turns old new at was now so_far there here others turn) =
      let before = are_sound old so_far in
      let s = before at was there in
      let is_log : IsLog now.limits log = subst (λ l. IsLog l log) (sym turn.limits) s.is_log in
      one_more log old new at now here others before
      (record {
        is_log = is_log;
        honest = all_honest old now now.exchanges is_log before turn.read;
        relaying = subst (λ l. IsRelaying l log now.servers (Some now.exchanges) now.live now.sockets) (sym turn.limits)
            (subst (λ v. IsRelaying was.limits log v (Some now.exchanges) now.live now.sockets) (sym turn.servers) (turn.turn was.limits log was.servers s.relaying));
      })

pub networks_show_the_log : RelaysShowTheLog → RelayedIsHonest → NetworksShowTheLog
networks_show_the_log relays relayed log network at relay is here =
    let s = are_sound relays relayed log network is at relay here in
    let shows = shows_the_log relays relayed log relay s in
    record {
      shows = shows;
      read = s.honest;
      writes = λ limits servers exchange is_log of. relayed log relay limits servers exchange is_log shows of;
    }

-- ---- requests

-- what is asked stays so, whatever comes behind it
goes_on : (bytes more method path : List ℕ) (minor : ℕ) (since : Option (List ℕ)) → Requests bytes method path minor since
    → Requests (bytes ++ more) method path minor since
goes_on bytes more method path minor since r =
    let is = r.is_request in
    record {
      head = r.head;
      target = r.target;
      is_request = record {
        rest = is.rest ++ more;
        begins = record { reads = ReadsRequest-append bytes r.head is.rest more is.begins.reads; size = is.begins.size };
        is_path = is.is_path;
        spells = is.spells;
      };
      method_is = r.method_is;
      path_is = r.path_is;
      minor_is = r.minor_is;
      since_is = r.since_is;
    }

-- a token of the log may be asked with
may_be_asked : (limits : Limits) (log : Log) (begun : MirrorState) (a : AsksInLog limits log begun) (since : Option (List ℕ)) → IsLog limits log
    → MayAskWith begun since → MayBeAskedWith since
may_be_asked limits log begun a None is_log may = tt
may_be_asked limits log begun a (Some token) is_log (some, held) =
    by a.place a.is_place (subst (λ n. Contains n.held token) (ap (λ r. r.before) a.asks.opening) held)
  where
    by : (place : Option Position) → IsPlaceOfLog limits log place → Contains (node_where log place).held token → MayBeAskedWith (Some token)
    by None is_place (i, within, e) = absurd (omega (arith, within))
    by (Some own) is_place there =
        let order : own.low ≤ own.at = is_place.order in
        let (m, above, below, same) = held_among log own.low (suc (own.at - own.low)) token there in
        let in_log : own.at ≤ length log.commits = is_place.in_log in
        let name = is_log.named.names m (omega (arith, order, above, below, in_log)) in
        subst (λ t. MayBeAskedWith (Some t)) same (name.1, name.0)

pub requests_are_meant : RequestIsRead → RequestsAreMeant
requests_are_meant reads log limits servers exchange contest came later is_log whole nobody places =
    λ begun request more head behind minor since a is_request asked begins asks.
    let place = is_request.place in
    let plain = places exchange.server place is_request.is_place in
    let text : request ≡ request_text place is_request.since = is_request.text_is ∙ ap (λ i. request_text_as place is_request.since i) nobody in
    let own : Asks (request_text place is_request.since) place.contest (feed 1 is_request.since) =
    reads place is_request.since plain.0 plain.1 (may_be_asked limits log begun a is_request.since is_log is_request.may_ask) in
    let written : Requests exchange.asked (codes "GET") (feed_path [] place.contest) 1 is_request.since =
    subst (λ b. Requests b (codes "GET") (feed_path [] place.contest) 1 is_request.since) (ap (λ t. t ++ more) (sym text) ∙ sym asked)
    (goes_on (request_text place is_request.since) more (codes "GET") (feed_path [] place.contest) 1 is_request.since own) in
    let all : head ++ (behind ++ later) ≡ exchange.asked = sym (append_assoc head behind later) ∙ ap (λ b. b ++ later) (sym begins) ∙ whole in
    let heard : Requests exchange.asked (codes "GET") (feed_path [] contest) minor since =
    subst (λ b. Requests b (codes "GET") (feed_path [] contest) minor since) all
    (goes_on head (behind ++ later) (codes "GET") (feed_path [] contest) minor since asks) in
    (one_request exchange.asked (codes "GET") (feed_path [] contest) (codes "GET") (feed_path [] place.contest) minor 1 since is_request.since heard written).sinces
