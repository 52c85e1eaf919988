-- What screens are sent is what a connection of a world is sent.
use Rattle.std.proofs.Common.{◌≡◌, refl, sym, ap, ◌∙◌, subst, ℕ, ◌+◌, ◌<◌, ◌≤◌, Bool, true, false, List, [], ◌∷◌, ◌++◌, length, Option, Some, arith, append-nil}
use Rattle.std.specs.Prelude.{if◌then◌else◌}
use Rattle.std.proofs.lemmas.Grind.{flat_map-append}
use Rattle.std.proofs.lemmas.List.{map-append}
use Rattle.feed_settings.specs.Limits.{Limits}
use Rattle.feed_settings.specs.declared.framing.Framing.{Framing}
use Rattle.feed_settings.specs.declared.framing.Framing.TheVariants.{Close, Chunked}
use Rattle.feed_text.specs.Ascii.{line_feed}
use Rattle.feed_node.specs.declared.commit.Commit.{Commit}
use Rattle.feed_node.specs.Serving.{commit_after, commit_text}
use Rattle.feed_node.specs.States.{NodeState}
use Rattle.feed_world.specs.Connection.{Part, Commit as CommitPart, Line_feed, parts_text, part_text, part_texts, Connection, first_parts, sent_text, blocks_within, moved_by}
use Rattle.feed_note.specs.Texts.{batch_text}
use Rattle.feed_world.proofs.Responses.{joined_parts}
use Rattle.feed_world.specs.Laws.{opened_text, NodesSendTheNext, PartsGoOn}
use Rattle.feed_world.specs.Following.{PlacesStay, AllIsReached}
use Rattle.feed_world.specs.States.{IsAsFarAs}
use Rattle.feed_world.specs.Log.{Log, state_text, changes_of_commit}
use Rattle.feed_world.specs.Position.{Position, IsPlaceOfLog, node_where}
use Rattle.feed_world.specs.Reading.{SentIsRead, IsOpened}
use Rattle.feed_hub.specs.Told.{Told, told_none, told_commit, told_line_feed}
use Rattle.feed_laws.specs.Laws.{StandInOrder, ScreensAreConnections, ShowsState, ScreensShowStates, ScreensReach, StandsWell, ScreensAreFollowed}
use Rattle.feed_follow.specs.Standing.{in_head, in_body, done}
use Rattle.feed_wire.specs.Answer.{feed_head}
use Rattle.feed_wire.specs.CarriedBytes.{carried_by, ended_text}
use Rattle.feed_answer.specs.Carried.{standing_at, ended_at}
use Rattle.feed_wire.specs.FrameLaws.{joined}
use Rattle.feed_answer.specs.FollowLaws.{ResponsesAreFollowed, EndsAreFollowed}
use Rattle.std.proofs.Common.{take, drop, nat_lt}
use Rattle.std.proofs.lemmas.List.{take-append-drop}

one_more : (log : Log) (texts : List (List ℕ)) (parts : List Part) (text : List ℕ) (part : Part)
    → texts ≡ part_texts log parts → text ≡ part_text log part
    → texts ++ text ∷ [] ≡ part_texts log (parts ++ part ∷ [])
one_more log texts parts text part e f =
    (λ i. e i ++ f i ∷ []) ∙ sym (map-append (part_text log) parts (part ∷ []))

pub screens_connect : NodesSendTheNext → PartsGoOn → ScreensAreConnections
screens_connect sends order log nodes k texts token is_log in_log small told = by texts token told
  where
    next_one : (texts : List (List ℕ)) (token : List ℕ) (node : NodeState) (commit : Commit)
        → StandInOrder log k texts token → commit_after node token ≡ Some commit
        → (own : Limits) (place : Option Position) → IsPlaceOfLog own log place → node ≡ node_where log place
        → StandInOrder log k (texts ++ commit_text commit ∷ []) commit.token
    next_one texts token node commit s e own place is_place same =
        let there : commit_after (node_where log place) (log.token s.last) ≡ Some commit =
        sym (ap (λ n. commit_after n token) same ∙ ap (commit_after (node_where log place)) s.token_is) ∙ e in
        let n = sends own log place s.last commit is_log is_place s.in_log there in
        let less : s.last < length log.commits = n.in_log in
        let text : commit_text commit ≡ part_text log (CommitPart (s.last + 1)) =
        ap (λ c. batch_text c commit.token) n.changes_are ∙ ap (batch_text (changes_of_commit log (s.last + 1))) n.token_is in
        record {
          parts = s.parts ++ CommitPart (s.last + 1) ∷ [];
          last = s.last + 1;
          go_on = order.commit k s.parts s.last s.go_on;
          in_log = omega (arith, less);
          token_is = n.token_is;
          texts_are = one_more log texts s.parts (commit_text commit) (CommitPart (s.last + 1)) s.texts_are text;
        }

    by : (texts : List (List ℕ)) (token : List ℕ) → Told nodes (log.token k) texts token → StandInOrder log k texts token
    by texts token told_none = record { parts = []; last = k; go_on = refl; in_log = small; token_is = refl; texts_are = refl }
    by texts token (told_commit earlier before node commit t shown e) =
        let place = in_log node shown in
        next_one earlier before node commit (by earlier before t) e place.0 place.1.0 place.1.1 place.1.2
    by texts token (told_line_feed earlier before t) =
        let s = by earlier before t in
        record {
          parts = s.parts ++ Line_feed ∷ [];
          last = s.last;
          go_on = order.line_feed k s.parts s.last s.go_on;
          in_log = s.in_log;
          token_is = s.token_is;
          texts_are = one_more log earlier s.parts (line_feed ∷ []) Line_feed s.texts_are refl;
        }

first_text : (log : Log) (fresh : Bool) (k : ℕ) → parts_text log (first_parts fresh k) ≡ opened_text log fresh k
first_text log true k = append-nil (state_text log k)
first_text log false k = refl

-- the connection that carries them
abbrev pub connection : (log : Log) (k : ℕ) (texts : List (List ℕ)) (token : List ℕ) (fresh : Bool) → StandInOrder log k texts token → Connection
connection log k texts token fresh s = record { framing = Close; fresh = fresh; start = k; parts = first_parts fresh k ++ s.parts; delivered = 0; last = s.last; over = false }

module _ (limits : Limits) (log : Log) (k : ℕ) (texts : List (List ℕ)) (token : List ℕ) (place : Option Position) (fresh : Bool)
    (s : StandInOrder log k texts token) (is_place : IsPlaceOfLog limits log place)
    (start : fresh ≡ false → (own : Position) × (place ≡ Some own) × (own.low ≤ k) × (k ≤ own.at)) where
  pub its_text : sent_text log (connection log k texts token fresh s) ≡ opened_text log fresh k ++ joined texts
  its_text =
      flat_map-append (part_text log) (first_parts fresh k) s.parts ∙ ap (λ t. t ++ parts_text log s.parts) (first_text log fresh k)
      ∙ ap (λ t. opened_text log fresh k ++ t) (sym (ap joined s.texts_are ∙ joined_parts log s.parts))

  pub is_opened : IsOpened limits log place (connection log k texts token fresh s)
  is_opened = record { mirror = is_place; start = start; order = record { more = s.parts; parts = refl; go_on = s.go_on }; sent = s.in_log }

pub screens_show : NodesSendTheNext → PartsGoOn → SentIsRead → PlacesStay → ScreensShowStates
screens_show sends order read stays limits log nodes k texts token place fresh prefix behind is_log in_log small told is_place start whole =
    let s = screens_connect sends order log nodes k texts token is_log.named in_log small told in
    let c = connection log k texts token fresh s in
    let opened = is_opened limits log k texts token place fresh s is_place start in
    let r = read limits log place c prefix behind is_log opened (whole ∙ sym (its_text limits log k texts token place fresh s is_place start)) in
    record {
      notes = r.notes;
      nothing_bad = r.nothing_bad;
      at = moved_by limits.history log place (blocks_within log c.parts (length prefix));
      is_place = (stays limits log place c (length prefix) opened).0;
      shows = r.shows;
    }

pub screens_reach : NodesSendTheNext → PartsGoOn → SentIsRead → PlacesStay → AllIsReached → ScreensReach
screens_reach sends order read stays all limits log nodes k texts token place fresh is_log in_log small told is_place start =
    let s = screens_connect sends order log nodes k texts token is_log.named in_log small told in
    let c = connection log k texts token fresh s in
    let opened = is_opened limits log k texts token place fresh s is_place start in
    let text = its_text limits log k texts token place fresh s is_place start in
    let prefix = opened_text log fresh k ++ joined texts in
    let r = read limits log place c prefix [] is_log opened (append-nil prefix ∙ sym text) in
    record {
      notes = r.notes;
      nothing_bad = r.nothing_bad;
      at = moved_by limits.history log place (blocks_within log c.parts (length prefix));
      is_place = (stays limits log place c (length prefix) opened).0;
      shows = r.shows;
      last = s.last;
      token_is = s.token_is;
      reaches = subst (λ n. IsAsFarAs (moved_by limits.history log place (blocks_within log c.parts n)) s.last) (ap length text) (all limits log place c opened);
    }

pub screens_follow : NodesSendTheNext → PartsGoOn → SentIsRead → PlacesStay → ResponsesAreFollowed → EndsAreFollowed → ScreensAreFollowed
screens_follow sends order read stays followed ends limits log nodes k texts token place fresh framing n had_token is_log in_log small told is_place start are = (
  (standing_at framing (opened_text log fresh k ∷ texts) n, followed framing (opened_text log fresh k ∷ texts) n had_token are, well_of framing (nat_lt n (length (feed_head framing)))),
  (ended_at framing (opened_text log fresh k ∷ texts) n, ends framing (opened_text log fresh k ∷ texts) n had_token are, ended framing),
)
  where
    shown : (payload rest : List ℕ) → payload ++ rest ≡ joined (opened_text log fresh k ∷ texts) → ShowsState limits log place fresh payload
    shown payload rest e = screens_show sends order read stays limits log nodes k texts token place fresh payload rest is_log in_log small told is_place start e

    at_end : (f : Framing) (b : Bool) → StandsWell limits log place fresh (standing_at f (opened_text log fresh k ∷ texts) n)
        → StandsWell limits log place fresh (if b then standing_at f (opened_text log fresh k ∷ texts) n else done (joined (opened_text log fresh k ∷ texts)))
    at_end f true w = w
    at_end f false w = shown (joined (opened_text log fresh k ∷ texts)) [] (append-nil (joined (opened_text log fresh k ∷ texts)))

    well_of : (f : Framing) (b : Bool) → StandsWell limits log place fresh (if b then in_head else in_body (take (carried_by f (opened_text log fresh k ∷ texts) n) (joined (opened_text log fresh k ∷ texts))))
    well_of f true = tt
    well_of f false = shown (take (carried_by f (opened_text log fresh k ∷ texts) n) (joined (opened_text log fresh k ∷ texts)))
        (drop (carried_by f (opened_text log fresh k ∷ texts) n) (joined (opened_text log fresh k ∷ texts)))
        (take-append-drop (carried_by f (opened_text log fresh k ∷ texts) n) (joined (opened_text log fresh k ∷ texts)))

    ended : (f : Framing) → StandsWell limits log place fresh (ended_at f (opened_text log fresh k ∷ texts) n)
    ended Close = well_of Close (nat_lt n (length (feed_head Close)))
    ended Chunked = at_end Chunked (nat_lt n (length (ended_text Chunked (opened_text log fresh k ∷ texts)))) (well_of Chunked (nat_lt n (length (feed_head Chunked))))
