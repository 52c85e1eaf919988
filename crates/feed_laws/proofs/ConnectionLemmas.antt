-- What was written on one connection is what a session in a log is sent.
use Rattle.std.proofs.Common.{◌≡◌, ◌≢◌, ◌⊎◌, refl, sym, ap, ◌∙◌, subst, ℕ, zero, suc, ◌<◌, ◌≤◌, ◌^◌, Bool, true, false, List, [], ◌∷◌, ◌++◌, length, map, inl, inr, Option, Some, None, append_assoc, append-nil, length-append, arith}
use Rattle.std.specs.Prelude.{if◌then◌else◌, Contains}
use Rattle.std.specs.List.{flat_map}
use Rattle.std.proofs.lemmas.Grind.{flat_map-append}
use Rattle.std.proofs.lemmas.List.{map-append}
use Rattle.std.proofs.lemmas.Slice.Eq.{bytes_eq-Decides}
use Rattle.httparse.specs.Ascii.{line_feed}
use Rattle.feed_settings.specs.Limits.{Limits}
use Rattle.feed_settings.specs.declared.framing.Framing.{Framing}
use Rattle.feed_node.specs.declared.commit.Commit.{Commit}
use Rattle.feed_node.specs.declared.primary.CommitFault.{CommitFault}
use Rattle.feed_node.specs.Mirroring.{MirrorState}
use Rattle.feed_node.specs.Serving.{commit_after, commit_text, is_published}
use Rattle.feed_node.specs.States.{NodeState, published_token}
use Rattle.feed_wire.specs.declared.refusal.Refusal.{Refusal}
use Rattle.feed_wire.specs.declared.refusal.Refusal.TheVariants.{LargeHead, Unreadable, NotGet, OtherPath, NothingPublished, TokenNotHeld}
use Rattle.feed_wire.specs.Answer.{refusal_code}
use Rattle.feed_answer.specs.Answered.{AnswerParts, AnswersTo}
use Rattle.feed_wire.specs.Framed.{frame, frame_end}
use Rattle.feed_wire.specs.FrameLaws.{AreTexts}
use Rattle.feed_answer.specs.FollowLaws.{WholeCarriesAll, ResponsesAreFollowed, EndsAreFollowed, RefusalsAreFollowed}
use Rattle.feed_answer.specs.Served.{behind_opening}
use Rattle.feed_http.specs.declared.fault.Served.{Served}
use Rattle.feed_http.specs.Live.{Intake, HasSent, none_sent, commit_sent, turn_taken, IsOver, SendsLiveTo, WroteLive, WroteRefused, BeginsNext}
use Rattle.feed_http.specs.Serving.{commit_frames, Sends, up_to_date, lost, sends, HasAll, SendsTo, SendsAnswer, written_behind}
use Rattle.feed_http.specs.Sessions.{Nothing_new, Lost, Commit_after, next, or_lost}
use Rattle.feed_world.specs.Following.{SessionsOpenAsAsked, PlacesStay, AllIsReached, MirrorsFollow, FailsKeepStates, RefusalsKeepNodes}
use Rattle.feed_world.specs.Log.{Log, IsLog}
use Rattle.feed_laws.specs.Connections.{FollowsServed, NodesAreFollowed, MeetsLog, PrimariesAreFollowed, BrokenOffIsFollowed}
use Rattle.feed_laws.specs.Follows.{HasAskedSo, FollowsInLog, ArrivesInLog}
use Rattle.feed_laws.specs.Laws.{StandsInLog, AreInLog, ScreensAreConnections}
use Rattle.feed_hub.specs.Told.{Told, told_none, told_commit, told_line_feed, told_text, IsGoing}
use Rattle.feed_hub.proofs.ServedLemmas.{one_fits}
use Rattle.feed_laws.proofs.FollowLemmas.{begun_in_log, is_refusal, refusal_follows, ended_follows, ended_arrives}
use Rattle.feed_world.proofs.Responses.{frame_length}
use Rattle.feed_http.proofs.RestLemmas.{commit_is_other as commit_is}

-- ---- what is next

-- where nothing is new, the token is the published one
new_is : (node : NodeState) (token published : List ℕ) → next node token ≡ Nothing_new
    → published_token node ≡ Some published → published ≡ token
new_is node token published e is = by (is_published (published_token node) token) refl e
  where
    other : (o : Option Commit) → or_lost o ≢ Nothing_new
    other None f = let no : Lost ≡ Nothing_new = f in absurd (cc)
    other (Some c) f = let no : Commit_after c ≡ Nothing_new = f in absurd (cc)

    by : (b : Bool) → is_published (published_token node) token ≡ b
        → (if b then Nothing_new else or_lost (commit_after node token)) ≡ Nothing_new
        → published ≡ token
    by true test f =
        (bytes_eq-Decides published token).0 (ap (λ o. is_published o token) (sym is) ∙ test)
    by false test f = absurd (other (commit_after node token) f)

-- ---- a session's texts

head_of : (node : NodeState) (nodes : List NodeState) → Contains (node ∷ nodes) node
head_of node nodes = (0, omega arith, refl)

told_cons : (one : NodeState) (nodes : List NodeState) (opened : List ℕ) (texts : List (List ℕ))
    (token : List ℕ) → Told nodes opened texts token → Told (one ∷ nodes) opened texts token
told_cons one nodes opened texts token told_none = told_none
told_cons one nodes opened texts token (told_commit earlier before node commit t (k, within, is) e) =
    told_commit earlier before node commit (told_cons one nodes opened earlier before t)
    (suc k, omega (arith, within), is) e
told_cons one nodes opened texts token (told_line_feed earlier before t) =
    told_line_feed earlier before (told_cons one nodes opened earlier before t)

all_more : (log : Log) (one : NodeState) (nodes : List NodeState)
    → StandsInLog log one → AreInLog log nodes → AreInLog log (one ∷ nodes)
all_more log one nodes first all node (zero, within, is) = subst (StandsInLog log) is first
all_more log one nodes first all node (suc k, within, is) =
    all node (k, omega (arith, within), is)

none_in : (log : Log) → AreInLog log []
none_in log node (k, within, is) = absurd (omega (arith, within))

-- what a node sends is told of that node
told_by : (node : NodeState) (opened token : List ℕ) (texts : List (List ℕ)) (sent : List Commit)
    (gone : Bool) → Told (node ∷ []) opened texts token → Sends node token sent gone
    → (last : List ℕ) × Told (node ∷ []) opened (texts ++ map commit_text sent) last
    × HasAll node last gone
told_by node opened token texts sent gone told (up_to_date _ e) =
    (token, subst (λ l. Told (node ∷ []) opened l token) (sym (append-nil texts)) told, e)
told_by node opened token texts sent gone told (lost _ e) =
    (token, subst (λ l. Told (node ∷ []) opened l token) (sym (append-nil texts)) told, e)
told_by node opened token texts all gone told (sends _ commit later _ e run) =
    let more = told_commit texts token node commit told (head_of node []) (commit_is node token commit e) in
    let (last, rest, has) = told_by node opened commit.token (texts ++ commit_text commit ∷ []) later gone more run in (
      last,
      subst (λ l. Told (node ∷ []) opened l last) (append_assoc texts (commit_text commit ∷ []) (map commit_text later)) rest,
      has,
    )

-- what a primary sends is told of what it showed in turn
module _ (log : Log) (turn : ℕ) (start : Intake) (opened : List ℕ)
    (meets : MeetsLog log turn start opened) where
  told_live : (sent : List Commit) (now : Intake) (token : List ℕ)
      → HasSent turn start opened sent now token
      → (nodes : List NodeState) × AreInLog log nodes
      × Told nodes opened (map commit_text sent) token
  told_live sent now token none_sent = ([], none_in log, told_none)
  told_live sent now token (commit_sent earlier _ before commit run e) =
      let (nodes, all, told) = told_live earlier now before run in
      let node = now.primary.node in (
        node ∷ nodes,
        all_more log node nodes (meets earlier now before run) all,
        subst (λ l. Told (node ∷ nodes) opened l commit.token)
            (sym (map-append commit_text earlier (commit ∷ [])))
            (told_commit (map commit_text earlier) before node commit
            (told_cons node nodes opened (map commit_text earlier) before told)
            (head_of node nodes) (commit_is node before commit e)),
      )
  told_live sent now token (turn_taken _ before _ _ run e takes) = told_live sent before token run

-- ---- what is written is due

texts_fit : (framing : Framing) (texts : List (List ℕ)) (n : ℕ)
    → length (flat_map (frame framing) texts) ≤ n → n < 2 ^ 64 → AreTexts texts
texts_fit framing [] n few fits = tt
texts_fit framing (text ∷ texts) n few fits =
    let both = length-append (frame framing text) (flat_map (frame framing) texts) in
    let one = frame_length framing text in
    (omega (arith, both, one, few, fits), texts_fit framing texts n (omega (arith, both, few)) fits)

module _ (nodes : List NodeState) (answer : AnswerParts) (opened last text : List ℕ)
    (is : answer.session ≡ Some opened) (fits : length text < 2 ^ 64) where
  -- a session that was told these texts, and the end of the body
  ends_due : (texts : List (List ℕ)) → Told nodes opened texts last
      → text ≡ told_text answer texts ++ frame_end answer.framing
      → IsGoing nodes answer last (told_text answer texts)
  ends_due texts told whole =
      let all = ap length whole ∙ length-append (told_text answer texts) (frame_end answer.framing) in
      let both = length-append answer.text (flat_map (frame answer.framing) texts) in
      record {
        opened = opened;
        session = is;
        texts = texts;
        told = told;
        due_is = refl;
        opening_fits = omega (arith, all, both, fits);
        fit = texts_fit answer.framing texts (length text) (omega (arith, all, both)) fits;
      }

  -- what is written behind an answer is a frame for each text, and the end
  is_due : (sent : List Commit) (gone : Bool) → Told nodes opened (map commit_text sent) last
      → text ≡ answer.text ++ behind_opening answer.framing (map commit_text sent) gone
      → (before : List ℕ) × IsGoing nodes answer last before
      × (text ≡ before ++ frame_end answer.framing)
  is_due sent true told whole =
      let texts = map commit_text sent in
      let same = whole ∙ sym (append_assoc answer.text (flat_map (frame answer.framing) texts) (frame_end answer.framing)) in
      (told_text answer texts, ends_due texts told same, same)
  is_due sent false told whole =
      let texts = map commit_text sent in
      let frames = flat_map (frame answer.framing) texts in
      let line = frame answer.framing (line_feed ∷ []) in
      let more : flat_map (frame answer.framing) (texts ++ (line_feed ∷ []) ∷ []) ≡ frames ++ line =
      flat_map-append (frame answer.framing) texts ((line_feed ∷ []) ∷ []) ∙ ap (λ l. frames ++ l) (append-nil line) in
      let same : text ≡ told_text answer (texts ++ (line_feed ∷ []) ∷ []) ++ frame_end answer.framing =
      whole ∙ ap (λ l. answer.text ++ l) (sym (append_assoc frames line (frame_end answer.framing)))
      ∙ sym (append_assoc answer.text (frames ++ line) (frame_end answer.framing))
      ∙ ap (λ l. (answer.text ++ l) ++ frame_end answer.framing) (sym more) in (
        told_text answer (texts ++ (line_feed ∷ []) ∷ []),
        ends_due (texts ++ (line_feed ∷ []) ∷ []) (told_line_feed texts last told) same,
        same,
      )

not_200 : (refusal : Refusal) → refusal_code refusal ≢ 200
not_200 LargeHead e = absurd (omega arith)
not_200 Unreadable e = absurd (omega arith)
not_200 NotGet e = absurd (omega arith)
not_200 OtherPath e = absurd (omega arith)
not_200 NothingPublished e = absurd (omega arith)
not_200 TokenNotHeld e = absurd (omega arith)

-- ---- where writing broke off

-- a text and one behind it, of which only a prefix was written
ends_at : (opening frames last tail begun rest : List ℕ) → last ++ tail ≡ begun ++ rest
    → (opening ++ (frames ++ last)) ++ tail ≡ (opening ++ (frames ++ begun)) ++ rest
ends_at opening frames last tail begun rest split =
    append_assoc opening (frames ++ last) tail
    ∙ ap (λ t. opening ++ t) (append_assoc frames last tail ∙ ap (λ t. frames ++ t) split
    ∙ sym (append_assoc frames begun rest))
    ∙ sym (append_assoc opening (frames ++ begun) rest)

told_one : (answer : AnswerParts) (texts : List (List ℕ)) (text : List ℕ)
    → told_text answer (texts ++ text ∷ [])
    ≡ answer.text ++ (flat_map (frame answer.framing) texts ++ frame answer.framing text)
told_one answer texts text =
    ap (λ l. answer.text ++ l) (flat_map-append (frame answer.framing) texts (text ∷ [])
    ∙ ap (λ l. flat_map (frame answer.framing) texts ++ l) (append-nil (frame answer.framing text)))

-- ---- all of it

module _ (connects : ScreensAreConnections) (opens_so : SessionsOpenAsAsked)
    (responses : ResponsesAreFollowed) (ends : EndsAreFollowed)
    (refusals : RefusalsAreFollowed) (kept : RefusalsKeepNodes)
    (places : PlacesStay) (follow : MirrorsFollow) (keep : FailsKeepStates)
    (whole : WholeCarriesAll) (reached : AllIsReached) where
  module _ (limits : Limits) (log : Log) (is_log : IsLog limits log) (node last : NodeState)
      (node_in : StandsInLog log node) (head contest : List ℕ) (framing : Framing)
      (answer : AnswerParts) (begun : MirrorState) (a : HasAskedSo limits log head contest begun)
      (answers : AnswersTo head contest node framing 0 answer) (text : List ℕ) (served : Served)
      (told : served.status ≡ answer.status) where
    refused : answer.session ≡ None → text ≡ answer.text ++ []
        → FollowsServed limits log begun text served last
    refused none is =
        let refusal = is_refusal head contest node framing answer answers none in
        record {
          answer = answer;
          status_is = told;
          follows = refusal_follows refusals kept limits log begun answer refusal.0 refusal.1 text []
              (append-nil text ∙ is ∙ append-nil answer.text ∙ ap (λ x. x.text) refusal.1)
              (begun_in_log limits log head contest begun a);
          arrives = λ token standing follower mirror ok. absurd (not_200 refusal.0
              (sym (told ∙ ap (λ x. x.status) refusal.1) ∙ ok));
        }

    accepted : (nodes : List NodeState) (opened token : List ℕ) (sent : List Commit) (gone : Bool)
        → AreInLog log nodes → answer.session ≡ Some opened
        → Told nodes opened (map commit_text sent) token
        → (served.gone ≡ false → next last token ≡ Nothing_new)
        → text ≡ answer.text ++ behind_opening answer.framing (map commit_text sent) gone
        → length text < 2 ^ 64 → FollowsServed limits log begun text served last
    accepted nodes opened token sent gone all is session new text_is fits =
        let (before, g, e) = is_due nodes answer opened token text is fits sent gone session text_is in
        record {
          answer = answer;
          status_is = told;
          follows = ended_follows connects opens_so responses ends places follow keep limits log nodes node
              head contest framing answer begun text [] text is_log all node_in a answers (append-nil text)
              token before g e;
          arrives = λ published standing follower mirror ok keeps named at.
              subst (λ t. ArrivesInLog limits log t mirror) (sym (new_is last token published (new keeps) named))
              (ended_arrives connects opens_so responses ends places follow keep limits log nodes node
              head contest framing answer begun text [] text is_log all node_in a answers (append-nil text)
              token before g whole reached e refl standing follower mirror at);
        }

  module _ (limits : Limits) (log : Log) (is_log : IsLog limits log) (node : NodeState)
      (node_in : StandsInLog log node) (head contest : List ℕ) (framing : Framing)
      (answer : AnswerParts) (begun : MirrorState) (a : HasAskedSo limits log head contest begun)
      (answers : AnswersTo head contest node framing 0 answer) (text : List ℕ) where
    -- a prefix of a refusal
    refused_part : answer.session ≡ None → (rest : List ℕ) → answer.text ≡ text ++ rest
        → FollowsInLog limits log answer begun text
    refused_part none rest is =
        let refusal = is_refusal head contest node framing answer answers none in
        refusal_follows refusals kept limits log begun answer refusal.0 refusal.1 text rest
        (sym is ∙ ap (λ x. x.text) refusal.1) (begun_in_log limits log head contest begun a)

    -- a prefix of an answer, of what its session was told, and of the end
    going_part : (nodes : List NodeState) (opened token : List ℕ) (texts : List (List ℕ))
        → AreInLog log nodes → answer.session ≡ Some opened → Told nodes opened texts token
        → length answer.text < 2 ^ 64 → AreTexts texts → (rest : List ℕ)
        → told_text answer texts ++ frame_end answer.framing ≡ text ++ rest
        → FollowsInLog limits log answer begun text
    going_part nodes opened token texts all session told opening_fits fit rest e =
        ended_follows connects opens_so responses ends places follow keep limits log nodes node
        head contest framing answer begun text rest (told_text answer texts ++ frame_end answer.framing)
        is_log all node_in a answers (sym e) token (told_text answer texts)
        (record {
          opened = opened;
          session = session;
          texts = texts;
          told = told;
          due_is = refl;
          opening_fits = opening_fits;
          fit = fit;
        }) refl

    -- a prefix of the answer
    answer_part : length answer.text < 2 ^ 64 → (rest : List ℕ) → answer.text ≡ text ++ rest
        → (session : Option (List ℕ)) → answer.session ≡ session
        → FollowsInLog limits log answer begun text
    answer_part opening_fits rest is None e = refused_part e rest is
    answer_part opening_fits rest is (Some opened) e =
        going_part [] opened opened [] (none_in log) e told_none opening_fits tt
        (rest ++ frame_end answer.framing)
        (ap (λ t. t ++ frame_end answer.framing) (append-nil answer.text ∙ is)
        ∙ append_assoc text rest (frame_end answer.framing))

    -- the answer, the frames of the commits that its session was sent, and no more
    frames_part : (nodes : List NodeState) (opened token : List ℕ) (sent : List Commit)
        → AreInLog log nodes → answer.session ≡ Some opened
        → Told nodes opened (map commit_text sent) token → length answer.text < 2 ^ 64
        → AreTexts (map commit_text sent)
        → text ≡ answer.text ++ flat_map (frame answer.framing) (map commit_text sent)
        → FollowsInLog limits log answer begun text
    frames_part nodes opened token sent all session told opening_fits fit is =
        going_part nodes opened token (map commit_text sent) all session told opening_fits fit
        (frame_end answer.framing) (ap (λ t. t ++ frame_end answer.framing) (sym is))

  pub nodes_followed : NodesAreFollowed
  nodes_followed limits log node head contest framing text served begun is_log node_in a serves fits =
      by answer.session refl run_of.sends
    where
      answer : AnswerParts
      answer = serves.answer

      run_of : SendsAnswer node answer text served
      run_of = serves.sends

      is_text : (session : Option (List ℕ)) → answer.session ≡ session
          → text ≡ answer.text ++ written_behind session answer.framing run_of.sent run_of.gone
      is_text session e =
          run_of.text_is ∙ ap (λ s. answer.text ++ written_behind s answer.framing run_of.sent run_of.gone) e

      by : (session : Option (List ℕ)) → answer.session ≡ session
          → SendsTo node session run_of.sent run_of.gone
          → FollowsServed limits log begun text served node
      by None e (_, _) =
          refused limits log is_log node node node_in head contest framing answer begun a serves.answers text
          served run_of.tells.status e (is_text None e)
      by (Some opened) e run =
          let (token, told, has) = told_by node opened opened [] run_of.sent run_of.gone told_none run in
          accepted limits log is_log node node node_in head contest framing answer begun a serves.answers
          text served run_of.tells.status (node ∷ []) opened token run_of.sent run_of.gone
          (all_more log node [] node_in (none_in log)) e told
          (λ keeps. subst (HasAll node token) (sym run_of.tells.gone_is ∙ keeps) has)
          (is_text (Some opened) e) fits

  pub primaries_followed : PrimariesAreFollowed
  primaries_followed limits log turn start now head contest framing answer text served begun is_log node_in meets a answers run_of fits =
      by answer.session refl run_of.sends
    where
      is_text : (session : Option (List ℕ)) → answer.session ≡ session
          → text ≡ answer.text ++ written_behind session answer.framing run_of.sent run_of.gone
      is_text session e =
          run_of.text_is ∙ ap (λ s. answer.text ++ written_behind s answer.framing run_of.sent run_of.gone) e

      new : (token : List ℕ) → IsOver now token run_of.gone → served.gone ≡ false
          → next now.primary.node token ≡ Nothing_new
      new token over keeps = (subst (IsOver now token) (sym run_of.tells.gone_is ∙ keeps) over).0

      by : (session : Option (List ℕ)) → answer.session ≡ session
          → SendsLiveTo turn start session run_of.sent run_of.gone now
          → FollowsServed limits log begun text served now.primary.node
      by None e (_, _, _) =
          refused limits log is_log start.primary.node now.primary.node node_in head contest framing answer
          begun a answers text served run_of.tells.status e (is_text None e)
      by (Some opened) e (token, run, over) =
          let (nodes, all, told) = told_live log turn start opened (meets opened e) run_of.sent now token run in
          accepted limits log is_log start.primary.node now.primary.node node_in head contest framing answer
          begun a answers text served run_of.tells.status nodes opened token run_of.sent run_of.gone all e told
          (new token over) (is_text (Some opened) e) fits

  pub broken_off_followed : BrokenOffIsFollowed
  broken_off_followed limits log turn start now head contest framing answer text begun is_log node_in meets a answers broken opening_fits fits next_fits =
      by broken
    where
      fit_of : (sent : List Commit) (begun_last : List ℕ)
          → text ≡ answer.text ++ (commit_frames answer.framing sent ++ begun_last) → AreTexts (map commit_text sent)
      fit_of sent begun_last is =
          let all = ap length is ∙ length-append answer.text (commit_frames answer.framing sent ++ begun_last) in
          let both = length-append (commit_frames answer.framing sent) begun_last in
          texts_fit answer.framing (map commit_text sent) (length text) (omega (arith, all, both)) fits

      next_part : (opened : List ℕ) → answer.session ≡ Some opened → (sent : List Commit)
          (token last : List ℕ) → HasSent turn start opened sent now token
          → text ≡ answer.text ++ (commit_frames answer.framing sent ++ last)
          → BeginsNext answer.framing now token last → FollowsInLog limits log answer begun text
      next_part opened session sent token last run is (inl (inl none)) =
          let (nodes, all, told) = told_live log turn start opened (meets opened session) sent now token run in
          let same : commit_frames answer.framing sent ++ last ≡ commit_frames answer.framing sent = ap (λ l. commit_frames answer.framing sent ++ l) none ∙ append-nil (commit_frames answer.framing sent) in
          frames_part limits log is_log start.primary.node node_in head contest framing answer begun a answers text
          nodes opened token sent all session told opening_fits (fit_of sent last is)
          (is ∙ ap (λ l. answer.text ++ l) same)
      next_part opened session sent token last run is (inl (inr (commit, rest, e, split))) =
          let (nodes, all, told) = told_live log turn start opened (meets opened session) sent now token run in
          let node = now.primary.node in
          let texts = map commit_text sent in
          let end = frame_end answer.framing in
          going_part limits log is_log start.primary.node node_in head contest framing answer begun a answers text
          (node ∷ nodes) opened commit.token (texts ++ commit_text commit ∷ [])
          (all_more log node nodes (meets opened session sent now token run) all) session
          (told_commit texts token node commit (told_cons node nodes opened texts token told)
          (head_of node nodes) (commit_is node token commit e))
          opening_fits (one_fits texts (commit_text commit) (fit_of sent last is) (next_fits token commit e))
          (rest ++ end)
          (ap (λ t. t ++ end) (told_one answer texts (commit_text commit))
          ∙ ends_at answer.text (commit_frames answer.framing sent) (frame answer.framing (commit_text commit)) end last (rest ++ end)
          (ap (λ t. t ++ end) split ∙ append_assoc last rest end)
          ∙ ap (λ t. t ++ (rest ++ end)) (sym is))
      next_part opened session sent token last run is (inr (true, rest, over, split)) =
          let (nodes, all, told) = told_live log turn start opened (meets opened session) sent now token run in
          let texts = map commit_text sent in
          let end = frame_end answer.framing in
          going_part limits log is_log start.primary.node node_in head contest framing answer begun a answers text
          nodes opened token texts all session told opening_fits (fit_of sent last is) rest
          (ap (λ l. (answer.text ++ l) ++ end) (sym (append-nil (commit_frames answer.framing sent)))
          ∙ ends_at answer.text (commit_frames answer.framing sent) [] end last rest split ∙ ap (λ t. t ++ rest) (sym is))
      next_part opened session sent token last run is (inr (false, rest, over, split)) =
          let (nodes, all, told) = told_live log turn start opened (meets opened session) sent now token run in
          let texts = map commit_text sent in
          let end = frame_end answer.framing in
          let line = line_feed ∷ [] in
          going_part limits log is_log start.primary.node node_in head contest framing answer begun a answers text
          nodes opened token (texts ++ line ∷ []) all session (told_line_feed texts token told) opening_fits
          (one_fits texts line (fit_of sent last is) (omega arith)) rest
          (ap (λ t. t ++ end) (told_one answer texts line)
          ∙ ends_at answer.text (commit_frames answer.framing sent) (frame answer.framing line) end last rest split
          ∙ ap (λ t. t ++ rest) (sym is))

      by : WroteLive turn start answer now (Some []) (Some text)
          ⊎ ((why : CommitFault) × WroteRefused turn start answer why now (Some []) (Some text))
          → FollowsInLog limits log answer begun text
      by (inl (inl ((prefix, rest, split, wrote), same))) =
          answer_part limits log is_log start.primary.node node_in head contest framing answer begun a answers text
          opening_fits rest (split ∙ ap (λ p. p ++ rest) (sym wrote)) answer.session refl
      by (inl (inr (opened, cut, session, short, wrote))) =
          next_part opened session short.sent short.token short.begun short.has_sent
          (wrote ∙ ap (λ t. answer.text ++ t) short.text_is) short.begins
      by (inr (why, (opened, cut, session, refused, wrote))) =
          let (nodes, all, told) = told_live log turn start opened (meets opened session) refused.sent refused.before refused.token refused.has_sent in
          let is = wrote ∙ ap (λ t. answer.text ++ t) refused.text_is in
          frames_part limits log is_log start.primary.node node_in head contest framing answer begun a answers text
          nodes opened refused.token refused.sent all session told opening_fits
          (fit_of refused.sent [] (is ∙ ap (λ l. answer.text ++ l) (sym (append-nil (commit_frames answer.framing refused.sent))))) is
