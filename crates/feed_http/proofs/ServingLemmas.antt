-- What sessions are sent.
use Rattle.std.proofs.Common.{◌≡◌, ◌≢◌, refl, sym, ap, ◌∙◌, ℕ, zero, suc, ◌+◌, ◌-◌, ◌<◌, ◌≤◌, Bool, true, false, List, [], ◌∷◌, ◌++◌, length, get_or, arith, inl, inr, subst, Option, Some, None, append_assoc, append-nil, map, cond, not, nat_lt}
use Rattle.std.specs.Prelude.{slice_get, MatchOption, unwrap_or, if◌then◌else◌, position, IfSome}
use Rattle.std.specs.List.{flat_map, prefix_len}
use Rattle.std.proofs.lemmas.Bool.Decides.{nat_tests}
use Rattle.std.specs.Str.{bytes_eq}
use Rattle.std.specs.Io.KnownBytes.{Appends}
use Rattle.std.proofs.KnownBytes.{Appends-trans}
use Rattle.std.proofs.lemmas.Bool.{cases_Bool}
use Rattle.std.proofs.lemmas.Option.{option_and_then_some}
use Rattle.std.proofs.lemmas.Slice.Eq.{bytes_eq-Decides}
use Rattle.std.proofs.lemmas.Grind.{flat_map-append}
use Rattle.std.proofs.lemmas.List.{map-append}
use Rattle.feed_settings.specs.declared.framing.Framing.{Framing}
use Rattle.feed_node.specs.Publishing.{Published}
use Rattle.feed_node.specs.declared.commit.Commit.{Commit}
use Rattle.feed_node.specs.States.{NodeState, nothing_published, published_token, place_of, HoldsItsTokens, IsConsistent, tokens}
use Rattle.feed_node.specs.Serving.{is_published, commit_after, commit_text}
use Rattle.feed_node.proofs.Keeping.{tokens-length}
use Rattle.feed_http.specs.Sessions.{Next, Nothing_new, Lost, Commit_after, next, or_lost, Pulls}
use Rattle.feed_node.specs.declared.session.Pulled.{Pulled}
use Rattle.feed_node.specs.declared.session.Pulled.TheVariants.{More, UpToDate, Gone}
use Rattle.feed_http.specs.Device.{AppendsPrefix, counted}
use Rattle.feed_wire.specs.Framed.{frame, frame_end}
use Rattle.feed_answer.specs.Served.{behind_opening, farewell}
use Rattle.feed_answer.specs.Answered.{parts_of}
use Rattle.feed_http.specs.Serving.{Sends, up_to_date, lost, sends, commit_frames, HasAll, BeginsCommit, SendsAnswer}
use Rattle.feed_http.specs.Sending.{Sent, sent_none, sent_one, WroteCommits, WroteSome, WroteAnswer}
use Rattle.feed_http.specs.declared.fault.Served.{Served}

-- ---- a session moves on

-- a commit comes next where the token has a place, and the commit stands there
pub record Moves (node : NodeState) (token : List ℕ) (commit : Commit) : Type 0 where
  pub place : ℕ
  pub at : place_of node token ≡ Some place
  pub within : place < length node.kept
  pub behind : place_of node commit.token ≡ Some (place + 1)

token_at : (kept : List Commit) (k : ℕ) (c : Commit) → slice_get kept k ≡ Some c
    → (k < length kept) × (get_or (tokens kept) k [] ≡ c.token)
token_at [] k c e = let same : ◌≡◌ {A = Option Commit} None (Some c) = e in absurd (cc)
token_at (d ∷ kept) zero c e = let same : ◌≡◌ {A = Option Commit} (Some d) (Some c) = e in (omega arith, let is : d ≡ c = cc in ap (λ x. x.token) is)
token_at (d ∷ kept) (suc k) c e = let more = token_at kept k c e in (omega (arith, more.0), more.1)

pub or_lost_new : (o : Option Commit) → or_lost o ≢ Nothing_new
or_lost_new None e = let same : Lost ≡ Nothing_new = e in absurd (cc)
or_lost_new (Some c) e = let same : Commit_after c ≡ Nothing_new = e in absurd (cc)

pub or_lost_some : (o : Option Commit) (c : Commit) → or_lost o ≡ Commit_after c → o ≡ Some c
or_lost_some None c e = let same : Lost ≡ Commit_after c = e in absurd (cc)
or_lost_some (Some d) c e = let same : Commit_after d ≡ Commit_after c = e in let is : d ≡ c = cc in ap Some is

-- where a test first passes
first_at : (p : List ℕ → Bool) (xs : List (List ℕ)) (k : ℕ) → k < length xs
    → p (get_or xs k []) ≡ true → ((j : ℕ) → j < k → p (get_or xs j []) ≡ false)
    → prefix_len (λ x. not (p x)) xs ≡ k
first_at p [] k within here before = absurd (omega arith)
first_at p (x ∷ xs) zero within here before = rw here refl
first_at p (x ∷ xs) (suc k) within here before =
    let first : p x ≡ false = before 0 (omega arith) in
    let more = first_at p xs k (omega arith) here (λ j less. before (suc j) (omega arith)) in
    rw first (omega arith)

position_at : (p : List ℕ → Bool) (xs : List (List ℕ)) (k : ℕ) → k < length xs
    → p (get_or xs k []) ≡ true → ((j : ℕ) → j < k → p (get_or xs j []) ≡ false)
    → position p xs ≡ Some k
position_at p xs k within here before =
    let at = first_at p xs k within here before in
    let less : nat_lt k (length xs) ≡ true = grind (arith, nat_tests) in
    ap (λ n. cond (nat_lt n (length xs)) (Some n) None) at ∙ ap (λ b. cond b (Some k) None) less

differs : (x y : List ℕ) → x ≢ y → bytes_eq x y ≡ false
differs x y h = elim (cases_Bool (bytes_eq x y)) [ inl same ↦ absurd (h ((bytes_eq-Decides x y).0 same)) | inr other ↦ other ]

place_behind : (node : NodeState) (commit : Commit) (k : ℕ) (p : Published) → HoldsItsTokens node p
    → k < length node.kept → get_or (tokens node.kept) k [] ≡ commit.token
    → place_of node commit.token ≡ Some (k + 1)
place_behind node commit k p h within is =
    let many : length node.held ≡ suc (length node.kept) = ap length h.held ∙ ap suc (tokens-length node.kept) in
    let there : get_or node.held (suc k) [] ≡ commit.token = ap (λ l. get_or l (suc k) []) h.held ∙ is in
    let found = position_at (λ held. bytes_eq held commit.token) node.held (suc k) (omega arith) ((bytes_eq-Decides (get_or node.held (suc k) []) commit.token).1 there)
    (λ j less. differs (get_or node.held j []) commit.token (λ same. h.distinct j (suc k) [] less (omega arith) (same ∙ sym there))) in
    found ∙ ap Some (let e : suc k ≡ k + 1 = omega arith in e)

place_next : (node : NodeState) (commit : Commit) (k : ℕ) (o : Option Published)
    → MatchOption o (node ≡ nothing_published) (HoldsItsTokens node) → k < length node.kept
    → get_or (tokens node.kept) k [] ≡ commit.token → place_of node commit.token ≡ Some (k + 1)
place_next node commit k None h within is = let none : length node.kept ≡ 0 = ap (λ n. length n.kept) h in absurd (omega arith)
place_next node commit k (Some p) h within is = place_behind node commit k p h within is

moves_at : (node : NodeState) (token : List ℕ) (commit : Commit) → IsConsistent node → (k : ℕ)
    → place_of node token ≡ Some k → slice_get node.kept k ≡ Some commit → Moves node token commit
moves_at node token commit consistent k at is =
    let found = token_at node.kept k commit is in
    record { place = k; at = at; within = found.0; behind = place_next node commit k node.published consistent found.0 found.1 }

pub next_moves : (node : NodeState) (token : List ℕ) (commit : Commit) → IsConsistent node
    → next node token ≡ Commit_after commit → Moves node token commit
next_moves node token commit consistent e =
    elim (cases_Bool (is_published (published_token node) token)) [
      | inl h ↦ (let same : Nothing_new ≡ Commit_after commit = ap (λ b. if b then Nothing_new else or_lost (commit_after node token)) (sym h) ∙ e in absurd (cc))
      | inr h ↦ there (or_lost_some (commit_after node token) commit (ap (λ b. if b then Nothing_new else or_lost (commit_after node token)) (sym h) ∙ e))
    ]
  where
    there : commit_after node token ≡ Some commit → Moves node token commit
    there e2 = option_and_then_some (slice_get node.kept) (place_of node token) commit e2 (moves_at node token commit consistent)

-- how many commits may come
abbrev pub ahead : NodeState → List ℕ → ℕ
ahead node token = length node.kept - unwrap_or (place_of node token) (length node.kept)

pub ahead_falls : (node : NodeState) (token : List ℕ) (commit : Commit) → Moves node token commit
    → ahead node commit.token < ahead node token
ahead_falls node token commit m =
    let here : unwrap_or (place_of node token) (length node.kept) ≡ m.place = ap (λ o. unwrap_or o (length node.kept)) m.at in
    let there : unwrap_or (place_of node commit.token) (length node.kept) ≡ m.place + 1 = ap (λ o. unwrap_or o (length node.kept)) m.behind in
    let within = m.within in
    omega arith

-- ---- runs of a session

-- a run, and what follows it
pub sends_behind : (node : NodeState) (start to : List ℕ) (sent later : List Commit) (gone : Bool)
    → Sent node start sent to → Sends node to later gone → Sends node start (sent ++ later) gone
sends_behind node start to sent later gone (sent_none _) s = s
sends_behind node start to sent later gone (sent_one _ token earlier commit run e) s =
    subst (λ l. Sends node start l gone) (sym (append_assoc earlier (commit ∷ []) later))
    (sends_behind node start token earlier (commit ∷ later) gone run (sends token commit later gone e s))

-- a run at whose end there is no more
pub all_sent : (node : NodeState) (start to : List ℕ) (sent : List Commit) (gone : Bool)
    → Sent node start sent to → HasAll node to gone → Sends node start sent gone
all_sent node start to sent false run e =
    subst (λ l. Sends node start l false) (append-nil sent) (sends_behind node start to sent [] false run (up_to_date to e))
all_sent node start to sent true run e =
    subst (λ l. Sends node start l true) (append-nil sent) (sends_behind node start to sent [] true run (lost to e))

-- wherever a session is, it is sent some commits, and no more
pub record Runs (node : NodeState) (token : List ℕ) : Type 0 where
  pub sent : List Commit
  pub gone : Bool
  pub sends_them : Sends node token sent gone

runs_from : (node : NodeState) → IsConsistent node → (fuel : ℕ) (token : List ℕ) (n : Next)
    → next node token ≡ n → ahead node token ≤ fuel → Runs node token
runs_from node consistent fuel token Nothing_new e few = record { sent = []; gone = false; sends_them = up_to_date token e }
runs_from node consistent fuel token Lost e few = record { sent = []; gone = true; sends_them = lost token e }
runs_from node consistent zero token (Commit_after commit) e few =
    let falls = ahead_falls node token commit (next_moves node token commit consistent e) in
    absurd (omega arith)
runs_from node consistent (suc fuel) token (Commit_after commit) e few =
    let falls = ahead_falls node token commit (next_moves node token commit consistent e) in
    let rest = runs_from node consistent fuel commit.token (next node commit.token) refl (omega arith) in
    record { sent = commit ∷ rest.sent; gone = rest.gone; sends_them = sends token commit rest.sent rest.gone e rest.sends_them }

pub runs : (node : NodeState) (token : List ℕ) → IsConsistent node → Runs node token
runs node token consistent = runs_from node consistent (ahead node token) token (next node token) refl (omega arith)

-- ---- what was written

pub frames-append : (framing : Framing) (xs ys : List Commit)
    → commit_frames framing (xs ++ ys) ≡ commit_frames framing xs ++ commit_frames framing ys
frames-append framing xs ys = ap (flat_map (frame framing)) (map-append commit_text xs ys) ∙ flat_map-append (frame framing) (map commit_text xs) (map commit_text ys)

-- what a run wrote is a prefix of all that is written, if what came last is a prefix of what comes
-- next
pub wrote_some : (node : NodeState) (start to : List ℕ) (sent : List Commit) (framing : Framing) (old new : Option (List ℕ)) (begun behind : List ℕ) (rest : Runs node to)
    → Sent node start sent to → Appends old new (commit_frames framing sent ++ begun)
    → behind_opening framing (map commit_text rest.sent) rest.gone ≡ begun ++ behind
    → WroteSome node start framing old new
wrote_some node start to sent framing old new begun behind rest run wrote goes = record {
  sent = sent ++ rest.sent;
  gone = rest.gone;
  sends = sends_behind node start to sent rest.sent rest.gone run rest.sends_them;
  prefix = (
    commit_frames framing sent ++ begun,
    behind,
    ap (λ t. t ++ (farewell framing rest.gone ++ frame_end framing)) (frames-append framing sent rest.sent)
        ∙ append_assoc (commit_frames framing sent) (commit_frames framing rest.sent) (farewell framing rest.gone ++ frame_end framing)
        ∙ ap (λ t. commit_frames framing sent ++ t) goes
        ∙ sym (append_assoc (commit_frames framing sent) begun behind),
    wrote,
  );
}

-- ---- what a pull says

pub pulls_more : (n : Next) (token new_token sent new_sent : List ℕ) (pulled : Pulled)
    → Pulls n token new_token sent new_sent pulled → pulled ≡ More
    → (commit : Commit) × (n ≡ Commit_after commit) × (new_token ≡ commit.token) × (new_sent ≡ sent ++ commit_text commit)
pulls_more Nothing_new token new_token sent new_sent pulled h e = let same : UpToDate ≡ More = sym h.0 ∙ e in absurd (cc)
pulls_more Lost token new_token sent new_sent pulled h e = let same : Gone ≡ More = sym h.0 ∙ e in absurd (cc)
pulls_more (Commit_after commit) token new_token sent new_sent pulled h e = (commit, refl, h.1, h.2)

pub pulls_up_to_date : (n : Next) (token new_token sent new_sent : List ℕ) (pulled : Pulled)
    → Pulls n token new_token sent new_sent pulled → pulled ≡ UpToDate
    → (n ≡ Nothing_new) × (new_token ≡ token)
pulls_up_to_date Nothing_new token new_token sent new_sent pulled h e = (refl, h.1)
pulls_up_to_date Lost token new_token sent new_sent pulled h e = let same : Gone ≡ UpToDate = sym h.0 ∙ e in absurd (cc)
pulls_up_to_date (Commit_after commit) token new_token sent new_sent pulled h e = let same : More ≡ UpToDate = sym h.0 ∙ e in absurd (cc)

pub pulls_gone : (n : Next) (token new_token sent new_sent : List ℕ) (pulled : Pulled)
    → Pulls n token new_token sent new_sent pulled → pulled ≡ Gone
    → (n ≡ Lost) × (new_token ≡ token)
pulls_gone Nothing_new token new_token sent new_sent pulled h e = let same : UpToDate ≡ Gone = sym h.0 ∙ e in absurd (cc)
pulls_gone Lost token new_token sent new_sent pulled h e = (refl, h.1)
pulls_gone (Commit_after commit) token new_token sent new_sent pulled h e = let same : More ≡ Gone = sym h.0 ∙ e in absurd (cc)

-- nothing more was written
pub wrote_these : (node : NodeState) (start to : List ℕ) (sent : List Commit) (framing : Framing) (old new : Option (List ℕ))
    → Sent node start sent to → Appends old new (commit_frames framing sent)
    → WroteCommits node start framing old new
wrote_these node start to sent framing old new run wrote = record {
  sent = sent;
  token = to;
  run = run;
  begun = [];
  begins = inl refl;
  wrote = subst (Appends old new) (sym (append-nil (commit_frames framing sent))) wrote;
}

-- a prefix of the next commit was written
pub wrote_into : (node : NodeState) (start to : List ℕ) (sent : List Commit) (commit : Commit) (framing : Framing) (old middle new : Option (List ℕ))
    → Sent node start sent to → next node to ≡ Commit_after commit
    → Appends old middle (commit_frames framing sent)
    → AppendsPrefix middle new (frame framing (commit_text commit))
    → WroteCommits node start framing old new
wrote_into node start to sent commit framing old middle new run e wrote (prefix, more, split, prefix_wrote) = record {
  sent = sent;
  token = to;
  run = run;
  begun = prefix;
  begins = inr (commit, more, e, split);
  wrote = Appends-trans old middle new (commit_frames framing sent) prefix wrote prefix_wrote;
}

-- what was written is a prefix of all that is written
pub wrote_part : (node : NodeState) (start : List ℕ) (framing : Framing) (old new : Option (List ℕ))
    → IsConsistent node → WroteCommits node start framing old new → WroteSome node start framing old new
wrote_part node start framing old new consistent w = by w.begins
  where
    by : BeginsCommit framing node w.token w.begun → WroteSome node start framing old new
    by (inl none) =
        let rest = runs node w.token consistent in
        let text = behind_opening framing (map commit_text rest.sent) rest.gone in
        wrote_some node start w.token w.sent framing old new w.begun text rest w.run w.wrote (ap (λ t. t ++ text) (sym none))
    by (inr (commit, more, e, split)) =
        let rest = runs node commit.token consistent in
        let all : Runs node w.token = record { sent = commit ∷ rest.sent; gone = rest.gone; sends_them = sends w.token commit rest.sent rest.gone e rest.sends_them } in
        let text = behind_opening framing (map commit_text rest.sent) rest.gone in
        wrote_some node start w.token w.sent framing old new w.begun (more ++ text) all w.run w.wrote
        (append_assoc (frame framing (commit_text commit)) (commit_frames framing rest.sent) (farewell framing rest.gone ++ frame_end framing)
        ∙ ap (λ t. t ++ text) split ∙ append_assoc w.begun more text)

-- the commit's frame joins those before it
pub wrote_one : (sent : List Commit) (commit : Commit) (framing : Framing) (old middle new : Option (List ℕ))
    → Appends old middle (commit_frames framing sent)
    → Appends middle new (frame framing (commit_text commit))
    → Appends old new (commit_frames framing (sent ++ commit ∷ []))
wrote_one sent commit framing old middle new wrote more =
    subst (Appends old new) (sym (frames-append framing sent (commit ∷ []) ∙ ap (λ t. commit_frames framing sent ++ t) (append-nil (frame framing (commit_text commit)))))
    (Appends-trans old middle new (commit_frames framing sent) (frame framing (commit_text commit)) wrote more)

-- ---- what a session ends with, and what stands before it

-- all commits were sent, and a prefix of the end was written
pub wrote_to_end : (node : NodeState) (start : List ℕ) (sent : List Commit) (gone : Bool) (framing : Framing) (old middle new : Option (List ℕ))
    → Sends node start sent gone → Appends old middle (commit_frames framing sent)
    → AppendsPrefix middle new (farewell framing gone ++ frame_end framing)
    → WroteSome node start framing old new
wrote_to_end node start sent gone framing old middle new s wrote (prefix, more, split, prefix_wrote) = record {
  sent = sent;
  gone = gone;
  sends = s;
  prefix = (
    commit_frames framing sent ++ prefix,
    more,
    ap (λ t. commit_frames framing sent ++ t) split ∙ sym (append_assoc (commit_frames framing sent) prefix more),
    Appends-trans old middle new (commit_frames framing sent) prefix wrote prefix_wrote,
  );
}

abbrev served_of : ℕ → List Commit → Bool → Served
served_of status sent gone = record { status = status; commits = counted 0 (length sent); gone = gone }

-- the answer that opens no session
pub sends_none : (node : NodeState) (status : ℕ) (framing : Framing) (text : List ℕ)
    → SendsAnswer node (parts_of status framing text None) text (record { status = status; commits = 0; gone = false })
sends_none node status framing text = record { sent = []; gone = false; sends = (refl, refl); text_is = sym (append-nil text); tells = record { status = refl; commits = refl; gone_is = refl } }

-- a prefix of the answer was written
pub wrote_answer : (node : NodeState) (status : ℕ) (framing : Framing) (text : List ℕ) (session : Option (List ℕ)) (old new : Option (List ℕ))
    → IfSome session (λ _. IsConsistent node)
    → AppendsPrefix old new text → WroteAnswer node (parts_of status framing text session) old new
wrote_answer node status framing text None old new consistent prefix =
    (text, served_of status [] false, sends_none node status framing text, prefix)
wrote_answer node status framing text (Some token) old new consistent (prefix, more, split, wrote) =
    let rest = runs node token consistent in
    let behind = behind_opening framing (map commit_text rest.sent) rest.gone in (
      text ++ behind,
      served_of status rest.sent rest.gone,
      record { sent = rest.sent; gone = rest.gone; sends = rest.sends_them; text_is = refl; tells = record { status = refl; commits = refl; gone_is = refl } },
      (prefix, more ++ behind, ap (λ t. t ++ behind) split ∙ append_assoc prefix more behind, wrote),
    )

-- the answer and a prefix of what the session is sent
pub wrote_session : (node : NodeState) (status : ℕ) (framing : Framing) (text token : List ℕ) (old middle new : Option (List ℕ))
    → Appends old middle text → WroteSome node token framing middle new
    → WroteAnswer node (parts_of status framing text (Some token)) old new
wrote_session node status framing text token old middle new wrote w =
    let (prefix, more, split, prefix_wrote) = w.prefix in
    let behind = behind_opening framing (map commit_text w.sent) w.gone in (
      text ++ behind,
      served_of status w.sent w.gone,
      record { sent = w.sent; gone = w.gone; sends = w.sends; text_is = refl; tells = record { status = refl; commits = refl; gone_is = refl } },
      (text ++ prefix, more, ap (λ t. text ++ t) split ∙ sym (append_assoc text prefix more), Appends-trans old middle new text prefix wrote prefix_wrote),
    )

-- the answer and all that the session is sent
pub sends_session : (node : NodeState) (status : ℕ) (framing : Framing) (text token : List ℕ) (sent : List Commit) (gone : Bool) (count : ℕ) (old middle new : Option (List ℕ))
    → Sends node token sent gone → count ≡ counted 0 (length sent) → Appends old middle text
    → Appends middle new (behind_opening framing (map commit_text sent) gone)
    → (all : List ℕ) × SendsAnswer node (parts_of status framing text (Some token)) all (record { status = status; commits = count; gone = gone }) × Appends old new all
sends_session node status framing text token sent gone count old middle new s is wrote more = (
  text ++ behind_opening framing (map commit_text sent) gone,
  record { sent = sent; gone = gone; sends = s; text_is = refl; tells = record { status = refl; commits = is; gone_is = refl } },
  Appends-trans old middle new text (behind_opening framing (map commit_text sent) gone) wrote more,
)
