-- Lemmas on runs of a script.
use Rattle.std.proofs.Common.{◌≡◌, ◌≢◌, refl, sym, ap, ◌∙◌, subst, ℕ, zero, suc, ◌+◌, ◌<◌, ◌≤◌, arith, List, [], ◌∷◌, ◌++◌, length, map, slice_get, Option, Some, None, Result, Ok, Err, OnOk, IfErr, IfSome, Bor, append_assoc}
use Rattle.std.proofs.lemmas.List.{append-nil}
use Rattle.std.proofs.lemmas.Option.{slice_get_past}
use Rattle.std.specs.Prelude.{unwrap_or}
use Rattle.std.specs.Option.{option_and_then}
use Rattle.feed_settings.specs.Limits.{Limits}
use Rattle.feed_changes.specs.declared.change.Change.{Change}
use Rattle.feed_note.specs.Lines.{lines as lines_of}
use Rattle.feed_node.specs.States.{NodeState, published_token}
use Rattle.feed_world.specs.Log.{Log, numbered}
use Rattle.feed_world.specs.Position.{node_where}
use Rattle.feed_world.specs.States.{FollowingMirror, WorldState, IsWorld, AreMirrors, shown_at}
use Rattle.feed_world.specs.World.{Mirror, World, node_of}
use Rattle.feed_world.specs.declared.event.Event.{Event}
use Rattle.feed_world.specs.declared.event.Event.TheVariants as event
use Rattle.feed_play.specs.FeedLines.{TakesFeed}
use Rattle.feed_play.specs.Lines.{LinesLeft}
use Rattle.feed_play.specs.Player.{node_token, Makes, DoesAsked, Replies, Shows, LineDone, LineStops, StopsAsked, StopsShow, StopsShowing, PlaysNext, PlaysOn, PlaysUpTo}
use Rattle.feed_play.specs.Script.{AskedWorld, action_in, words}
use Rattle.feed_play.specs.Printed.{Prints, shown_text}
use Rattle.feed_play.specs.declared.fault.PlayCause.{PlayCause}
use Rattle.feed_play.specs.declared.fault.PlayCause.TheVariants as cause
use Rattle.feed_play.specs.declared.fault.PlayFault.{PlayFault}
use Rattle.feed_play.specs.declared.script.Action.{Action}
use Rattle.feed_play.specs.declared.script.Action.TheVariants as action

-- ---- what nodes show

module _ (limits : Limits) (log : Log) where
  shows_place : (ms : List Mirror) (fs : List FollowingMirror) → AreMirrors limits log ms fs → (i : ℕ) (node : NodeState) → slice_get (map (λ f. f.mirror.node) fs) i ≡ Some node
      → (i < length ms) × (node ≡ node_where log (option_and_then (λ m. m.place) (slice_get ms i)))
  shows_place [] [] h i node e = absurd (cc)
  shows_place [] (f ∷ fs) h i node e = absurd h
  shows_place (m ∷ ms) [] h i node e = absurd h
  shows_place (m ∷ ms) (f ∷ fs) h zero node e = (omega arith, sym (some_same e) ∙ h.0.node)
    where
      node_or : Option NodeState → NodeState
      node_or None = f.mirror.node
      node_or (Some n) = n

      some_same : Some f.mirror.node ≡ Some node → f.mirror.node ≡ node
      some_same same = ap node_or same
  shows_place (m ∷ ms) (f ∷ fs) h (suc i) node e = let (less, same) = shows_place ms fs h.1 i node e in (omega arith, same)

  shows_none : (ms : List Mirror) (fs : List FollowingMirror) → AreMirrors limits log ms fs → (i : ℕ) → slice_get (map (λ f. f.mirror.node) fs) i ≡ None → length ms ≤ i
  shows_none [] [] h i e = omega arith
  shows_none [] (f ∷ fs) h i e = absurd h
  shows_none (m ∷ ms) [] h i e = absurd h
  shows_none (m ∷ ms) (f ∷ fs) h zero e = absurd (cc)
  shows_none (m ∷ ms) (f ∷ fs) h (suc i) e = let less = shows_none ms fs h.1 i e in omega arith

module _ (w : World) (state : WorldState) (stands : IsWorld w state) where
  shown_where : (i : ℕ) (node : NodeState) → shown_at state i ≡ Some node → (i ≤ length w.mirrors) × (node ≡ node_of w i)
  shown_where zero node e = (omega arith, sym (ap node_or e) ∙ ap (λ p. p.node) stands.nodes.shows)
    where
      node_or : Option NodeState → NodeState
      node_or None = state.primary.node
      node_or (Some n) = n
  shown_where (suc i) node e = let (less, same) = shows_place w.limits (numbered w.log) w.mirrors state.followers stands.nodes.mirrors i node e in (omega arith, same)

  shown_nowhere : (i : ℕ) → shown_at state i ≡ None → length w.mirrors < i
  shown_nowhere zero e = absurd (cc)
  shown_nowhere (suc i) e = let less = shows_none w.limits (numbered w.log) w.mirrors state.followers stands.nodes.mirrors i e in omega arith

  -- the token that a node of the world in memory has published
  pub token_of_node : (i : ℕ) (node : NodeState) → shown_at state i ≡ Some node → published_token node ≡ node_token w (Some i)
  token_of_node i node e = ap published_token (shown_where i node e).1

  pub token_of_none : (i : ℕ) → shown_at state i ≡ None → None ≡ node_token w (Some i)
  token_of_none zero e = absurd (cc)
  token_of_none (suc i) e =
      let past = slice_get_past w.mirrors i (let less = shown_nowhere (suc i) e in omega arith) in
      ap (λ m. published_token (node_where (numbered w.log) (option_and_then (λ m. m.place) m))) (sym past)

-- ---- a further line

-- what was done is done at this line
pub through : (r : Result (Unit {0}) PlayFault) (p : Result (Unit {0}) PlayCause) (A : Type 0) → OnOk r (p ≡ Ok tt) → OnOk p A → OnOk r A
through (Ok u) p A is done = subst (λ q. OnOk q A) is done
through (Err why) p A is done = tt

pub OnOk-weaker : {A B : Type 0} (p : Result (Unit {0}) PlayCause) → (A → B) → OnOk p A → OnOk p B
OnOk-weaker (Ok u) f h = f h
OnOk-weaker (Err why) f h = tt

module _ (asks : Option Action) (lines : LinesLeft) where
  pub happens : (what : Event) (old new : WorldState) (before after : List ℕ) → asks ≡ Some (action.Event what)
      → Replies what old new before after → LineDone asks old new lines lines before after
  happens what old new before after is replies w stands =
      let (then, state, (text, told, grown)) = replies w stands in
      (then, state, (text, subst (λ o. DoesAsked o w lines text then lines) (sym is) (refl, told), grown))

  pub commits : (count : ℕ) (changes : List Change) (left : LinesLeft) (old new : WorldState) (before after : List ℕ) → asks ≡ Some (action.Commit count)
      → TakesFeed lines left count changes → Replies (event.Commit changes) old new before after → LineDone asks old new lines left before after
  commits count changes left old new before after is fed replies w stands =
      let (then, state, (text, told, grown)) = replies w stands in
      (then, state, (text, subst (λ o. DoesAsked o w lines text then left) (sym is) (record { changes = changes; fed = fed; replied = told }), grown))

  pub shows : (i : ℕ) (state : WorldState) (before after : List ℕ) → asks ≡ Some (action.Show i) → Shows state i before after → LineDone asks state state lines lines before after
  shows i state before after is (node, shown, grown) w stands =
      let (there, same) = shown_where w state stands i node shown in
      (w, stands, (shown_text node.published, subst (λ o. DoesAsked o w lines (shown_text node.published) w lines) (sym is) (refl, refl, record { is_there = there; shown = ap (λ n. shown_text n.published) same }), grown))

  abbrev fault_at : ℕ → PlayCause → PlayFault
  fault_at n what = record { line = n; cause = what }

  no_show : (i : ℕ) (state : WorldState) (w : World) → IsWorld w state → (n : ℕ) (why : PlayCause) → n ≡ lines.read → why ≢ cause.Memory → StopsShow state i why → StopsShowing i w lines (fault_at n why)
  no_show i state w stands n (cause.World why) at some (is, none) = (ap (λ m. fault_at m (cause.World why)) at ∙ ap (λ y. fault_at lines.read (cause.World y)) is, shown_nowhere w state stands i none)
  no_show i state w stands n cause.Memory at some h = absurd (some refl)
  no_show i state w stands n cause.Script at some h = absurd h
  no_show i state w stands n cause.Limits at some h = absurd h
  no_show i state w stands n cause.Shape at some h = absurd h
  no_show i state w stands n (cause.Line why) at some h = absurd h

  pub shows_not : (r : Result (Unit {0}) PlayFault) (p : Result (Unit {0}) PlayCause) (number i : ℕ) (state : WorldState) → asks ≡ Some (action.Show i) → number ≡ lines.read
      → IfErr r (λ why. (why.line ≡ number) × (p ≡ Err why.cause)) → IfErr p (λ cause. StopsShow state i cause) → IfErr r (λ why. LineStops asks state lines why)
  shows_not (Ok u) p number i state is at told stops = tt
  shows_not (Err why) p number i state is at told stops = λ w stands some.
      subst (λ o. StopsAsked o w lines why) (sym is) (no_show i state w stands why.line why.cause (told.0 ∙ at) some (subst (λ q. IfErr q (λ cause. StopsShow state i cause)) told.1 stops))

-- ---- a whole script

-- printed from here on, of a run that leads to the world of this state
abbrev pub HasPlayed : List ℕ → AskedWorld → WorldState → LinesLeft → List ℕ → List ℕ → Type 0
HasPlayed script asked state lines initial now = (w : World) × IsWorld w state × Prints initial now (λ told. PlaysUpTo script asked told w lines)

pub played_more : (script : List ℕ) (asked : AskedWorld) (old new : WorldState) (initial before now line : List ℕ) (lines behind left : LinesLeft) → HasPlayed script asked old lines initial before
    → lines.left ≡ line ∷ behind.left → behind.read ≡ lines.read + 1 → LineDone (action_in asked line) old new behind left before now → HasPlayed script asked new left initial now
played_more script asked old new initial before now line lines behind left (w, stands, (told, up, grown)) is read done =
    let (then, state, (text, does, more)) = done w stands in
    let next : PlaysNext asked w lines text then left = record { line = line; behind = behind; next = record { left = is; read = read }; does = does } in (
      then,
      state,
      (
        told ++ text,
        record { first = up.first; more = up.more; lines = up.lines; start = up.start; makes = up.makes; plays = PlaysOn.one_more told text w then lines left up.plays next },
        more ∙ ap (λ l. l ++ text) grown ∙ append_assoc initial told text,
      ),
    )

-- no line says a world in no bytes
no_world : (asked : AskedWorld) (w : World) → Makes [] asked w → ⊥
unfolding words
no_world asked w makes = absurd (none_some makes.says)
  where
    none_some : {a : AskedWorld} → None ≡ Some a → ⊥
    none_some e = absurd (cc)

-- nothing was played yet
pub begun : (script : List ℕ) (first empty : Bor (List ℕ)) (o : Option (Bor (List ℕ))) (begin behind : LinesLeft) (asked : AskedWorld) (state : WorldState) (initial : List ℕ) → begin ≡ record { left = lines_of script; read = 0 }
    → IfSome o (λ line. (begin.left ≡ line.now ∷ behind.left) × (behind.read ≡ begin.read + 1)) → first ≡ unwrap_or o empty → empty.now ≡ []
    → (w : World) × IsWorld w state × Makes first.now asked w → HasPlayed script asked state behind initial initial
begun script first empty None begin behind asked state initial is some e nothing (w, stands, makes) = absurd (no_world asked w (subst (λ l. Makes l asked w) (ap (λ l. l.now) e ∙ nothing) makes))
begun script first empty (Some line) begin behind asked state initial is (left, read) e nothing (w, stands, makes) = (
  w,
  stands,
  (
    [],
    record {
      first = line.now;
      more = behind.left;
      lines = sym (ap (λ b. b.left) is) ∙ left;
      start = w;
      makes = subst (λ l. Makes l asked w) (ap (λ l. l.now) e) makes;
      plays = subst (λ n. PlaysOn asked w (record { left = behind.left; read = n }) [] w behind) (read ∙ ap (λ b. b.read + 1) is) PlaysOn.none;
    },
    sym (append-nil initial),
  ),
)
