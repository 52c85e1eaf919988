-- Why a state is none of the primary's.
use Rattle.std.proofs.Common.{◌≡◌, ◌≢◌, ◌≤◌, refl, sym, ap, ◌∙◌, subst, ℕ, true≢false, List, [], ◌∷◌, ◌++◌, length, Option, None, Some}
use Rattle.std.specs.Prelude.{IfSome, IsSome}
use Rattle.feed_settings.specs.Limits.{Limits}
use Rattle.feed_note.specs.Meaning.{OnlyOne}
use Rattle.feed_node.specs.Publishing.{Published}
use Rattle.feed_note.specs.declared.line.Line.{Line}
use Rattle.feed_node.specs.Mirroring.{MirrorState, first_opening}
use Rattle.feed_node.specs.Reading.{AllGood}
use Rattle.feed_node.specs.States.{NodeState, token_of}
use Rattle.feed_audit.specs.Differences.{TellsDifference, TellsEnd, EndsAt, LacksToken, Explains, IsFirstUnder}
use Rattle.feed_audit.specs.States.{afresh, IsStateOf}
use Rattle.feed_audit.specs.Walks.{Walked, ReadsMore, GoesToEnd, AllAre}
use Rattle.feed_audit.specs.declared.difference.Difference.{Difference}
use Rattle.feed_audit.specs.declared.difference.Difference.TheVariants.{NoToken, Ended, At, Same}
use Rattle.feed_audit.proofs.Agreeing.{agree_by, all_lines, good_of, state_of}
use Rattle.feed_audit.proofs.Bringing.{brings}
use Rattle.feed_text.specs.Limits.{line_bytes}
use Rattle.feed_audit.proofs.Walking.{all_end, all_goes, published_is}

-- what was read of the primary's publishes no such token
abbrev pub Lacks : Limits → List ℕ → List ℕ → ℕ → MirrorState → Published → Type 0
Lacks limits primary behind count mirror state =
    (notes : List Line) × Walked (afresh limits) primary behind notes count mirror × AllAre (afresh limits) (λ shown. shown.token ≢ state.token) notes

-- it was read to its end, and this is what it publishes last
ends_at : (limits : Limits) (primary : List ℕ) (notes : List Line) (count : ℕ) (new : MirrorState) → GoesToEnd (afresh limits) primary notes count new
    → EndsAt limits primary (token_of new.node.published)
ends_at limits primary notes count new g =
    let w = g.passes.walked in
    let said = notes ++ g.passes.more in
    let all = all_lines (afresh limits) primary g.behind said count new w g.part in
    record {
      notes = said;
      read = record {
        good = subst (λ ls. AllGood limits first_opening ls said) (sym all.0) (good_of (afresh limits) primary g.behind said count new w);
        short = subst (λ r. length r ≤ line_bytes) (sym all.1) g.short;
      };
      shown = ap token_of (published_is (afresh limits) primary g.behind said count new w);
    }

-- no state of it has the token
no_state : OnlyOne → (limits : Limits) (primary left : List ℕ) (count new_count : ℕ) (old new : MirrorState) (state : Published)
    (l : Lacks limits primary left count old state) → GoesToEnd (afresh limits) primary l.0 new_count new
    → (shown : Published) → IsStateOf limits primary shown → shown.token ≢ state.token
no_state only limits primary left count new_count old new state l g shown is =
    let notes = l.0 ++ g.passes.more in
    let all = all_lines (afresh limits) primary g.behind notes new_count new g.passes.walked g.part in
    agree_by only (afresh limits) (λ (s : Published). s.token ≢ state.token) primary notes
    (subst (λ ls. AllGood limits first_opening ls notes) (sym all.0) (good_of (afresh limits) primary g.behind notes new_count new g.passes.walked))
    (all_end (afresh limits) (λ (s : Published). s.token ≢ state.token) l.0 g.passes.more l.2 g.passes.quiet) shown is

pub no_token : OnlyOne → (limits : Limits) (primary left : List ℕ) (count new_count : ℕ) (old new : MirrorState) (state : Published) (before : Option (List ℕ)) (node : NodeState)
    (told : Difference) (l : Lacks limits primary left count old state) → GoesToEnd (afresh limits) primary l.0 new_count new → node ≡ new.node
    → TellsEnd before (token_of node.published) told → Explains limits primary before state told
no_token only limits primary left count new_count old new state before node told l g same tells = by told tells
  where
    lacks : (t : Difference) → TellsEnd before (token_of node.published) t → LacksToken limits primary before state t
    lacks t tell = record {
      none = no_state only limits primary left count new_count old new state l g;
      last = token_of node.published;
      ends = subst (λ (n : NodeState). EndsAt limits primary (token_of n.published)) (sym same) (ends_at limits primary l.0 new_count new g);
      tells = tell;
    }

    by : (t : Difference) → TellsEnd before (token_of node.published) t → Explains limits primary before state t
    by NoToken tell = lacks NoToken tell
    by (Ended last) tell = lacks (Ended last) tell
    by (At kind id side there) tell = absurd tell
    by Same tell = absurd tell

pub some_is : (o : Option Published) → IsSome o → (shown : Published) × (o ≡ Some shown)
some_is None h = absurd (true≢false (sym h))
some_is (Some shown) h = (shown, refl)

explains : (limits : Limits) (primary : List ℕ) (before : Option (List ℕ)) (state shown : Published) (told : Difference) → IsFirstUnder limits primary state.token shown
    → ¬ (shown ≡ state) → TellsDifference shown.tables state.tables told → Explains limits primary before state told
explains limits primary before state shown NoToken is other t = absurd t
explains limits primary before state shown (Ended last) is other t = absurd t
explains limits primary before state shown (At kind id side there) is other t = (shown, is, t)
explains limits primary before state shown Same is other t =
    absurd (other (λ i. record { tables = t i; token = is.named i }))

pub found_token : OnlyOne → (limits : Limits) (primary left behind : List ℕ) (count new_count : ℕ) (old new : MirrorState) (node : NodeState) (before : Option (List ℕ)) (state : Published) (told : Difference)
    (l : Lacks limits primary left count old state) → ReadsMore (afresh limits) primary behind l.0 new_count new → IsSome new.node.published → node ≡ new.node
    → ¬ (IsStateOf limits primary state)
    → ((shown : Published) → node.published ≡ Some shown → shown.token ≡ state.token)
    → ((shown : Published) → node.published ≡ Some shown → TellsDifference shown.tables state.tables told)
    → Explains limits primary before state told
found_token only limits primary left behind count new_count old new node before state told l g some is strange same tells =
    let its = some_is new.node.published some in
    let here = ap (λ (n : NodeState). n.published) is ∙ its.1 in
    let line = brings only (afresh limits) (λ (s : Published). s.token ≢ state.token) primary behind l.0 new_count new its.0 l.2 g its.1 in
    let shown = state_of (afresh limits) primary behind (l.0 ++ (g.before ++ g.note ∷ [])) new_count new its.0 g.walked its.1 in
    explains limits primary before state its.0 told
    (record {
      earlier = line.earlier;
      line = line.line;
      later = line.later;
      whole = line.whole;
      none = line.former;
      is = line.is;
      named = same its.0 here;
    })
    (λ e. strange (subst (IsStateOf limits primary) e shown)) (tells its.0 here)

other_token : (shown : Option Published) (state : Published) → ((s : Published) → shown ≡ Some s → s.token ≢ state.token)
    → IfSome shown (λ (s : Published). s.token ≢ state.token)
other_token None state h = tt
other_token (Some s) state h = h s refl

pub lacks_on : (limits : Limits) (primary left behind : List ℕ) (count new_count : ℕ) (old new : MirrorState) (node : NodeState) (state : Published)
    (l : Lacks limits primary left count old state) → (g : ReadsMore (afresh limits) primary behind l.0 new_count new) → node ≡ new.node
    → ((shown : Published) → node.published ≡ Some shown → shown.token ≢ state.token)
    → AllAre (afresh limits) (λ shown. shown.token ≢ state.token) (l.0 ++ (g.before ++ g.note ∷ []))
lacks_on limits primary left behind count new_count old new node state l g is other =
    all_goes (afresh limits) (λ (s : Published). s.token ≢ state.token) primary behind l.0 new_count new l.2 g
    (other_token new.node.published state (λ s e. other s (ap (λ (n : NodeState). n.published) is ∙ e)))
