-- What is answered of the states that were read.
use Rattle.std.proofs.Common.{◌≡◌, refl, sym, ap, ◌∙◌, subst, ℕ, ◌+◌, ◌≤◌, min, List, [], ◌∷◌, ◌++◌, length, append-nil, arith, Option, None, Some}
use Rattle.std.specs.Prelude.{IfSome}
use Rattle.feed_settings.specs.Limits.{Limits}
use Rattle.feed_tables.specs.Tables.{after_all}
use Rattle.feed_note.specs.Meaning.{OnlyOne}
use Rattle.feed_note.specs.Lines.{ended, lines, rest}
use Rattle.feed_node.specs.Publishing.{Published}
use Rattle.feed_note.proofs.LinesCut.{lines_are_the_only_cut}
use Rattle.feed_note.specs.declared.line.Line.{Line}
use Rattle.feed_text.specs.Limits.{line_bytes}
use Rattle.feed_node.specs.Mirroring.{MirrorState, mirror_after, publications}
use Rattle.feed_node.specs.Reading.{AllGood}
use Rattle.feed_node.specs.States.{NodeState, token_of, published_tables, tables_or_none}
use Rattle.feed_audit.specs.declared.since.Since.{Since}
use Rattle.feed_audit.specs.declared.verdict.Stray.{Stray}
use Rattle.feed_audit.specs.Answers.{AgreementFrom, StrayingFrom, IsStrange}
use Rattle.feed_audit.specs.Differences.{Explains}
use Rattle.feed_audit.specs.States.{Start, published_from, IsStateOf}
use Rattle.feed_audit.specs.Walks.{Walked, ReadsMore, GoesToEnd, AllAre, IsSince}
use Rattle.feed_audit.proofs.Agreeing.{agree_by, good_of, all_lines}
use Rattle.feed_audit.proofs.Bringing.{brings}
use Rattle.feed_audit.proofs.Walking.{all_end, all_goes, published_is}

-- the screen's text was read so far, and its states are the primary's
pub record Agrees (start : Start) (primary screen behind : List ℕ) (count states : ℕ) (mirror : MirrorState) : Type 0 where
  pub notes : List Line
  pub walked : Walked start screen behind notes count mirror
  pub all : AllAre start (IsStateOf start.limits primary) notes
  pub counted : states ≡ min (publications start.limits.history start.opening notes) 18446744073709551615

pub agrees_none : (start : Start) (primary screen : List ℕ) (mirror : MirrorState) → IfSome (published_from start []) (IsStateOf start.limits primary)
    → Walked start screen screen [] 0 mirror → Agrees start primary screen screen 0 0 mirror
agrees_none start primary screen mirror shown w = record { notes = []; walked = w; all = first; counted = refl }
  where
    first : AllAre start (IsStateOf start.limits primary) []
    first [] b e = shown
    first (n ∷ a) b e = absurd (cc)

-- and the mirror has read all of it
pub left_at_end : (start : Start) (text : List ℕ) (notes : List Line) (count : ℕ) (mirror : MirrorState) (g : GoesToEnd start text notes count mirror)
    → mirror ≡ mirror_after start.limits start.opening (notes ++ g.passes.more) []
left_at_end start text notes count mirror g =
    let w = g.passes.walked in
    let none : rest (ended w.seen) ≡ [] = sym (lines_are_the_only_cut (ended w.seen) w.seen [] (record { whole = w.whole; part = refl; text = sym (append-nil (ended w.seen)) })).1 in
    w.stands.state ∙ ap (λ l. mirror_after l start.opening (notes ++ g.passes.more) (rest (ended w.seen))) w.limits_are
    ∙ ap (mirror_after start.limits start.opening (notes ++ g.passes.more)) none

pub agreement : OnlyOne → (start : Start) (primary screen left : List ℕ) (count new_count states : ℕ) (old new : MirrorState)
    (a : Agrees start primary screen left count states old) → GoesToEnd start screen a.notes new_count new
    → (b : AgreementFrom start primary screen states) × (new ≡ mirror_after start.limits start.opening b.notes [])
agreement only start primary screen left count new_count states old new a g =
    let w = g.passes.walked in
    let all = all_lines start screen g.behind (a.notes ++ g.passes.more) new_count new w g.part in
    let good = subst (λ ls. AllGood start.limits start.opening ls (a.notes ++ g.passes.more)) (sym all.0) (good_of start screen g.behind (a.notes ++ g.passes.more) new_count new w) in (
      record {
        notes = a.notes ++ g.passes.more;
        read = record { good = good; short = subst (λ r. length r ≤ line_bytes) (sym all.1) g.short };
        counted = a.counted ∙ ap (λ n. min n 18446744073709551615) (sym g.passes.counted);
        agrees = agree_by only start (IsStateOf start.limits primary) screen (a.notes ++ g.passes.more) good
            (all_end start (IsStateOf start.limits primary) a.notes g.passes.more a.all g.passes.quiet);
      },
      left_at_end start screen a.notes new_count new g,
    )

-- what was found is a state of the primary's
pub found_state : (limits : Limits) (primary : List ℕ) (shown : Option Published) → ((state : Published) → shown ≡ Some state → IsStateOf limits primary state)
    → IfSome shown (IsStateOf limits primary)
found_state limits primary None h = tt
found_state limits primary (Some state) h = h state refl

-- and so is what the mirror shows that has read all of a text that agrees
pub shown_after : (start : Start) (primary screen : List ℕ) (states : ℕ) (a : AgreementFrom start primary screen states) (mirror : MirrorState)
    → mirror ≡ mirror_after start.limits start.opening a.notes [] → IfSome mirror.node.published (IsStateOf start.limits primary)
shown_after start primary screen states a mirror left =
    found_state start.limits primary mirror.node.published (λ state e. a.agrees state (record {
      first = lines screen;
      later = [];
      notes = a.notes;
      whole = sym (append-nil (lines screen));
      good = a.read.good;
      shown = sym (ap (λ m. m.node.published) left) ∙ e;
    }))

pub agrees_on : (start : Start) (primary screen left behind : List ℕ) (count new_count states new_states : ℕ) (old new : MirrorState) (wanted : NodeState)
    (a : Agrees start primary screen left count states old) → ReadsMore start screen behind a.notes new_count new → wanted ≡ new.node
    → IfSome wanted.published (IsStateOf start.limits primary) → new_states ≡ min (states + 1) 18446744073709551615
    → Agrees start primary screen behind new_count new_states new
agrees_on start primary screen left behind count new_count states new_states old new wanted a g is shown more = record {
  notes = a.notes ++ (g.before ++ g.note ∷ []);
  walked = g.walked;
  all = all_goes start (IsStateOf start.limits primary) screen behind a.notes new_count new a.all g
      (subst (λ n. IfSome n.published (IsStateOf start.limits primary)) is shown);
  counted = let one = g.counted in let before = a.counted in omega arith;
}

-- both show the same then
pub meets_now : (since : Since) (ours theirs : NodeState) → since.ours.items ≡ [] → since.theirs.items ≡ [] → ours.published ≡ theirs.published → IsSince since ours theirs
meets_now since ours theirs e f same known = record {
  base = published_tables theirs;
  ours_are = ap tables_or_none same ∙ ap (after_all (published_tables theirs)) (sym e);
  theirs_are = ap (after_all (published_tables theirs)) (sym f);
}

-- at the end of a connection the mirror shows what it showed before
pub still_shown : (start : Start) (screen left : List ℕ) (notes : List Line) (count new_count : ℕ) (old new : MirrorState)
    → Walked start screen left notes count old → GoesToEnd start screen notes new_count new → new.node.published ≡ old.node.published
still_shown start screen left notes count new_count old new w g =
    published_is start screen g.behind (notes ++ g.passes.more) new_count new g.passes.walked ∙ g.passes.quiet g.passes.more [] (sym (append-nil g.passes.more))
    ∙ sym (published_is start screen left notes count old w)

-- ---- a state that is none of the primary's

named : (shown : Option Published) (token : List ℕ) → Some token ≡ token_of shown → (state : Published) × (shown ≡ Some state) × (token ≡ state.token)
named None token e = absurd (cc)
named (Some state) token e = (state, refl, cc)

pub straying : OnlyOne → (start : Start) (primary screen left behind : List ℕ) (count states : ℕ) (old new : MirrorState) (wanted shown : NodeState) (stray : Stray)
    (a : Agrees start primary screen left count states old) → ReadsMore start screen behind a.notes stray.line new → wanted ≡ new.node → shown ≡ new.node
    → IsStrange start.limits primary wanted → Some stray.token ≡ token_of shown.published
    → (asked : NodeState) → asked ≡ new.node → (before : Option (List ℕ)) → before ≡ token_of old.node.published
    → ((state : Published) → asked.published ≡ Some state → Explains start.limits primary before state stray.difference)
    → stray.before ≡ states → StrayingFrom start primary screen stray
straying only start primary screen left behind count states old new wanted shown stray a g is also strange token asked same before before_is why states_are =
    let its = named shown.published stray.token token in
    let shows : new.node.published ≡ Some its.0 = sym (ap (λ (n : NodeState). n.published) also) ∙ its.1 in
    let here = brings only start (IsStateOf start.limits primary) screen behind a.notes stray.line new its.0 a.all g shows in
    record {
      earlier = here.earlier;
      line = here.line;
      later = here.later;
      whole = here.whole;
      counted = here.counted;
      notes = a.notes ++ g.before;
      good = here.good;
      before = states_are ∙ a.counted ∙ ap (λ n. min n 18446744073709551615) (sym g.counted_before);
      agrees = here.former;
      state = its.0;
      is = here.is;
      named = its.2;
      strays = strange its.0 (ap (λ (n : NodeState). n.published) is ∙ shows);
      explained = subst (λ t. Explains start.limits primary t its.0 stray.difference)
          (before_is ∙ ap token_of (published_is start screen left a.notes count old a.walked ∙ sym (g.quiet g.before [] (sym (append-nil g.before)))))
          (why its.0 (ap (λ (n : NodeState). n.published) same ∙ shows));
    }
