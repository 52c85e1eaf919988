-- What was read of the primary's record.
use Rattle.std.proofs.Common.{◌≡◌, sym, ap, subst, false, ℕ, List, Option, None, Some, [], ◌∷◌, ◌++◌}
use Rattle.std.specs.Prelude.{IfSome}
use Rattle.feed_settings.specs.Limits.{Limits}
use Rattle.feed_node.specs.Mirroring.{MirrorState}
use Rattle.feed_node.specs.States.{NodeState, published_tables, tables_or_none}
use Rattle.feed_note.specs.declared.line.Line.{Line}
use Rattle.feed_audit.specs.Answers.{HasReadLines}
use Rattle.feed_audit.specs.States.{Start, afresh, IsStateOf}
use Rattle.feed_audit.specs.Walks.{IsSinceIn, ReadsMore, Searched}
use Rattle.feed_audit.specs.Along.{IsAlong, KeepsAlong}
use Rattle.feed_audit.specs.Pasts.{IsPast}
use Rattle.feed_audit.specs.declared.past.Past.{Past}
use Rattle.feed_audit.specs.declared.since.Since.{Since}
use Rattle.feed_audit.proofs.Agreeing.{since_unknown, state_of}
use Rattle.feed_audit.proofs.Verdicts.{found_state}

pub read_same : (limits : Limits) (text : List ℕ) (left : Option (List ℕ)) (lines new_lines states new_states : ℕ) (mirror new : MirrorState)
    → HasReadLines limits text left lines states mirror → new_lines ≡ lines → new_states ≡ states → new ≡ mirror → HasReadLines limits text left new_lines new_states new
read_same limits text left lines new_lines states new_states mirror new h l s m =
    subst (λ n. HasReadLines limits text left n new_states new) (sym l)
    (subst (λ n. HasReadLines limits text left lines n new) (sym s) (subst (λ n. HasReadLines limits text left lines states n) (sym m) h))

pub searched_same : (start : Start) (text behind : List ℕ) (notes : List Line) (lines new_lines : ℕ) (mirror new : MirrorState) (wanted : NodeState)
    → Searched start text behind notes lines mirror wanted → new_lines ≡ lines → new ≡ mirror → Searched start text behind notes new_lines new wanted
searched_same start text behind notes lines new_lines mirror new wanted h l m =
    subst (λ n. Searched start text behind notes n new wanted) (sym l) (subst (λ n. Searched start text behind notes lines n wanted) (sym m) h)

-- what is shown then is a state of the text
pub shown_next : (limits : Limits) (text behind : List ℕ) (notes : List Line) (lines : ℕ) (mirror : MirrorState) → ReadsMore (afresh limits) text behind notes lines mirror
    → IfSome mirror.node.published (IsStateOf limits text)
shown_next limits text behind notes lines mirror g =
    found_state limits text mirror.node.published (λ state e. state_of (afresh limits) text behind (notes ++ (g.before ++ g.note ∷ [])) lines mirror state g.walked e)

-- ---- what is known then

pub along_none : (limits : Limits) (text : List ℕ) (since : Since) (past : Option Past) (ours theirs : NodeState) → since.is_known ≡ false → past ≡ None
    → IsAlong limits text since past ours theirs
along_none limits text since past ours theirs apart none =
    record { since_is = since_unknown since ours theirs apart; keeps = subst (λ p. KeepsAlong limits text p ours theirs) (sym none) tt }

pub along_with : (limits : Limits) (text : List ℕ) (since : Since) (past : Option Past) (mirror new : MirrorState) (theirs : NodeState) → new ≡ mirror
    → IsAlong limits text since past mirror.node theirs → IsAlong limits text since past new.node theirs
along_with limits text since past mirror new theirs m h = subst (λ (n : MirrorState). IsAlong limits text since past n.node theirs) (sym m) h

-- the screen's side shows what it showed
pub along_same : (limits : Limits) (text : List ℕ) (since : Since) (past : Option Past) (ours old new : NodeState) → new.published ≡ old.published
    → IsAlong limits text since past ours old → IsAlong limits text since past ours new
along_same limits text since past ours old new e h =
    record { since_is = subst (λ t. IsSinceIn since (published_tables ours) t) (sym (ap tables_or_none e)) h.since_is; keeps = by past h.keeps }
  where
    by : (past : Option Past) → KeepsAlong limits text past ours old → KeepsAlong limits text past ours new
    by None k = tt
    by (Some p) k = subst (λ t. IsPast limits text p (published_tables ours) t) (sym (ap tables_or_none e)) k
