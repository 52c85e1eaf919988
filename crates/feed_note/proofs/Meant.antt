-- A notification makes a change.
use Rattle.std.proofs.Common.{◌≡◌, refl, ℕ, Bool, true, false, true≢false, List, [], ◌∷◌, ◌&&◌, Option, None, Some, sym, ◌∙◌}
use Rattle.std.specs.Prelude.{◌≢◌}
use Rattle.feed_text.specs.Json.{Value, null_literal, true_literal, false_literal, number, string, empty_array, array, empty_object, object}
use Rattle.feed_note.specs.declared.line.LineFault.{LineFault}
use Rattle.feed_note.specs.declared.line.LineFault.TheVariants.{NoType, BadMember, BadData, NoMeaning, BadElement, LongName, BigObject}
use Rattle.feed_note.specs.Meaning.{one_object, all_objects, nothing, member_kind, member_text, is_string, is_array, content_of, told, first_fault, notification, has_no_type, has_bad_member, has_bad_data, has_no_meaning, has_bad_element, has_long_name, has_big_object, NotesHaveChanges}

fourth_fails : (a b c d : Bool) (f g h k : LineFault) (rows : List (Bool × LineFault)) → first_fault ((a, f) ∷ (b, g) ∷ (c, h) ∷ (d, k) ∷ rows) ≡ None → d ≡ false
fourth_fails true b c d f g h k rows e = absurd (cc)
fourth_fails false true c d f g h k rows e = absurd (cc)
fourth_fails false false true d f g h k rows e = absurd (cc)
fourth_fails false false false true f g h k rows e = absurd (cc)
fourth_fails false false false false f g h k rows e = refl

left_fails : (a : Bool) → (a && true) ≡ false → a ≡ false
left_fails true e = absurd (true≢false e)
left_fails false e = refl

pub no_text : (m : Option Value) → is_string (member_kind m) ≡ false → member_text m ≡ None
no_text None e = refl
no_text (Some null_literal) e = refl
no_text (Some true_literal) e = refl
no_text (Some false_literal) e = refl
no_text (Some (number n)) e = refl
no_text (Some (string s)) e = absurd (true≢false e)
no_text (Some (empty_array w)) e = refl
no_text (Some (array es)) e = refl
no_text (Some (empty_object w)) e = refl
no_text (Some (object ms)) e = refl

tells_one : (kind : List ℕ) (id : Option (List ℕ)) (o : List ℕ) → told kind id (one_object o) ≢ []
tells_one kind None o = λ e. cc
tells_one kind (Some i) o = λ e. cc

tells_none : (kind : List ℕ) (id : Option (List ℕ)) → told kind id nothing ≢ []
tells_none kind None = λ e. cc
tells_none kind (Some i) = λ e. cc

tells_all : (kind : List ℕ) (id : Option (List ℕ)) (es : List (List ℕ × List ℕ)) → id ≡ None → told kind id (all_objects es) ≢ []
tells_all kind None es is = λ e. cc
tells_all kind (Some i) es is = absurd (cc)

tells : (kind : List ℕ) (id content : Option Value) → (is_string (member_kind id) && is_array (member_kind content)) ≡ false → told kind (member_text id) (content_of content) ≢ []
tells kind id None e = tells_none kind (member_text id)
tells kind id (Some null_literal) e = tells_none kind (member_text id)
tells kind id (Some true_literal) e = tells_none kind (member_text id)
tells kind id (Some false_literal) e = tells_none kind (member_text id)
tells kind id (Some (number n)) e = tells_none kind (member_text id)
tells kind id (Some (string s)) e = tells_none kind (member_text id)
tells kind id (Some (empty_array w)) e = tells_all kind (member_text id) [] (no_text id (left_fails _ e))
tells kind id (Some (array es)) e = tells_all kind (member_text id) _ (no_text id (left_fails _ e))
tells kind id (Some (empty_object w)) e = tells_one kind (member_text id) _
tells kind id (Some (object ms)) e = tells_one kind (member_text id) _

pub notes_have_changes : NotesHaveChanges
notes_have_changes x changes token (v, scanned, right, is, named) =
    let n = notification v in
    let rows = (has_bad_element n, BadElement) ∷ (has_long_name n, LongName) ∷ (has_big_object n, BigObject) ∷ [] in
    λ none. tells _ n.id n.content (fourth_fails (has_no_type n) (has_bad_member n) (has_bad_data n) (has_no_meaning n) NoType BadMember BadData NoMeaning rows right) (sym is ∙ none)
