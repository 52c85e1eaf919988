use Rattle.std.proofs.Common.{◌≡◌, ap, ◌∙◌, sym, [], ◌∷◌, Some, None}
use Rattle.std.specs.Prelude.{option_map}
use Rattle.std.proofs.lemmas.Result.{IfOk-weaker}
use Rattle.feed_text.specs.Members.{item_view, member_view, MemberSpelling}
use Rattle.feed_note.specs.Reading.{last_value_spelt}
use Rattle.feed_note.proofs.Spelt.{id_found, no_id_found}
use Rattle.feed_note.proofs.content.element_naming.Goals as goal

pub returns-in-Some : goal.returns-in-Some
returns-in-Some c = λ v h k e.
    let (members, held, last) = c.in_ok-id.ensures.member in
    let found : Some (item_view c.item.result) ≡ last_value_spelt (105 ∷ 100 ∷ []) members =
    ap (λ s. Some s) c.item.ensures ∙ ap (option_map (λ (m : MemberSpelling). m.1)) (ap (option_map member_view) (sym c.in-Some.is) ∙ last) in
    IfOk-weaker c.read_naming.result _ _ (λ naming is. is ∙ id_found c.text_laws.ensures.object c.text_laws.ensures.last 101 c.args.object.now members v h k e held (item_view c.item.result) found)
    c.read_naming.ensures

pub returns-in-None : goal.returns-in-None
returns-in-None c = λ v h k e.
    let (members, held, last) = c.in_ok-id.ensures.member in
    let none : None ≡ last_value_spelt (105 ∷ 100 ∷ []) members =
    ap (option_map (λ (m : MemberSpelling). m.1)) (ap (option_map member_view) (sym c.in-None.is) ∙ last) in
    no_id_found c.text_laws.ensures.object c.text_laws.ensures.last 101 c.args.object.now members v h k e held none
