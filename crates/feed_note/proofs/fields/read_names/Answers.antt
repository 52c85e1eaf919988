use Rattle.std.proofs.Common.{◌≡◌, sym, ap, ◌∙◌, Some}
use Rattle.std.specs.Prelude.{option_map}
use Rattle.feed_text.specs.Members.{item_view, spelling_of}
use Rattle.feed_note.specs.Meaning.{member_text}
use Rattle.feed_note.specs.Naming.{naming_of}
use Rattle.feed_note.specs.Reading.{naming_or_null}
use Rattle.feed_note.proofs.Spelt.{text_of_member, naming_of_member}
use Rattle.feed_note.proofs.Conditions.{bad_member, typed, any_unreadable}
use Rattle.feed_note.proofs.fields.read_names.Goals as goal

pub returns-then-is_any_unreadable : goal.returns-then-is_any_unreadable
returns-then-is_any_unreadable c = λ n s other.
    let spelt : Some (item_view c.in-Some.kind) ≡ option_map spelling_of n.kind = ap (option_map item_view) (sym c.in-Some.is) ∙ s.kind in
    let kind : c.in_ok-kind.kind ≡ naming_of (member_text n.kind) = c.in_ok-kind.ensures ∙ ap naming_of (text_of_member n.kind (item_view c.in-Some.kind) spelt) in
    let id : c.in_ok-id.id ≡ naming_or_null n.id = c.in_ok-id.ensures ∙ naming_of_member n.id (option_map item_view c.args.fields.now.id) s.id in
    let token : c.in_ok-token.token ≡ naming_or_null n.token = c.in_ok-token.ensures ∙ naming_of_member n.token (option_map item_view c.args.fields.now.token) s.token in
    bad_member n (typed n.kind (item_view c.in-Some.kind) spelt)
    (sym (any_unreadable n c.in_ok-kind.kind c.in_ok-id.id c.in_ok-token.token kind id token) ∙ sym c.if-is_any_unreadable.ensures)
