use Rattle.std.proofs.Common.{◌≡◌, sym, ap, ◌∙◌, subst, Option}
use Rattle.std.specs.Prelude.{option_map, IfSome}
use Rattle.feed_text.specs.Json.{Value, print, kind_of}
use Rattle.feed_text.specs.Members.{Spelling, item_view}
use Rattle.feed_text.specs.declared.Kind.TheVariants.{Object, Array}
use Rattle.feed_note.specs.Reading.{IsReadable}
use Rattle.feed_note.proofs.Conditions.{content_found, object_content, collected}
use Rattle.feed_note.proofs.content.read_content.Goals as goal

pub returns-in_ok-object-in-Object : goal.returns-in_ok-object-in-Object
returns-in_ok-object-in-Object c = λ n s named readable.
    let f = content_found n.content (item_view c.in-Some.item) (ap (option_map item_view) (sym c.in-Some.is) ∙ s.content) in
    let text : c.in-Some.item.text.now ≡ print f.0 = ap (λ (x : Spelling). x.0) f.2 in
    let kind : kind_of f.0 ≡ Object = sym (ap (λ (x : Spelling). x.1) f.2) ∙ sym c.kind.ensures ∙ c.in-Object.is in
    object_content n f.0 c.in_ok-object-in-Object.object f.1 kind
    (c.in_ok-object-in-Object.ensures f.0 (subst (λ (m : Option Value). IfSome m (IsReadable 101)) f.1 readable) kind text)

pub returns-in-Array : goal.returns-in-Array
returns-in-Array c = λ n s named readable.
    let f = content_found n.content (item_view c.in-Some.item) (ap (option_map item_view) (sym c.in-Some.is) ∙ s.content) in
    let text : c.in-Some.item.text.now ≡ print f.0 = ap (λ (x : Spelling). x.0) f.2 in
    let kind : kind_of f.0 ≡ Array = sym (ap (λ (x : Spelling). x.1) f.2) ∙ sym c.kind.ensures ∙ c.in-Array.is in
    collected n c.args.has_id named f.0 f.1 kind c.collection.result
    (c.collection.ensures f.0 (subst (λ (m : Option Value). IfSome m (IsReadable 101)) f.1 readable) kind text)
