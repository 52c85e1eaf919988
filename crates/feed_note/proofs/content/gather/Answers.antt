use Rattle.std.proofs.Common.{◌≡◌, sym, ap, ◌∙◌, subst}
use Rattle.feed_text.specs.Json.{print, kind_of}
use Rattle.feed_text.specs.Members.{Spelling, item_view}
use Rattle.feed_text.specs.declared.Kind.TheVariants.{Array}
use Rattle.feed_note.proofs.Gathering.{Gathering, utf8_array, starts, next_readable, one_more, bad, ends}
use Rattle.feed_note.proofs.content.gather.Goals as goal

pub loop-item-init : goal.loop-item-init
loop-item-init c =
    let tree = c.requires.tree in
    let h = c.requires.readable in
    let text : c.args.array.now ≡ print tree = ap (λ (s : Spelling). s.0) c.requires.spelt in
    let kind : kind_of tree ≡ Array = sym (ap (λ (s : Spelling). s.1) c.requires.spelt) in
    subst (Gathering c.args.array.now c.elements-items.result) (sym c.new-gathered.ensures.items)
    (starts c.text_laws.ensures.value c.args.array.now tree c.elements-items.result h text
    (c.elements-items.ensures.items tree h.valid kind text)
    (c.elements-items.ensures.spelt (utf8_array c.args.array.now tree h text) tree h.valid kind text))

pub read_element-requires : goal.read_element-requires
read_element-requires c = next_readable c.loop-item.invariant (item_view c.in-Some.item) c.next.new.self c.in-Some.ensures.steps

pub loop-item-preserved : goal.loop-item-preserved
loop-item-preserved c =
    subst (Gathering c.args.array.now c.next.new.self) (sym c.in_ok-push-in-Some-2.ensures.items)
    (one_more c.loop-item.invariant (item_view c.in-Some.item) c.next.new.self c.in-Some.ensures.steps c.in-Some-2.element
    (λ v h e. sym c.in-Some-2.is ∙ c.in_ok-element.ensures v h e))

pub returns-in-None : goal.returns-in-None
returns-in-None c =
    bad c.loop-item.invariant (item_view c.in-Some.item) c.next.new.self c.in-Some.ensures.steps
    (λ v h e. sym c.in-None.is ∙ c.in_ok-element.ensures v h e)

pub returns : goal.returns
returns c = ends c.loop-item.invariant c.in_default.ensures.steps.0
