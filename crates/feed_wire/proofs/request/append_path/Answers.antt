use Rattle.std.proofs.Common.{◌≡◌, ◌++◌, ap, ◌∙◌, codes}
use Rattle.feed_wire.proofs.TextLemmas.{appended, begun}
use Rattle.feed_wire.proofs.request.append_path.Goals as goal

pub returns-in_err-extend_from_slice-3-clause-kept :
    goal.returns-in_err-extend_from_slice-3-clause-kept
returns-in_err-extend_from_slice-3-clause-kept c =
    let from = c.args.out.now.items in
    let base = c.args.place.now.base in
    let first : c.extend_from_slice.new.self.items ≡ from
    ++ base = c.in_ok-extend_from_slice.ensures.items
    ∙ ap (λ l. from ++ l) (c.as_bytes.ensures.value ∙ c.base.ensures) in
    let second = appended from c.extend_from_slice.new.self.items
    c.extend_from_slice-2.new.self.items base (codes "/contests/") first c.in_ok-extend_from_slice-2.ensures.items in
    begun from c.extend_from_slice-3.new.self.items (base ++ codes "/contests/")
    (c.in_err-extend_from_slice-3.ensures.items ∙ second)

pub returns-in_err-extend_from_slice-4-clause-kept :
    goal.returns-in_err-extend_from_slice-4-clause-kept
returns-in_err-extend_from_slice-4-clause-kept c =
    let from = c.args.out.now.items in
    let base = c.args.place.now.base in
    let first : c.extend_from_slice.new.self.items ≡ from
    ++ base = c.in_ok-extend_from_slice.ensures.items
    ∙ ap (λ l. from ++ l) (c.as_bytes.ensures.value ∙ c.base.ensures) in
    let second = appended from c.extend_from_slice.new.self.items
    c.extend_from_slice-2.new.self.items base (codes "/contests/") first c.in_ok-extend_from_slice-2.ensures.items in
    let contest = c.args.place.now.contest in
    let third = appended from c.extend_from_slice-2.new.self.items
    c.extend_from_slice-3.new.self.items (base ++ codes "/contests/") contest second
    (c.in_ok-extend_from_slice-3.ensures.items
    ∙ ap (λ l. c.extend_from_slice-2.new.self.items ++ l) (c.as_bytes-2.ensures.value
    ∙ c.contest.ensures)) in
    begun from c.extend_from_slice-4.new.self.items ((base ++ codes "/contests/") ++ contest)
    (c.in_err-extend_from_slice-4.ensures.items ∙ third)

pub returns-clause-ok : goal.returns-clause-ok
returns-clause-ok c =
    let from = c.args.out.now.items in
    let base = c.args.place.now.base in
    let contest = c.args.place.now.contest in
    let first : c.extend_from_slice.new.self.items ≡ from
    ++ base = c.in_ok-extend_from_slice.ensures.items
    ∙ ap (λ l. from ++ l) (c.as_bytes.ensures.value ∙ c.base.ensures) in
    let second = appended _ _ _ _
    (codes "/contests/") first c.in_ok-extend_from_slice-2.ensures.items in
    let third = appended _ _ _ _ contest second (c.in_ok-extend_from_slice-3.ensures.items
    ∙ ap (λ l. c.extend_from_slice-2.new.self.items ++ l) (c.as_bytes-2.ensures.value
    ∙ c.contest.ensures)) in
    appended _ _ _ _ (codes "/event-feed") third c.in_ok-extend_from_slice-4.ensures.items

pub returns-clause-kept : goal.returns-clause-kept
returns-clause-kept c = begun _ _ _ (returns-clause-ok c)
