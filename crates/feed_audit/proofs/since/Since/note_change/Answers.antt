use Rattle.std.proofs.Common.{◌∙◌, ap, sym, [], ◌∷◌, ◌++◌}
use Rattle.std.proofs.lemmas.List.Sums.{fold-append}
use Rattle.feed_tables.specs.Tables.{after, after_all}
use Rattle.feed_audit.proofs.since.Since.note_change.Goals as goal

pub returns-in_ok-push : goal.returns-in_ok-push
returns-in_ok-push c ours theirs since known =
    let m = since known in
    record {
      base = m.base;
      ours_are = ap (λ t. after t c.args.change.now) m.ours_are ∙ sym (fold-append after m.base c.args.self.now.ours.items (c.args.change.now ∷ []))
          ∙ ap (λ t. after_all m.base (c.args.self.now.ours.items ++ t ∷ [])) (sym c.in_ok-copy.ensures) ∙ ap (after_all m.base) (sym c.in_ok-push.ensures.items);
      theirs_are = m.theirs_are;
    }
