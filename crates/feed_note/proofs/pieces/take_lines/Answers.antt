use Rattle.std.proofs.Common.{◌≡◌, sym, ap, ◌∙◌, cond, false, true≢false, [], ◌∷◌, ◌++◌, append_assoc}
use Rattle.std.specs.Prelude.{Result, Ok, Err, is_ok, is_err}
use Rattle.feed_note.specs.Pieces.{texts_of}
use Rattle.feed_note.proofs.Piecewise.{taken_more, texts_push}
use Rattle.feed_note.proofs.pieces.take_lines.Goals as goal

pushed : {T E X : Type 0} (r : Result T E) (x y z : X) → is_err r ≡ false → z ≡ cond (is_ok r) x y → z ≡ x
pushed (Ok v) x y z e h = h
pushed (Err v) x y z e h = absurd (true≢false e)

pub lines-preserved : goal.lines-preserved
lines-preserved c =
    let so_far = c.lines.invariant in
    let line = c.in-Ok-Some.line in
    let all = c.lines.all.items in
    let items : c.push.new.self.items ≡ all ++ line ∷ [] = pushed c.push.result _ _ _ (sym c.is_err.ensures.value ∙ c.if-is_err.false) c.push.ensures.items in
    record {
      taken = so_far.taken ++ line.items ∷ [];
      cut = taken_more _ _ _ so_far.taken line.items so_far.cut (rw c.in-Ok-Some.field-0-is at c.in-Ok-Some.ensures.some);
      gained = ap texts_of items ∙ texts_push all line ∙ ap (λ t. t ++ line.items ∷ []) so_far.gained
          ∙ append_assoc (texts_of c.args.all.now.items) so_far.taken (line.items ∷ []);
    }
