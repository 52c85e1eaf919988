use Rattle.std.proofs.Common.{◌≡◌, List, ℕ, ◌++◌, sym, ap, ◌∙◌, append_assoc, codes, Bool}
use Rattle.std.specs.Prelude.{◌↔◌, IsTrue}
use Rattle.std.specs.Str.{bytes_eq}
use Rattle.std.proofs.lemmas.Slice.Eq.{bytes_eq-Decides}
use Rattle.std.proofs.lemmas.List.{append_cancel_left}
use Rattle.feed_wire.proofs.request_target.is_path.Goals as goal

joins : (path first rest name last end : List ℕ) → path ≡ first ++ rest → rest ≡ name ++ last
    → end ≡ last → path ≡ (first ++ name) ++ end
joins path first rest name last end is more same = is
    ∙ ap (λ l. first ++ l) (more ∙ ap (λ l. name ++ l) (sym same))
    ∙ sym (append_assoc first name end)

parts : (path first rest name last end : List ℕ) → path ≡ first ++ rest → rest ≡ name ++ last
    → path ≡ (first ++ name) ++ end → last ≡ end
parts path first rest name last end is more whole =
    append_cancel_left name last end
    (sym more ∙ append_cancel_left first rest (name ++ end)
    (sym is ∙ whole ∙ append_assoc first name end))

reads : (b : Bool) (path first rest name last end : List ℕ) → path ≡ first ++ rest
    → rest ≡ name ++ last → b ≡ bytes_eq last end → IsTrue b ↔ (path ≡ (first ++ name) ++ end)
reads b path first rest name last end is more test = (
  λ yes. joins path first rest name last end is more
      (sym ((bytes_eq-Decides last end).0 (sym test ∙ yes))),
  λ whole. test ∙ (bytes_eq-Decides last end).1 (parts path first rest name last end is more whole),
)

pub returns : goal.returns
returns c = reads c.eq.result c.args.path.now (codes "/contests/") c.in-Some.rest.now
    c.args.contest.now c.in-Some-behind.rest.now (codes "/event-feed")
    (sym c.as_bytes.ensures.value ∙ c.in-Some.ensures)
    (c.in-Some-behind.ensures ∙ ap (λ l. l ++ c.in-Some-behind.rest.now) c.as_bytes-2.ensures.value)
    (c.eq.ensures ∙ ap (bytes_eq c.in-Some-behind.rest.now) c.as_slice.ensures)
