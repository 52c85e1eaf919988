use Rattle.std.proofs.Common.{ap, ◌∙◌, ℕ, List, ◌++◌, ◌<◌, length, take, get_or, append_assoc, subst}
use Rattle.feed_status.specs.Escape.{escape, escaped}
use Rattle.feed_status.proofs.Escaped.{escaped_more, text_shown}
use Rattle.feed_status.proofs.escape.put_text.Goals as goal

pub returns-in_err-put_byte-clause-shown : goal.returns-in_err-put_byte-clause-shown
returns-in_err-put_byte-clause-shown c = text_shown c.args.text.now

pub bytes-preserved : goal.bytes-preserved
bytes-preserved c =
    let text : List ℕ = c.args.text.now in
    let old : List ℕ = c.args.out.now.items in
    let i : ℕ = c.bytes.byte-index in
    let same = c.as_bytes-byte-items.ensures.value in
    let byte : ℕ = get_or c.as_bytes-byte-items.result.now i 0 in
    c.in_ok-put_byte.ensures
    ∙ ap (λ (l : List ℕ). l ++ escape byte) c.bytes.invariant
    ∙ append_assoc old (escaped (take i text)) (escape byte)
    ∙ ap (λ (t : List ℕ). old ++ (escaped (take i text) ++ escape (get_or t i 0))) same
    ∙ ap (λ (l : List ℕ). old ++ l) (escaped_more text i 0 (subst (λ (t : List ℕ). i < length t) same c.bytes-test.true))

pub returns-clause-shown : goal.returns-clause-shown
returns-clause-shown c = text_shown c.args.text.now
