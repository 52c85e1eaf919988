-- The parameters so far have another name.
use Rattle.std.proofs.Common.{◌≡◌, codes}
use Rattle.std.specs.Prelude.{find, bytes_eq}
use Rattle.form_urlencoded.specs.Form.{raw_pairs}
use Rattle.form_urlencoded.specs.Parse.{pairs_left}
use Rattle.feed_wire.specs.Asked.{form_text}
use Rattle.feed_wire.proofs.request_target.first_since.Given as goal

abbrev pub invariant-loop-pair : goal.invariant-loop-pair
invariant-loop-pair l =
    find (λ pair. bytes_eq (form_text pair.0) (codes "since_token")) (pairs_left l.pair-iterator)
    ≡ find (λ pair. bytes_eq (form_text pair.0) (codes "since_token")) (raw_pairs l.query)
