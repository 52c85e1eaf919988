-- What was appended and what is still to come are the token's text.
use Rattle.std.proofs.Common.{◌≡◌, ◌++◌, List, ℕ}
use Rattle.form_urlencoded.specs.Form.{byte_serialize}
use Rattle.form_urlencoded.specs.Serialize.{serialized_text}
use Rattle.feed_wire.proofs.request.append_value.Given as goal

abbrev pub invariant-loop-part : goal.invariant-loop-part
invariant-loop-part l =
    (done : List ℕ) × (l.out.items ≡ l.initial.out.items ++ done)
    × (byte_serialize l.token ≡ done ++ serialized_text l.part-iterator)
