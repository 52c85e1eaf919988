use Rattle.std.proofs.Common.{rules, ◌∙◌, ◌≡◌, ◌++◌}
use Rattle.std.proofs.lemmas.Result.{on_ok_weaker}
use Rattle.feed_text.specs.Strings.{written_string}
use Rattle.feed_verdicts.proofs.Appending.{parts4}
use Rattle.feed_verdicts.proofs.json.print_place.Goals as goal

pub returns : goal.returns
returns c =
    let kind : c.encode_string.new.out.items ≡ c.extend_from_slice.new.self.items ++ written_string c.args.kind.now = search rules in
    on_ok_weaker c.print_name.result (λ e. e ∙ parts4 _ _ _ _ _ _ _ _ c.in_ok-extend_from_slice.ensures.items kind c.in_ok-extend_from_slice-2.ensures.items) c.print_name.ensures
