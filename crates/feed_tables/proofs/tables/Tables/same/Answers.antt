use Rattle.std.proofs.Common.{◌≡◌, sym, ap, ◌∙◌}
use Rattle.feed_tables.specs.Tables.{Tables}
use Rattle.feed_tables.proofs.tables.Tables.same.Goals as goal

pub returns : goal.returns
returns c =
    let here : c.self.inside.types ≡ c.args.self.now.contents = ap (λ (t : Tables). t.contents) c.self.view_is in
    let there : c.other.inside.types ≡ c.args.other.now.contents = ap (λ (t : Tables). t.contents) c.other.view_is in
    (λ is. sym here ∙ c.same.ensures.0 is ∙ there, λ same. c.same.ensures.1 (here ∙ same ∙ sym there))
