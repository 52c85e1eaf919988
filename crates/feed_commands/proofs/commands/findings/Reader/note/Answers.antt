use Rattle.std.proofs.Common.{true, ap, ◌∙◌, cond, bytes_eq, string_bytes}
use Rattle.std.specs.BTreeSet.{contains_text}
use Rattle.std.proofs.lemmas.Map.Text.{btree_set_updates_text}
use Rattle.feed_commands.proofs.commands.findings.Reader.note.Goals as goal

pub returns-clause-kept : goal.returns-clause-kept
returns-clause-kept c =
    let seen = c.args.self.now.seen in
    λ other. btree_set_updates_text (string_bytes c.in_ok-text.text) seen c.insert.new.self true c.in_ok-is_new.ensures.updates other
    ∙ ap (λ bs. cond (bytes_eq bs other) true (contains_text seen other)) (c.in_ok-text.ensures.ok ∙ c.text.ensures.text)
