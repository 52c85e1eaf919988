use Rattle.std.proofs.Common.{rules, ◌≡◌, ◌≢◌, Err, refl, sym, ap, ◌∙◌, is_some}
use Rattle.feed_node.specs.States.{published_token}
use Rattle.feed_node.specs.Texts.{published_text}
use Rattle.feed_commands.proofs.TablesLemmas.{is_some_kept, printed_ok, printed_err, came_of_feeding, feeding_writes_nothing}
use Rattle.feed_commands.specs.declared.fault.Fault.TheVariants as fault
use Rattle.feed_commands.proofs.commands.tables.print_tables.Goals as goal

pub returns-clause-ok : goal.returns-clause-ok
returns-clause-ok g c =
    let shown = c.feed_all-fed.new.mirror.node.published in
    let limits : c.begin.new.self.limits ≡ c.args.options.now.limits = c.begin.ensures.limits ∙ ap (λ m. m.limits) c.in_ok-mirror.ensures in
    printed_ok c.args.options.now.limits _ _ (published_text shown) _ c.feed_all-fed.result c.outcome.result shown c.is_some-is_published.result
    (c.feed_all-fed.ensures.fed (search rules)) limits refl refl c.in_ok-print_snapshot.ensures.ok (c.is_some-is_published.ensures ∙ is_some_kept _ c.token.result ∙ ap is_some (c.token.ensures ∙ ap published_token c.node.ensures.node)) c.outcome.ensures

pub returns-clause-err : goal.returns-clause-err
returns-clause-err g c =
    let shown = c.feed_all-fed.new.mirror.node.published in
    let limits : c.begin.new.self.limits ≡ c.args.options.now.limits = c.begin.ensures.limits ∙ ap (λ m. m.limits) c.in_ok-mirror.ensures in
    printed_err c.args.options.now.limits _ _ (published_text shown) _ c.feed_all-fed.result c.outcome.result shown c.is_some-is_published.result
    (c.feed_all-fed.ensures.fed (search rules)) limits refl refl c.in_ok-print_snapshot.ensures.ok (c.is_some-is_published.ensures ∙ is_some_kept _ c.token.result ∙ ap is_some (c.token.ensures ∙ ap published_token c.node.ensures.node)) c.outcome.ensures

pub returns-clause-too_many : goal.returns-clause-too_many
returns-clause-too_many g c = λ told.
    c.feed_all-fed.ensures.too_many (came_of_feeding c.feed_all-fed.result c.is_some-is_published.result fault.TooManyReads (λ e. absurd (cc)) (sym c.outcome.ensures ∙ told))

pub returns-clause-read : goal.returns-clause-read
returns-clause-read g c = λ told.
    c.feed_all-fed.ensures.failed (came_of_feeding c.feed_all-fed.result c.is_some-is_published.result fault.Read (λ e. absurd (cc)) (sym c.outcome.ensures ∙ told))

pub returns-clause-write : goal.returns-clause-write
returns-clause-write g c = λ told.
    absurd (feeding_writes_nothing _ c.feed_all-fed.result _ _ _ c.feed_all-fed.ensures.fed (came_of_feeding c.feed_all-fed.result c.is_some-is_published.result fault.Write (λ e. absurd (cc)) (sym c.outcome.ensures ∙ told)))

pub returns-clause-memory : goal.returns-clause-memory
returns-clause-memory g c = λ told.
    let other : c.feed_all-fed.result ≢ Err fault.Memory = search rules in
    absurd (other (came_of_feeding c.feed_all-fed.result c.is_some-is_published.result fault.Memory (λ e. absurd (cc)) (sym c.outcome.ensures ∙ told)))
