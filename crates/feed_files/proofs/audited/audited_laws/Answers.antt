use Rattle.feed_files.proofs.AuditedLemmas.{files_are_of_log, files_agree}
use Rattle.feed_files.proofs.audited.audited_laws.Goals as goal

pub returns-clause-states : goal.returns-clause-states
returns-clause-states c = files_are_of_log c.reading_laws.ensures.one c.hub_laws.ensures.files c.state_laws.ensures

pub returns-clause-agree : goal.returns-clause-agree
returns-clause-agree c =
    files_agree (files_are_of_log c.reading_laws.ensures.one c.hub_laws.ensures.files c.state_laws.ensures)
