use Rattle.feed_files.proofs.FileLemmas.{files_are_honest, files_go_on_honestly}
use Rattle.feed_files.proofs.laws.file_laws.Goals as goal

pub returns-clause-files : goal.returns-clause-files
returns-clause-files c = files_are_honest c.hub_laws.ensures.files

pub returns-clause-files_go_on : goal.returns-clause-files_go_on
returns-clause-files_go_on c = files_go_on_honestly c.hub_laws.ensures.files_follow
