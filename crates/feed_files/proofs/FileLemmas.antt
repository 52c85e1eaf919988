-- What is left of state files is honest.
use Rattle.std.proofs.Common.{refl, sym, ap, ◌∙◌, subst, ◌++◌, append_assoc}
use Rattle.feed_node.specs.Mirroring.{StandsAt, Faulted}
use Rattle.feed_laws.specs.Files.{FilesRestore, FilesFollow}
use Rattle.feed_files.specs.Laws.{FilesAreHonest, FilesGoOnHonestly}

pub files_are_honest : FilesRestore → FilesAreHonest
files_are_honest files limits log nodes written text behind r is_log in_log recorded whole =
    record {
      stands = λ before later notes mirror cut bounds stands.
          (files limits log nodes written before (later ++ behind) r is_log in_log recorded
          (sym (append_assoc before later behind) ∙ ap (λ b. b ++ behind) cut ∙ whole)).fed notes mirror bounds stands;
      stops = λ before piece later old new fault cut bounds faulted.
          ((files limits log nodes written (before ++ piece) (later ++ behind) r is_log in_log recorded
          (sym (append_assoc (before ++ piece) later behind) ∙ ap (λ b. b ++ behind) cut ∙ whole)).fails before piece old new fault refl bounds faulted).1;
    }

pub files_go_on_honestly : FilesFollow → FilesGoOnHonestly
files_go_on_honestly follow limits log nodes written prefix behind former further text rest later notes mirror is_log in_log recorded whole recorded_later all bounds stands held =
    record {
      stands = λ before more said there cut its at.
          let f = follow limits log nodes written prefix behind former further before (more ++ rest) later notes mirror is_log in_log recorded whole recorded_later
          (sym (append_assoc before more rest) ∙ ap (λ b. b ++ rest) cut ∙ all) bounds stands held in
          f.reads_on.fed said there its (subst (λ o. StandsAt o before said there) f.begins at);
      stops = λ before piece more old new fault cut its faulted.
          let f = follow limits log nodes written prefix behind former further (before ++ piece) (more ++ rest) later notes mirror is_log in_log recorded whole recorded_later
          (sym (append_assoc (before ++ piece) more rest) ∙ ap (λ b. b ++ rest) cut ∙ all) bounds stands held in
          (f.reads_on.fails before piece old new fault refl its (subst (λ o. Faulted o before piece old new fault) f.begins faulted)).1;
    }
