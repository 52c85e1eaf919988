use Rattle.std.proofs.Common.{ap, sym, ◌∙◌, subst}
use Rattle.std.specs.Prelude.{IfOk, IfSome}
use Rattle.feed_files.specs.Saved.{EndsAsRecorded, IsPartOfFile}
use Rattle.feed_device.specs.Files.{StateFiles}
use Rattle.feed_files.proofs.FilesLeft.{left_part, read_part}
use Rattle.feed_live.proofs.starting.restore_from.Goals as goal

pub returns-in-Ok-clause-in_log : goal.returns-in-Ok-clause-in_log
returns-in-Ok-clause-in_log g c =
    λ log nodes is_log in_log had.
    c.restore.ensures.in_log log nodes is_log in_log
    (subst (IsPartOfFile nodes) (sym c.as_slice.ensures.value)
    (read_part nodes had.0 had.2 c.read_former.result c.or_nothing-former.result.items c.or_nothing-former.ensures (c.read_former.ensures.left had.0 had.1)))
    (subst (IsPartOfFile nodes) (sym c.as_slice-in-Ok.ensures.value)
    (left_part nodes had.0 c.in-Ok.file.items had.2 (c.in-Ok.ensures.left had.0 (ap (λ (f : StateFiles). f.had) c.read_former.ensures.same ∙ had.1))))

pub returns-in-Ok-clause-goes_on : goal.returns-in-Ok-clause-goes_on
returns-in-Ok-clause-goes_on g c =
    λ log nodes text is_log in_log had written.
    subst (λ t. IfOk c.restore.result (λ restored. IfSome restored.file (EndsAsRecorded nodes t restored.mirror.node)))
    (c.as_slice-in-Ok.ensures.value ∙ c.in-Ok.ensures.file text (ap (λ (f : StateFiles). f.written) c.read_former.ensures.same ∙ written))
    (c.restore.ensures.goes_on log nodes is_log in_log
    (subst (IsPartOfFile nodes) (sym c.as_slice.ensures.value)
    (read_part nodes had.0 had.2 c.read_former.result c.or_nothing-former.result.items c.or_nothing-former.ensures (c.read_former.ensures.left had.0 had.1)))
    (subst (IsPartOfFile nodes) (sym c.as_slice-in-Ok.ensures.value)
    (left_part nodes had.0 c.in-Ok.file.items had.2 (c.in-Ok.ensures.left had.0 (ap (λ (f : StateFiles). f.had) c.read_former.ensures.same ∙ had.1)))))

pub returns-clause-in_log : goal.returns-clause-in_log
returns-clause-in_log g c =
    λ log nodes is_log in_log had.
    c.in_ok-restored-in-Err.ensures.in_log log nodes is_log in_log
    (subst (IsPartOfFile nodes) (sym c.as_slice-in-Err.ensures.value)
    (read_part nodes had.0 had.2 c.read_former.result c.or_nothing-former.result.items c.or_nothing-former.ensures (c.read_former.ensures.left had.0 had.1)))
    had.2.0
