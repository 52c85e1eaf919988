use Rattle.std.proofs.Common.{rules, ◌∙◌, [], refl, sym, subst}
use Rattle.std.specs.Io.KnownBytes.{Consumes}
use Rattle.std.proofs.KnownBytes.{Consumes-nil}
use Rattle.std.proofs.lemmas.Result.{err_from_is_err_and}
use Rattle.feed_http.proofs.DeviceLemmas.{Moved-trans}
use Rattle.feed_commands.proofs.InputLemmas.{fails_so}
use Rattle.feed_commands.proofs.input.read_within.Goals as goal

pub pieces-init : goal.pieces-init
pieces-init g c = record { given = ([], c.new-bytes.ensures.items, Consumes-nil _); quiet = refl }

pub pieces-preserved : goal.pieces-preserved
pieces-preserved g c = record {
  given = Moved-trans _ _ _ [] _ _ c.pieces.invariant.given c.in_ok-read_piece.ensures.given;
  quiet = c.in_ok-read_piece.ensures.quiet (λ e. absurd (cc)) ∙ c.pieces.invariant.quiet;
}

pub returns-in_err-read_piece-clause-err : goal.returns-in_err-read_piece-clause-err
returns-in_err-read_piece-clause-err g c =
    let p = err_from_is_err_and c.from_residual.result c.from_residual.ensures.1 in
    rw (p.1, p.2) (fails_so _ _ _ _ c.in_err-read_piece.ensures.faults)

pub returns-then-branch-eq0-clause-ok : goal.returns-then-branch-eq0-clause-ok
returns-then-branch-eq0-clause-ok g c =
    let whole = Moved-trans _ _ _ [] _ _ c.pieces.invariant.given c.in_ok-read_piece.ensures.given in
    record { read = subst (Consumes _ _) (sym whole.1) whole.2; end = search rules; short = search rules }

pub returns-clause-err : goal.returns-clause-err
returns-clause-err g c =
    let all = c.pieces.invariant.given in
    record { bytes = c.pieces.bytes.items; read = subst (Consumes _ _) (sym all.1) all.2; long = search rules }
