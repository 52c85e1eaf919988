use Rattle.std.proofs.Common.{rules, ◌+◌, sym, ◌∙◌, ap, subst, arith, inl, inr, refl}
use Rattle.std.proofs.lemmas.Result.{err_from_is_err_and}
use Rattle.std.specs.Prelude.{Err}
use Rattle.std.specs.Io.KnownBytes.{Consumes}
use Rattle.std.proofs.KnownBytes.{Consumes-nil, Consumes-trans}
use Rattle.feed_http.specs.Exchange.{gave_by}
use Rattle.feed_http.specs.HeadReading.{IsReadAsNeeded, IsStillNeeded, IsEnough, none_read, more_read}
use Rattle.feed_http.proofs.DeviceLemmas.{rose_more}
use Rattle.feed_http.proofs.HeadLemmas.{fails_at, reads_passed}
use Rattle.feed_http.proofs.head_reading.read_head.Goals as goal

pub pieces-init : goal.pieces-init
pieces-init g c = record {
  given = subst (λ bytes. Consumes (g.R.FeedRead.remaining c.args.reader.now) (g.R.FeedRead.remaining c.args.reader.now) bytes) (sym c.requires) (Consumes-nil _);
  needed = subst IsReadAsNeeded (sym c.requires) none_read;
  within = omega arith;
  reads = inl (omega arith);
  quiet = refl;
}

pub pieces-preserved : goal.pieces-preserved
pieces-preserved g c =
    let (given, grown, is_length, within, consumed, ended) = c.in_ok-read_piece.ensures.given in
    let lacking : IsStillNeeded c.pieces.bytes.items = subst IsStillNeeded c.as_slice.ensures.value (c.is_needed.ensures.needed c.pieces-test.true) in
    record {
      given = subst (Consumes _ _) (sym grown) (Consumes-trans _ _ _ _ _ c.pieces.invariant.given consumed);
      needed = subst IsReadAsNeeded (sym grown) (more_read c.pieces.bytes.items given c.pieces.invariant.needed lacking (omega arith));
      within = omega arith;
      reads = rose_more _ _ _ _ c.pieces.invariant.reads c.read_piece.ensures.reads;
      quiet = c.in_ok-read_piece.ensures.failures ∙ c.pieces.invariant.quiet;
    }

pub returns-in_err-read_piece-clause-reads : goal.returns-in_err-read_piece-clause-reads
returns-in_err-read_piece-clause-reads g c = (c.pieces.made + 1, omega arith, rose_more _ _ _ _ c.pieces.invariant.reads c.read_piece.ensures.reads)

pub returns-then-branch-eq0-clause-reads : goal.returns-then-branch-eq0-clause-reads
returns-then-branch-eq0-clause-reads g c = (c.pieces.made + 1, omega arith, rose_more _ _ _ _ c.pieces.invariant.reads c.read_piece.ensures.reads)

pub returns-in_err-read_piece-clause-ends : goal.returns-in_err-read_piece-clause-ends
returns-in_err-read_piece-clause-ends g c =
    let p = err_from_is_err_and c.from_residual.result c.from_residual.ensures.1 in
    let reader = g.R.FeedRead in
    let gave = gave_by reader.remaining reader.reads reader.failures c.args.reader.now c.read_piece.new.reader in
    let why = c.in_err-read_piece.field-0.0 in
    let lacking : IsStillNeeded c.pieces.bytes.items = subst IsStillNeeded c.as_slice.ensures.value (c.is_needed.ensures.needed c.pieces-test.true) in
    rw (p.1, p.2) (fails_at c.args.most_reads gave _ c.pieces.bytes.items _ why c.in_err-read_piece.ensures.kept
    c.pieces.invariant.given lacking c.in_err-read_piece.ensures.faults
    (λ is. c.in_err-read_piece.ensures.unread (ap Err is)))

pub returns-in_err-read_piece-clause-failures : goal.returns-in_err-read_piece-clause-failures
returns-in_err-read_piece-clause-failures g c =
    let p = err_from_is_err_and c.from_residual.result c.from_residual.ensures.1 in
    reads_passed c.in_err-read_piece.field-0.0 p.1 p.2 c.pieces.invariant.quiet c.in_err-read_piece.ensures.failures

pub returns-then-branch-eq0-clause-ends : goal.returns-then-branch-eq0-clause-ends
returns-then-branch-eq0-clause-ends g c =
    let (given, grown, is_length, within, consumed, ended) = c.in_ok-read_piece.ensures.given in (
      subst (Consumes _ _) (sym grown) (Consumes-trans _ _ _ _ _ c.pieces.invariant.given consumed),
      inr (ended (search rules)),
    )

pub returns-clause-ends : goal.returns-clause-ends
returns-clause-ends g c =
    (c.pieces.invariant.given, inl (subst IsEnough c.as_slice.ensures.value (c.is_needed.ensures.enough (search rules))))
