use Rattle.std.proofs.Common.{◌≡◌, sym, ap, ◌∙◌, ◌++◌, false, true≢false}
use Rattle.std.specs.Prelude.{Result, Ok, Err, OnOk, is_err}
use Rattle.std.proofs.lemmas.Result.{err_from_is_err_and}
use Rattle.feed_note.specs.Pieces.{texts_of}
use Rattle.feed_note.specs.declared.splitter.SplitFault.TheVariants as fault
use Rattle.feed_note.proofs.Piecewise.{begins, begins_none, begins_short, one_piece_more, all_pieces, all_lines, short_lines, long_in_pieces}
use Rattle.feed_note.proofs.pieces.lines_of_pieces.Goals as goal

at_ok : {T E : Type 0} (r : Result T E) (P : Type 0) → is_err r ≡ false → OnOk r P → P
at_ok (Ok x) P e h = h
at_ok (Err y) P e h = absurd (true≢false e)

pub loop-piece-init : goal.loop-piece-init
loop-piece-init c = record {
  cut = begins _ _ c.new-all.ensures.items c.new-splitter.ensures;
  none = begins_none _ c.new-splitter.ensures;
  short = begins_short _ c.new-splitter.ensures;
}

pub loop-piece-preserved : goal.loop-piece-preserved
loop-piece-preserved c =
    let pushed = at_ok c.push.result _ (sym c.is_err.ensures.value ∙ c.if-is_err.false) c.push.ensures.ok ∙ ap (λ t. c.loop-piece.splitter ++ t) c.as_slice.ensures.value in
    let takes = c.in_ok-take_lines.ensures.ok in
    record {
      cut = one_piece_more c.args.pieces.now c.loop-piece.piece-index c.piece-item.result _ _ c.loop-piece.splitter c.push.new.self _ c.loop-piece-test.true c.piece-item.is
          c.loop-piece.invariant.cut pushed takes;
      none = takes.none;
      short = takes.short;
    }

pub returns-in_err-take_lines-clause-long : goal.returns-in_err-take_lines-clause-long
returns-in_err-take_lines-clause-long c = λ e.
    let p = err_from_is_err_and c.from_residual.result c.from_residual.ensures.1 in
    let same : c.in_err-take_lines.field-0.0 ≡ fault.LongLine = cc (p.1, p.2, e) in
    let pushed = at_ok c.push.result _ (sym c.is_err.ensures.value ∙ c.if-is_err.false) c.push.ensures.ok ∙ ap (λ t. c.loop-piece.splitter ++ t) c.as_slice.ensures.value in
    long_in_pieces c.args.pieces.now c.loop-piece.piece-index c.piece-item.result _ c.loop-piece.splitter c.push.new.self c.loop-piece-test.true c.piece-item.is
    c.loop-piece.invariant.cut pushed (c.in_err-take_lines.ensures.long (ap Err same))

pub returns-clause-lines : goal.returns-clause-lines
returns-clause-lines c =
    let so_far = c.loop-piece.invariant in
    all_lines _ _ _ (all_pieces c.args.pieces.now c.loop-piece.piece-index _ _ c.loop-piece-test.false so_far.cut) so_far.none

pub returns-clause-short : goal.returns-clause-short
returns-clause-short c =
    let so_far = c.loop-piece.invariant in
    short_lines _ _ (texts_of c.loop-piece.all.items) (all_pieces c.args.pieces.now c.loop-piece.piece-index _ _ c.loop-piece-test.false so_far.cut) so_far.none so_far.short
