use Rattle.std.proofs.Common.{◌≡◌, ◌≤◌, ◌+◌, ◌∷◌, ◌∙◌, [], ap, arith, length, refl, sym, ℕ, List, Bor}
use Rattle.std.specs.Prelude.{Option, Some, None, IfSome, IfNone}
use Rattle.std.proofs.lemmas.Result.{err_from_is_err_and}
use Rattle.feed_play.specs.Lines.{LinesLeft, all_lines}
use Rattle.feed_play.proofs.PlayerLemmas.{begun, played_more}
use Rattle.feed_play.proofs.player.play.Goals as goal

pub lines-init : goal.lines-init
lines-init c =
    record {
      all = refl;
      played = begun c.args.script.now _ _ c.next_line.result c.new-lines.result c.next_line.new.self _ c.in-Ok.made.1 _ c.new-lines.ensures c.next_line.ensures.some c.unwrap_or-first.ensures refl c.in-Ok.ensures.ok;
    }

pub lines-preserved : goal.lines-preserved
lines-preserved c =
    let (left, read) = c.in-Some.ensures.some in
    let before = c.lines.invariant in
    let fewer = ap length left in
    record {
      all = omega (arith, read, fewer, before.all, c.play_line.ensures.all);
      played = played_more c.args.script.now _ c.lines.world _ _ c.lines.out.items _ c.in-Some.line.now c.lines.lines c.next_line-in-lines.new.self _ before.played left read c.in_ok-play_line.ensures.ok;
    }

-- behind the first line there are no more lines than in all
first_all : (o : Option (Bor (List ℕ))) (begin behind : LinesLeft) (all : List (List ℕ))
    → begin ≡ record { left = all; read = 0 }
    → IfSome o (λ line. (begin.left ≡ line.now ∷ behind.left) × (behind.read ≡ begin.read + 1))
    → IfNone o ((begin.left ≡ []) × (behind ≡ begin)) → all_lines behind ≤ length all
first_all None begin behind all is some (nothing, same) =
    let read : behind.read ≡ 0 = ap (λ l. l.read) same ∙ ap (λ l. l.read) is in
    let many : length behind.left ≡ length all = ap (λ l. length l.left) same ∙ ap (λ l. length l.left) is in
    omega (arith, read, many)
first_all (Some line) begin behind all is (left, next) none =
    let read : behind.read ≡ 0 + 1 = next ∙ ap (λ l. l.read + 1) is in
    let many : length all ≡ length (line.now ∷ behind.left) = sym (ap (λ l. length l.left) is) ∙ ap length left in
    omega (arith, read, many)

pub returns-in_err-play_line-clause-line : goal.returns-in_err-play_line-clause-line
returns-in_err-play_line-clause-line c =
    let (left, read) = c.in-Some.ensures.some in
    let fewer = ap length left in
    let before = c.lines.invariant.all in
    let all = first_all c.next_line.result c.new-lines.result c.next_line.new.self _ c.new-lines.ensures c.next_line.ensures.some c.next_line.ensures.none in
    let from = c.in_err-play_line.ensures.line.from in
    let within = c.in_err-play_line.ensures.within in
    let p = err_from_is_err_and c.from_residual.result c.from_residual.ensures.1 in
    rw (p.1, p.2) (record {
      from = omega (arith, from, read);
      to = omega (arith, within, fewer, read, before, all);
    })
