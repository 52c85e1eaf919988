use Rattle.std.proofs.Common.{sym, subst, ap, arith, ◌∙◌}
use Rattle.std.specs.Prelude.{Contains}
use Rattle.feed_screens.proofs.InputLemmas.{reads_all, reads_next}
use Rattle.feed_screens.proofs.NotedLemmas.{noted_then}
use Rattle.feed_screens.proofs.screens.Screens.serve_more.Goals as goal

pub loop-at-preserved : goal.loop-at-preserved
loop-at-preserved g c =
    let tried = g.S.Sockets.tried in
    let so = c.loop-at.invariant in
    let next = c.go_on_at.ensures in
    record {
      mirrors = record { shown = next.mirrors.shown ∙ so.mirrors.shown; blank = next.mirrors.blank ∙ so.mirrors.blank };
      serving = λ nodes among blank serving.
          next.serving nodes (subst (λ n. Contains nodes n) (sym (ap (λ m. m.node) so.mirrors.shown)) among)
          (λ held. subst (λ n. Contains nodes n) (sym (ap (λ m. m.node) so.mirrors.blank)) (blank held)) (so.serving nodes among blank serving);
      asks = next.asks ∙ so.asks;
      reads = reads_next c.serve_waiting.new.self.conns c.loop-at.self.conns c.go_on_at.new.self.conns
          (tried c.serve_waiting.new.sockets) (tried c.loop-at.sockets) (tried c.go_on_at.new.sockets)
          c.args.shown.now.is_held c.args.shown.now.hold c.serve_waiting.new.desk.time c.loop-at.desk.time c.loop-at.at so.time
          so.reads next.tries next.untried next.others next.gone;
      time = next.time ∙ so.time;
      notes = noted_then _ _ _ so.notes next.notes;
      pauses = next.pauses ∙ so.pauses;
    }

pub returns-clause-tries : goal.returns-clause-tries
returns-clause-tries g c at to_read =
    let tried = g.S.Sockets.tried in
    reads_all c.args.self.now.conns c.serve_waiting.new.self.conns c.loop-at.self.conns
    (tried c.args.sockets.now) (tried c.serve_waiting.new.sockets) (tried c.loop-at.sockets)
    c.args.shown.now.is_held c.args.shown.now.hold c.args.desk.now.time c.serve_waiting.new.desk.time c.loop-at.at c.capacity-places.result at
    c.serve_waiting.ensures.input c.serve_waiting.ensures.tries c.serve_waiting.ensures.time c.loop-at.invariant.reads
    c.capacity-places.ensures.slots (omega (arith, c.loop-at-test.false)) to_read
