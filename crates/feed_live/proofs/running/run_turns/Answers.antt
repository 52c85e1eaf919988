use Rattle.std.proofs.Common.{◌∙◌, ap, refl, inl}
use Rattle.feed_live.specs.Running.{moment_of, surroundings}
use Rattle.feed_live.proofs.RunLemmas.{no_turn, then_on}
use Rattle.feed_files.proofs.Filed.{no_ok}
use Rattle.feed_live.proofs.running.run_turns.Goals as goal

pub loop-init : goal.loop-init
loop-init g c =
    record {
      run = no_turn (ap (λ next. moment_of c.args.live.now next (g.H.Host.time c.args.host.now) (surroundings (g.L.Link.exchanges c.args.devices.now.link)
          (g.S.Sockets.socket c.args.devices.now.sockets) (g.D.Store.files c.args.devices.now.store) (g.H.Host.input c.args.host.now))) c.first-next.ensures) refl;
      failed = refl;
    }

pub returns-in_err-next-clause-run : goal.returns-in_err-next-clause-run
returns-in_err-next-clause-run g c =
    let failed = c.in_err-next.ensures.err in (
      failed.2,
      failed.3,
      record {
        count = _;
        run = then_on failed.4 c.loop.invariant.run;
        ends = no_ok _ c.from_residual.result c.from_residual.ensures.0;
      },
    )

pub loop-preserved : goal.loop-preserved
loop-preserved g c =
    record {
      run = then_on c.in_ok-next.ensures.turn c.loop.invariant.run;
      failed = c.in_ok-next.ensures.failed ∙ c.loop.invariant.failed;
    }

pub returns-then-next-clause-run : goal.returns-then-next-clause-run
returns-then-next-clause-run g c = (
  _,
  _,
  record {
    count = _;
    run = then_on c.in_ok-next.ensures.turn c.loop.invariant.run;
    ends = inl c.if-next.true;
  },
)
