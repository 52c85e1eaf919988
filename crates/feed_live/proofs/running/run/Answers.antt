use Rattle.std.proofs.Common.{refl, inl, inr}
use Rattle.std.specs.Prelude.{Option}
use Rattle.feed_device.specs.Files.{StateFiles}
use Rattle.feed_live.specs.Running.{Surroundings, InputSoFar, moment_of, surroundings, at_once}
use Rattle.feed_live.proofs.RunLemmas.{runs_from, untouched}
use Rattle.feed_live.proofs.running.run.Goals as goal

pub returns-in_err-live-clause-run : goal.returns-in_err-live-clause-run
returns-in_err-live-clause-run g c =
    inr (record {
      failed = c.from_residual.ensures.0;
      same = untouched (g.L.Link.exchanges c.args.devices.now.link) (g.S.Sockets.socket c.args.devices.now.sockets) c.in_err-live.ensures.err c.in_err-live.ensures.input;
      calls = c.in_err-live.ensures.calls;
    })

pub returns-in-Ok-clause-run : goal.returns-in-Ok-clause-run
returns-in-Ok-clause-run g c =
    let ran = c.in-Ok.ensures.run in
    let around = λ (files : StateFiles) (input : Option InputSoFar). surroundings (g.L.Link.exchanges c.args.devices.now.link) (g.S.Sockets.socket c.args.devices.now.sockets) files input in
    let found : Surroundings = around (g.D.Store.files c.args.devices.now.store) (g.H.Host.input c.args.host.now) in
    inl (runs_from c.args.setup found
    (moment_of c.in_ok-live.live at_once (g.H.Host.time c.begin.new.host) (around (g.D.Store.files c.begin.new.store) (g.H.Host.input c.begin.new.host)))
    (moment_of c.run_turns-ended.new.live ran.0 ran.1 (surroundings (g.L.Link.exchanges c.run_turns-ended.new.devices.link) (g.S.Sockets.socket c.run_turns-ended.new.devices.sockets)
    (g.D.Store.files c.run_turns-ended.new.devices.store) (g.H.Host.input c.run_turns-ended.new.host)))
    _ c.in_ok-live.ensures.begins refl refl refl c.in_ok-live.ensures.input c.in_ok-live.ensures.calls ran.2.run ran.2.ends)

pub returns-in-Err-clause-run : goal.returns-in-Err-clause-run
returns-in-Err-clause-run g c =
    let ran = c.in-Err.ensures.run in
    let around = λ (files : StateFiles) (input : Option InputSoFar). surroundings (g.L.Link.exchanges c.args.devices.now.link) (g.S.Sockets.socket c.args.devices.now.sockets) files input in
    let found : Surroundings = around (g.D.Store.files c.args.devices.now.store) (g.H.Host.input c.args.host.now) in
    inl (runs_from c.args.setup found
    (moment_of c.in_ok-live.live at_once (g.H.Host.time c.begin.new.host) (around (g.D.Store.files c.begin.new.store) (g.H.Host.input c.begin.new.host)))
    (moment_of c.run_turns-ended.new.live ran.0 ran.1 (surroundings (g.L.Link.exchanges c.run_turns-ended.new.devices.link) (g.S.Sockets.socket c.run_turns-ended.new.devices.sockets)
    (g.D.Store.files c.run_turns-ended.new.devices.store) (g.H.Host.input c.run_turns-ended.new.host)))
    _ c.in_ok-live.ensures.begins refl refl refl c.in_ok-live.ensures.input c.in_ok-live.ensures.calls ran.2.run tt)
