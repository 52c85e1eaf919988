use Rattle.std.proofs.Common.{◌≡◌}
use Rattle.feed_live.specs.Running.{HasRun, moment_of, surroundings, at_once}
use Rattle.feed_live.proofs.running.run_turns.Given as goal

abbrev pub invariant-loop : goal.invariant-loop
invariant-loop g l =
    record {
      run : HasRun
          (moment_of l.initial.live at_once (g.H.Host.time l.initial.host) (surroundings (g.L.Link.exchanges l.initial.devices.link)
          (g.S.Sockets.socket l.initial.devices.sockets) (g.D.Store.files l.initial.devices.store) (g.H.Host.input l.initial.host)))
          (moment_of l.live l.next (g.H.Host.time l.host) (surroundings (g.L.Link.exchanges l.devices.link)
          (g.S.Sockets.socket l.devices.sockets) (g.D.Store.files l.devices.store) (g.H.Host.input l.host)))
          (g.H.Host.calls l.initial.host) (g.H.Host.calls l.host) l.counter;
      failed : g.H.Host.failed l.host ≡ g.H.Host.failed l.initial.host;
    }
