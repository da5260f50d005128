use Rattle.std.proofs.Common.{◌≡◌, length}
use Rattle.gg_workers.specs.inside.LinkedHosts.{ReadyAt, DoneAt}
use Rattle.gg_workers.specs.inside.Turns.{host_steps, StepsTold}
use Rattle.gg_workers.proofs.TurnLemmas.{AreTurning, done-ready}
use Rattle.gg_workers.proofs.turns.pass_threads.Given as goal

abbrev pub invariant-loop-thread : goal.invariant-loop-thread
invariant-loop-thread g l =
    AreTurning (ReadyAt g.L.Link.takes_from g.L.Link.puts_into g.L.Link.taking g.L.Link.putting g.Z.Streams.flow g.E.Era.start l.stations l.links l.upto)
    (DoneAt g.L.Link.takes_from g.L.Link.puts_into g.L.Link.taking g.L.Link.putting g.Z.Streams.flow g.E.Era.start l.stations l.links l.upto)
    (done-ready g.L.Link.takes_from g.L.Link.puts_into g.L.Link.taking g.L.Link.putting g.Z.Streams.flow g.E.Era.start l.stations l.links l.upto)
    l._number l.thread (g.H.Host.machines l.host) l.by_thread.items
    × (length l.by_thread.items ≡ length l.initial.by_thread.items)
    × StepsTold host_steps (g.H.Host.machines l.initial.host) (g.H.Host.machines l.host) l.stepped
