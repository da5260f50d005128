use Rattle.std.proofs.Common.{◌≡◌, ◌-◌, length, slice_set}
use Rattle.gg_node.specs.Machine.{machine_at}
use Rattle.gg_workers_pass.specs.inside.Rows.{ServesTried, StepsDone}
use Rattle.gg_workers_pass.proofs.rows.serve_all.Given as goal

abbrev pub invariant-loop-stepped : goal.invariant-loop-stepped
invariant-loop-stepped g l = record {
  tried : ServesTried g.Z.Streams.flow g.E.Era.start l._machine (machine_at (g.H.Host.machines l.initial.host) l.thread) (machine_at (g.H.Host.machines l.host) l.thread);
  alone : g.H.Host.machines l.host ≡ slice_set (g.H.Host.machines l.initial.host) l.thread (machine_at (g.H.Host.machines l.host) l.thread);
  done : StepsDone (g.H.Host.machines l.initial.host) l.thread (g.H.Host.machines l.host) l.stepped;
}

abbrev pub decreases-loop-stepped : goal.decreases-loop-stepped
decreases-loop-stepped g l = length l.ports - (machine_at (g.H.Host.machines l.host) l.thread).served
