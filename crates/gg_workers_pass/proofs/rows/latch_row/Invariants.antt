use Rattle.std.proofs.Common.{◌≡◌, ◌≤◌, length, slice_set}
use Rattle.std.specs.Prelude.{max, min}
use Rattle.gg_node.specs.Machine.{machine_at}
use Rattle.gg_workers_pass.specs.inside.Rows.{LatchesTried, StepsDone}
use Rattle.gg_workers_pass.proofs.rows.latch_row.Given as goal

abbrev pub invariant-loop-place : goal.invariant-loop-place
invariant-loop-place g l = record {
  tried : LatchesTried g.L.Link.takes_from g.L.Link.taking g.Z.Streams.flow g.E.Era.start l._machine l.links l.ins l.first l.place (machine_at (g.H.Host.machines l.initial.host) l.thread) l.initial.seats.items (machine_at (g.H.Host.machines l.host) l.thread) l.seats.items;
  alone : g.H.Host.machines l.host ≡ slice_set (g.H.Host.machines l.initial.host) l.thread (machine_at (g.H.Host.machines l.host) l.thread);
  from : l.first ≤ l.place;
  upto : l.place ≤ max l.first (min l.past (length l.ins));
  done : StepsDone (g.H.Host.machines l.initial.host) l.thread (g.H.Host.machines l.host) l.stepped;
}
