use Rattle.std.proofs.Common.{◌≡◌, drop}
use Rattle.gg_node.specs.Machine.{machine_at, first_empty}
use Rattle.gg_net.proofs.waits.first_missing.Given as goal

abbrev pub invariant-loop-place : goal.invariant-loop-place
invariant-loop-place g l = first_empty (machine_at (g.H.Host.machines l.host) l.thread).latches l.places ≡ first_empty (machine_at (g.H.Host.machines l.host) l.thread).latches (drop l.place-index l.places)
