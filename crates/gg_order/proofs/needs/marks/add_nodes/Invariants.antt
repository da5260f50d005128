use Rattle.std.proofs.Common.{take}
use Rattle.gg_flat.specs.Reads.{Names}
use Rattle.gg_order.specs.inside.NeedsMarks.{Adds}
use Rattle.gg_order.proofs.needs.marks.add_nodes.Given as goal

abbrev pub invariant-loop-node : goal.invariant-loop-node
invariant-loop-node l = Adds l.added (Names (take l.node-index l.nodes)) l.initial.marks l.marks
