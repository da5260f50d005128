use Rattle.std.proofs.Common.{◌≡◌, drop}
use Rattle.gg_node.specs.Machine.{first_empty}
use Rattle.gg_node.proofs.latches.first_empty.Given as goal

abbrev pub invariant-loop-i : goal.invariant-loop-i
invariant-loop-i l = first_empty l.latches l.ins ≡ first_empty l.latches (drop l.i-index l.ins)
