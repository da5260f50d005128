use Rattle.std.proofs.Common.{ℕ, take}
use Rattle.gg_flat.specs.Reads.{Names}
use Rattle.gg_order.proofs.graph.next_reference.Given as goal

abbrev pub invariant-loop-i : goal.invariant-loop-i
invariant-loop-i l = (t : ℕ) → Names (take l.i l.nodes) t → Names (take l.place l.nodes) t
