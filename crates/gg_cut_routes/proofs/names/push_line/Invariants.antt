use Rattle.std.proofs.Common.{◌≡◌, ◌++◌, take}
use Rattle.std.specs.Prelude.{flat_map}
use Rattle.gg_order.specs.Found.{op_names}
use Rattle.gg_cut_routes.proofs.names.push_line.Given as goal

abbrev pub invariant-loop-node : goal.invariant-loop-node
invariant-loop-node l = l.names.items ≡ l.initial.names.items ++ flat_map (λ node. op_names node.op) (take l.node-index l.line)
