use Rattle.std.proofs.Common.{◌≡◌, ◌++◌, take}
use Rattle.gg_types.specs.Clocks.{clock_inputs}
use Rattle.gg_elab_tree.specs.inside.TreeParts.{with_clocks}
use Rattle.gg_elab_tree.proofs.clocks.add_clocks.Given as goal

abbrev pub invariant-loop-port : goal.invariant-loop-port
invariant-loop-port l = l.tree ≡ with_clocks l.fn.tree (l.fn.tree.clocks ++ clock_inputs (take l.port-index l.ports))
