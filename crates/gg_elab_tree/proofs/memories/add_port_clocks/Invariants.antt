use Rattle.std.proofs.Common.{◌≡◌, ◌++◌, map, take}
use Rattle.gg_elab_sites.specs.Sites.{module_at}
use Rattle.gg_elab_sites.specs.Clocks.{port_clock}
use Rattle.gg_elab_tree.proofs.memories.add_port_clocks.Given as goal

abbrev pub invariant-loop-port : goal.invariant-loop-port
invariant-loop-port l = l.clocks.items ≡ l.fn.clocks.items ++ map (λ n. port_clock (module_at l.typed.circuit.modules l.number) l.memory n.now) (take l.port-index l.ports)
