use Rattle.std.proofs.Common.{◌≡◌, map, take}
use Rattle.gg_ast.specs.declared.module.Port.{Port}
use Rattle.gg_types.specs.Clocks.{way_of_port}
use Rattle.gg_types_rules.proofs.clocks.port_ways.Given as goal

abbrev pub invariant-loop-port : goal.invariant-loop-port
invariant-loop-port l = l.ways.items ≡ map (λ (p : Port). way_of_port p.direction) (take l.port-index l.ports)
