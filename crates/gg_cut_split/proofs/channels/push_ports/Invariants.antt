use Rattle.std.proofs.Common.{◌≡◌, ◌++◌, take, map}
use Rattle.gg_cut_plan.specs.Channels.{port_wire}
use Rattle.gg_cut_split.proofs.channels.push_ports.Given as goal

abbrev pub invariant-loop-port : goal.invariant-loop-port
invariant-loop-port l = l.wires.items ≡ l.initial.wires.items ++ map (port_wire l.outside l.unit) (take l.port-index l.ports)
