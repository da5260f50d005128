use Rattle.std.proofs.Common.{◌≡◌, take}
use Rattle.gg_shape_names.specs.Along.{along}
use Rattle.gg_shape_names.specs.Repetitions.{repeated_port}
use Rattle.gg_shape_names.proofs.AlongLemmas.{left}
use Rattle.gg_shape_names.proofs.ScopeLemmas.{TellsPorts}
use Rattle.gg_shape_names.proofs.module.declare_ports.Given as goal

abbrev pub invariant-loop-port : goal.invariant-loop-port
invariant-loop-port l = record {
  told : TellsPorts l._circuit.modules (take l.port-index l.ports) l.table;
  left_is : along repeated_port l.ports ≡ left repeated_port l.ports l.port-index;
}
