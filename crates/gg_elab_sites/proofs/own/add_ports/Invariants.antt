use Rattle.std.proofs.Common.{◌≡◌, ◌++◌, map, take}
use Rattle.std.specs.Prelude.{filter_map}
use Rattle.gg_elab_sites.specs.inside.Views.{own_of}
use Rattle.gg_elab_sites.specs.Signals.{own_of_port}
use Rattle.gg_elab_sites.proofs.own.add_ports.Given as goal

abbrev pub invariant-loop-port : goal.invariant-loop-port
invariant-loop-port l = map own_of l.signals.items ≡ map own_of l.fn.signals.items ++ filter_map own_of_port (take l.port-index l.ports)
