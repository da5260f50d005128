use Rattle.std.proofs.Common.{map, arith}
use Rattle.gg_elab_sites.specs.Signals.{own_of_port}
use Rattle.gg_elab_sites.specs.inside.Views.{own_of}
use Rattle.gg_elab_sites.proofs.ListLemmas.{filter_map-more}
use Rattle.gg_elab_sites.proofs.own.add_ports.Goals as goal

pub loop-port-preserved : goal.loop-port-preserved
loop-port-preserved c = filter_map-more own_of_port (map own_of c.args.signals.now.items) (map own_of c.loop-port.signals.items) (map own_of c.add_port.new.signals.items) c.args.ports.now c.loop-port.port-index c.port-item.result (omega arith) c.port-item.is c.loop-port.invariant c.in_ok-add_port.ensures
