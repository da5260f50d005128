use Rattle.std.proofs.Common.{arith}
use Rattle.gg_elab_sites.specs.Sites.{module_at}
use Rattle.gg_elab_sites.specs.Clocks.{clock_connected}
use Rattle.gg_elab_sites.specs.Connection.{connection_in}
use Rattle.gg_elab_sites.specs.Signals.{dotted}
use Rattle.gg_elab_sites.proofs.ClockLemmas.{mapped-more}
use Rattle.gg_elab_sites.proofs.clocks.clocks_given.Goals as goal

pub loop-port-preserved : goal.loop-port-preserved
loop-port-preserved c =
    let m = module_at c.args.typed.now.circuit.modules c.args.around in
    mapped-more (λ port. clock_connected m (connection_in m.statements (dotted c.args.name.now port))) c.ports-ports.result.now c.loop-port.port-index c.port-item.result c.loop-port.clocks.items c.add_given.new.clocks.items (omega arith) c.port-item.is c.loop-port.invariant c.in_ok-add_given.ensures
