use Rattle.std.proofs.Common.{rules}
use Rattle.gg_shape.specs.Shape.{unconnected_port}
use Rattle.gg_shape.specs.inside.Told.{is_among}
use Rattle.gg_shape.proofs.FlatLemmas.{rest-refused}
use Rattle.gg_shape.proofs.unconnected.check_ports.Goals as goal

pub returns-in_err-check_own : goal.returns-in_err-check_own
returns-in_err-check_own c =
    let h = rest-refused (unconnected_port (is_among c.args.connected.now)) c.args.ports.now c.loop-port.port-index c.port-item.result c.port-item.result c.in_err-check_own.field-0.0 c.loop-port-test.true c.port-item.is c.loop-port.invariant c.in_err-check_own.ensures in
    search (rules, h)
