use Rattle.std.proofs.Common.{rules}
use Rattle.gg_shape.specs.inside.Told.{is_among, unconnected_of_port}
use Rattle.gg_shape.proofs.FlatLemmas.{rest-refused}
use Rattle.gg_shape.proofs.unconnected.check_names.Goals as goal

pub returns-in_err-check_port : goal.returns-in_err-check_port
returns-in_err-check_port c =
    let h = rest-refused (unconnected_of_port c.args.sinks.kind c.args.sinks.memory.now (is_among c.args.sinks.declaration.connected.now) c.args.sinks.declaration.line) c.args.ports.now c.loop-port.port-index c.port-item.result c.port-item.result c.in_err-check_port.field-0.0 c.loop-port-test.true c.port-item.is c.loop-port.invariant c.in_err-check_port.ensures in
    search (rules, h)
