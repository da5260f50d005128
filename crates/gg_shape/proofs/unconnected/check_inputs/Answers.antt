use Rattle.std.proofs.Common.{rules}
use Rattle.gg_shape.specs.inside.Told.{is_among, unconnected_input}
use Rattle.gg_shape.proofs.FlatLemmas.{rest-refused}
use Rattle.gg_shape.proofs.unconnected.check_inputs.Goals as goal

pub returns-in_err-check_input : goal.returns-in_err-check_input
returns-in_err-check_input c =
    let h = rest-refused (unconnected_input c.args.instance.now (is_among c.args.declaration.connected.now) c.args.declaration.line) c.args.ports.now c.loop-port.port-index c.port-item.result c.port-item.result c.in_err-check_input.field-0.0 c.loop-port-test.true c.port-item.is c.loop-port.invariant c.in_err-check_input.ensures in
    search (rules, h)
