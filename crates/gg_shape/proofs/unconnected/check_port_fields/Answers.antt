use Rattle.std.proofs.Common.{rules, refl}
use Rattle.gg_shape.specs.inside.Told.{is_among, unconnected_of_field}
use Rattle.gg_shape.proofs.FlatLemmas.{rest-refused}
use Rattle.gg_shape.proofs.unconnected.check_port_fields.Goals as goal

pub returns-in_err-check_port_field : goal.returns-in_err-check_port_field
returns-in_err-check_port_field c =
    let f = unconnected_of_field c.args.sinks.kind c.args.sinks.memory.now (is_among c.args.sinks.declaration.connected.now) c.args.sinks.declaration.line c.args.port.now in
    let h = rest-refused f c.args.fields.now c.loop-field.field-index _ _ c.in_err-check_port_field.field-0.0 c.loop-field-test.true refl c.loop-field.invariant c.in_err-check_port_field.ensures in
    search (rules, h)
