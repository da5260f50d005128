use Rattle.std.proofs.Common.{rules}
use Rattle.gg_shape.specs.inside.Told.{is_among, unconnected_in_field}
use Rattle.gg_shape.proofs.FlatLemmas.{rest-refused}
use Rattle.gg_shape.proofs.unconnected.check_kind.Goals as goal

pub returns-in_err-check_field : goal.returns-in_err-check_field
returns-in_err-check_field c =
    let h = rest-refused (unconnected_in_field c.args.sinks.kind c.args.sinks.memory.now (is_among c.args.sinks.declaration.connected.now) c.args.sinks.declaration.line) c.args.fields.now c.loop-field.field-index c.field-item.result c.field-item.result c.in_err-check_field.field-0.0 c.loop-field-test.true c.field-item.is c.loop-field.invariant c.in_err-check_field.ensures in
    search (rules, h)
