use Rattle.std.proofs.Common.{◌≡◌}
use Rattle.std.specs.List.{flat_map}
use Rattle.gg_shape.specs.inside.Told.{is_among, unconnected_in_field}
use Rattle.gg_shape.proofs.FlatLemmas.{rest}
use Rattle.gg_shape.proofs.unconnected.check_kind.Given as goal

abbrev pub invariant-loop-field : goal.invariant-loop-field
invariant-loop-field l = flat_map (unconnected_in_field l.sinks.kind l.sinks.memory.now (is_among l.sinks.declaration.connected.now) l.sinks.declaration.line) l.fields ≡ rest (unconnected_in_field l.sinks.kind l.sinks.memory.now (is_among l.sinks.declaration.connected.now) l.sinks.declaration.line) l.fields l.field-index
