use Rattle.std.proofs.Common.{◌≡◌, take}
use Rattle.gg_shape_names.specs.Along.{along}
use Rattle.gg_shape_names.specs.Repetitions.{repeated_in_field}
use Rattle.gg_shape_names.specs.inside.Tables.{HavePorts}
use Rattle.gg_shape_names.proofs.AlongLemmas.{left}
use Rattle.gg_shape_names.proofs.memory.memory_ports.Given as goal

abbrev pub invariant-loop-field : goal.invariant-loop-field
invariant-loop-field l = record {
  have : HavePorts (take l.field-index l.fields) l.ports.readers l.ports.writers;
  left_is : along repeated_in_field l.fields ≡ left repeated_in_field l.fields l.field-index;
}
