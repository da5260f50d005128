use Rattle.std.proofs.Common.{◌≡◌, drop}
use Rattle.gg_types.specs.Fields.{first_said, type_said}
use Rattle.gg_types.proofs.memory.said_type.Given as goal

abbrev pub invariant-loop-field : goal.invariant-loop-field
invariant-loop-field l = first_said type_said l.fields ≡ first_said type_said (drop l.field-index l.fields)
