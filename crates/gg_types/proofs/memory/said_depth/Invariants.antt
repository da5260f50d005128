use Rattle.std.proofs.Common.{◌≡◌, drop}
use Rattle.gg_types.specs.Fields.{first_said, depth_said}
use Rattle.gg_types.proofs.memory.said_depth.Given as goal

abbrev pub invariant-loop-field : goal.invariant-loop-field
invariant-loop-field l = first_said depth_said l.fields ≡ first_said depth_said (drop l.field-index l.fields)
