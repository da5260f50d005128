use Rattle.std.proofs.Common.{◌≡◌, drop}
use Rattle.gg_types.specs.Types.{memory_type_faults}
use Rattle.gg_types_rules.proofs.fields.judge_fields.Given as goal

abbrev pub invariant-loop-field : goal.invariant-loop-field
invariant-loop-field l = memory_type_faults l.fields ≡ memory_type_faults (drop l.field-index l.fields)
