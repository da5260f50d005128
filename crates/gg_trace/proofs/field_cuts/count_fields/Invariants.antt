use Rattle.std.proofs.Common.{◌≡◌, ◌+◌, length}
use Rattle.gg_trace.specs.Fields.{fields}
use Rattle.gg_trace.proofs.field_cuts.count_fields.Given as goal

abbrev pub invariant-loop-field : goal.invariant-loop-field
invariant-loop-field l = l.count + length l.rest ≡ length (fields l.line)

abbrev pub decreases-loop-field : goal.decreases-loop-field
decreases-loop-field l = length l.rest
