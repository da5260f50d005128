use Rattle.std.proofs.Common.{◌≡◌, drop}
use Rattle.gg_types.specs.Memories.{first_said, latency_said}
use Rattle.gg_types.proofs.memory.said_latency.Given as goal

abbrev pub invariant-loop-field : goal.invariant-loop-field
invariant-loop-field l = first_said latency_said l.fields ≡ first_said latency_said (drop l.field-index l.fields)
