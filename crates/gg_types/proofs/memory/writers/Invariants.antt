use Rattle.std.proofs.Common.{◌≡◌, map, take}
use Rattle.std.specs.Prelude.{flat_map}
use Rattle.gg_ast.specs.declared.statement.Field.{Field}
use Rattle.gg_types.specs.Memories.{writers_said}
use Rattle.gg_types.proofs.memory.writers.Given as goal

abbrev pub invariant-loop-field : goal.invariant-loop-field
invariant-loop-field l = map (λ n. n.now) l.names.items ≡ flat_map (λ (f : Field). writers_said f.kind) (take l.field-index l.fields)
