use Rattle.std.proofs.Common.{◌≡◌, map, take}
use Rattle.std.specs.Prelude.{flat_map}
use Rattle.gg_ast.specs.declared.statement.Field.{Field}
use Rattle.gg_types.specs.Memories.{readers_said}
use Rattle.gg_types.proofs.memory.readers.Given as goal

abbrev pub invariant-loop-field : goal.invariant-loop-field
invariant-loop-field l = map (λ n. n.now) l.names.items ≡ flat_map (λ (f : Field). readers_said f.kind) (take l.field-index l.fields)
