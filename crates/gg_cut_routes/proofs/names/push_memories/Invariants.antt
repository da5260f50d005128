use Rattle.std.proofs.Common.{◌≡◌, ◌++◌, take}
use Rattle.std.specs.Prelude.{flat_map}
use Rattle.gg_flat_tree.specs.Scoped.{memory_fields}
use Rattle.gg_cut_routes.proofs.names.push_memories.Given as goal

abbrev pub invariant-loop-memory : goal.invariant-loop-memory
invariant-loop-memory l = l.names.items ≡ l.initial.names.items ++ flat_map (memory_fields l.piece) (take l.memory-index l.memories)
