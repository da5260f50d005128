use Rattle.std.proofs.Common.{◌≡◌, ◌++◌, map, take}
use Rattle.gg_bridge.specs.Joined.{behind_by}
use Rattle.gg_flat.specs.Renaming.{renamed_memory}
use Rattle.gg_bridge.proofs.joining.move_memories.Given as goal

abbrev pub invariant-loop-memory : goal.invariant-loop-memory
invariant-loop-memory l = l.piece ≡ record l.initial.piece { memories = l.initial.piece.memories ++ map (λ memory. renamed_memory (behind_by l.behind.globals.items l.behind.held.items l.behind.memories.items) memory) (take l.memory-index l.memory-items) }
