use Rattle.std.proofs.Common.{◌≡◌, ◌++◌, take}
use Rattle.gg_bridge.proofs.joining.copy_memories.Given as goal

abbrev pub invariant-loop-memory : goal.invariant-loop-memory
invariant-loop-memory l = l.piece ≡ record l.initial.piece { memories = l.initial.piece.memories ++ take l.memory-index l.memory-items }
