use Rattle.std.proofs.Common.{◌≡◌, take}
use Rattle.gg_cut_parts.proofs.moved_piece.add_memories.Given as goal

abbrev pub invariant-loop-memory : goal.invariant-loop-memory
invariant-loop-memory l =
    record {
      only : l.piece ≡ record l.initial.piece { memories = l.piece.memories };
      memories : l.piece.memories ≡ take l.memory-index l.memories;
    }
