use Rattle.std.proofs.Common.{◌≡◌}
use Rattle.gg_part.specs.inside.Building.{AreMemories}
use Rattle.gg_part.specs.inside.Clocking.{MemoriesFollow}
use Rattle.gg_part.proofs.build.add_memories.Given as goal

abbrev pub invariant-loop-number : goal.invariant-loop-number
invariant-loop-number l =
    record {
      only : l.piece ≡ record l.initial.piece { memories = l.piece.memories };
      memories : AreMemories l.whole l.frame.globals l.frame.memories l.frame.clocks l.number-index l.piece.memories;
      own : MemoriesFollow l.frame.memories l.clocking.ports l.number-index l.piece.memories;
    }
