use Rattle.std.proofs.Common.{◌≡◌, take, map}
use Rattle.gg_part.specs.inside.Clocking.{clocks_of_ports}
use Rattle.gg_cut_parts.proofs.whole.clocks_of_memories.Given as goal

abbrev pub invariant-loop-memory : goal.invariant-loop-memory
invariant-loop-memory l = l.ports.items ≡ map (λ memory. clocks_of_ports memory) (take l.memory-index l.memories)
