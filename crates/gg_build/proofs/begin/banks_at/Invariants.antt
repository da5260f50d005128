use Rattle.std.proofs.Common.{◌≡◌, map, take}
use Rattle.gg_flat.specs.Memory.{bank_at}
use Rattle.gg_build.proofs.begin.banks_at.Given as goal

abbrev pub invariant-loop-memory : goal.invariant-loop-memory
invariant-loop-memory l = l.own.items ≡ map (bank_at l.banks) (take l.memory-index l.memories)
