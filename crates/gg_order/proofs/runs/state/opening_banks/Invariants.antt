use Rattle.std.proofs.Common.{◌≡◌, take, map}
use Rattle.gg_flat.specs.Memory.{opening_bank}
use Rattle.gg_order.proofs.runs.state.opening_banks.Given as goal

abbrev pub invariant-loop-memory : goal.invariant-loop-memory
invariant-loop-memory l = l.banks.items ≡ map (λ memory. opening_bank memory) (take l.memory-index l.memories)
