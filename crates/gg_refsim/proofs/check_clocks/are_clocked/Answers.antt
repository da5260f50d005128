use Rattle.std.proofs.Common.{refl}
use Rattle.gg_refsim.proofs.check_clocks.are_clocked.Goals as goal

pub returns : goal.returns
returns c =
    let registers = c.if-not-are_register_clocks.ensures.0 refl in
    let memories = rw (c.clocks-2.ensures, c.memories.ensures) at c.are_memory_clocks.ensures in
    (λ yes. (rw (c.clocks.ensures, c.registers.ensures) at registers, memories.0 yes), λ formed. memories.1 formed.1)
