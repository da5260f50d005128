use Rattle.std.proofs.Common.{refl, sym, true≢false}
use Rattle.gg_refsim.proofs.check.is_well_formed.Goals as goal

pub returns-then-not-are_ins : goal.returns-then-not-are_ins
returns-then-not-are_ins c = (λ no. absurd (true≢false (sym no)), λ formed. c.if-not-are_ins.ensures.1 formed.ins)

pub returns-then-not-are_outs : goal.returns-then-not-are_outs
returns-then-not-are_outs c = (λ no. absurd (true≢false (sym no)), λ formed. c.if-not-are_outs.ensures.1 formed.outs)

pub returns-then-not-may_drive_all : goal.returns-then-not-may_drive_all
returns-then-not-may_drive_all c = (λ no. absurd (true≢false (sym no)), λ formed. c.if-not-may_drive_all.ensures.1 formed.drivers)

pub returns-then-not-are_read : goal.returns-then-not-are_read
returns-then-not-are_read c = (λ no. absurd (true≢false (sym no)), λ formed. c.if-not-are_read.ensures.1 formed.reads)

pub returns-then-not-are_clocked : goal.returns-then-not-are_clocked
returns-then-not-are_clocked c =
    (λ no. absurd (true≢false (sym no)), λ formed. c.if-not-are_clocked.ensures.1 (formed.register_clocks, formed.memory_clocks))

pub returns-then-not-are_memories : goal.returns-then-not-are_memories
returns-then-not-are_memories c =
    (λ no. absurd (true≢false (sym no)), λ formed. c.if-not-are_memories.ensures.1 (rw (c.signals.ensures, c.memories.ensures) formed.memories))

pub returns : goal.returns
returns c =
    let registers = rw (c.signals-2.ensures, c.registers.ensures) at c.are_registers.ensures in
    let memories = c.if-not-are_memories.ensures.0 refl in (
      λ yes.
          record {
            named = c.signal_count.ensures.paths;
            distinct = c.signal_count.ensures.distinct;
            drivers = c.if-not-may_drive_all.ensures.0 refl;
            ins = c.if-not-are_ins.ensures.0 refl;
            outs = c.if-not-are_outs.ensures.0 refl;
            registers = registers.0 yes;
            memories = rw (c.signals.ensures, c.memories.ensures) at memories;
            reads = c.if-not-are_read.ensures.0 refl;
            register_clocks = (c.if-not-are_clocked.ensures.0 refl).0;
            memory_clocks = (c.if-not-are_clocked.ensures.0 refl).1;
          },
      λ formed. registers.1 formed.registers,
    )
