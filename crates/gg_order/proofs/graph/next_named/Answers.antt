use Rattle.gg_order.proofs.graph.next_named.Goals as goal

pub returns-in-Computed-clause-first : goal.returns-in-Computed-clause-first
returns-in-Computed-clause-first c = rw (c.in-Computed.is, ← c.as_slice.ensures) c.next_reference.ensures.first

pub returns-in-Computed-clause-none : goal.returns-in-Computed-clause-none
returns-in-Computed-clause-none c = rw (c.in-Computed.is, ← c.as_slice.ensures) c.next_reference.ensures.none

pub returns-in-MemoryWord-clause-first : goal.returns-in-MemoryWord-clause-first
returns-in-MemoryWord-clause-first c = rw c.in-MemoryWord.is c.next_field.ensures.first

pub returns-in-MemoryWord-clause-none : goal.returns-in-MemoryWord-clause-none
returns-in-MemoryWord-clause-none c = rw c.in-MemoryWord.is c.next_field.ensures.none
