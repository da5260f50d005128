use Rattle.std.proofs.Common.{map, refl, sym, subst, true≢false}
use Rattle.gg_bits.specs.Shape.{shape}
use Rattle.gg_flat.specs.Line.{HasType}
use Rattle.gg_flat.specs.WellFormed.{IsMemory}
use Rattle.gg_flat.proofs.ListLemmas.{first-more}
use Rattle.gg_refsim.proofs.check_memory.are_memories.Goals as goal

pub returns-then-not-is_memory : goal.returns-then-not-is_memory
returns-then-not-is_memory c =
    let Is = IsMemory (HasType (map (λ s. shape s.ty) c.args.signals.now)) in
    (λ no k d lt. absurd (true≢false (sym no)), λ all. c.if-not-is_memory.ensures.1 (subst Is (sym c.memory-item.is) (all c.loop-memory.memory-index c.memory-item.result c.loop-memory-test.true)))

pub loop-memory-preserved : goal.loop-memory-preserved
loop-memory-preserved c =
    let Is = IsMemory (HasType (map (λ s. shape s.ty) c.args.signals.now)) in
    first-more Is c.args.memories.now c.loop-memory.memory-index c.memory-item.result c.loop-memory-test.true c.memory-item.is (c.if-not-is_memory.ensures.0 refl) c.loop-memory.invariant
