use Rattle.std.proofs.Common.{refl, sym, subst, true≢false}
use Rattle.gg_flat.specs.WellFormed.{IsClockedMemory}
use Rattle.gg_flat.proofs.ListLemmas.{first-more}
use Rattle.gg_refsim.proofs.check_clocks.are_memory_clocks.Goals as goal

pub returns-then-not-is_clocked : goal.returns-then-not-is_clocked
returns-then-not-is_clocked c =
    (λ no k d lt. absurd (true≢false (sym no)), λ all. c.if-not-is_clocked.ensures.1 (subst (IsClockedMemory c.args.count) (sym c.memory-item.is) (all c.loop-memory.memory-index c.memory-item.result c.loop-memory-test.true)))

pub loop-memory-preserved : goal.loop-memory-preserved
loop-memory-preserved c =
    first-more (IsClockedMemory c.args.count) c.args.memories.now c.loop-memory.memory-index c.memory-item.result c.loop-memory-test.true c.memory-item.is (c.if-not-is_clocked.ensures.0 refl) c.loop-memory.invariant
