use Rattle.std.proofs.Common.{◌∙◌, length, refl, sym, ap, arith}
use Rattle.gg_flat_tree.specs.declared.tree.MemoryInstance.{MemoryInstance}
use Rattle.gg_flat.specs.Line.{value_at}
use Rattle.gg_cut_split.proofs.NumberedLemmas.{memory-here}
use Rattle.gg_cut_split.proofs.SpreadLemmas.{AreLists-memory}
use Rattle.gg_cut_split.proofs.spread.put_memories.Goals as goal

pub loop-place-preserved : goal.loop-place-preserved
loop-place-preserved c =
    AreLists-memory c.args.tree.now c.args.owners.now c.loop-place.place (value_at c.args.owners.now c.loop-place.place) _ (length c.args.lists.now) c.loop-place.lists c.put.new.piles refl
    (ap (λ (m : MemoryInstance). m.memory) (sym c.index-memories-place.is ∙ memory-here c.args.tree.now c.memories.result.now c.loop-place.place c.index-memories-place.result (omega (arith, c.loop-place-test.true, c.memory_count-place-end.ensures.count)) c.memories.ensures c.index-memories-place.is))
    c.loop-place.invariant c.in_ok-put.ensures
