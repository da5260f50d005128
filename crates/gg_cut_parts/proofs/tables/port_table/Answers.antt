use Rattle.std.proofs.Common.{◌≡◌, ◌<◌, ℕ, List, [], ◌∷◌, ◌++◌, Option, length, get_or, map, sym, ap, ap₂, ◌∙◌, subst}
use Rattle.std.proofs.lemmas.List.{get_or_default, map_more}
use Rattle.gg_flat_tree.specs.declared.tree.MemoryInstance.{MemoryInstance}
use Rattle.gg_flat_tree.specs.Clocked.{clock_at}
use Rattle.gg_cut_parts.proofs.tables.port_table.Goals as goal

pub loop-memory-preserved : goal.loop-memory-preserved
loop-memory-preserved c =
    let inner = c.args.inner.now in
    let memories = c.args.memories.now in
    let k = c.loop-memory.memory-index in
    let item = c.memory-item.result in
    let made : MemoryInstance → List (Option ℕ) = λ memory. map (clock_at (get_or inner memory.instance [])) memory.clocks in
    let items : c.push_reserved.new.self.items ≡ c.loop-memory.ports.items ++ c.from.result ∷ [] = cc in
    let known : item.instance < length inner = subst (λ (memory : MemoryInstance). memory.instance < length inner) (sym c.memory-item.is) (c.requires k item c.loop-memory-test.true) in
    let above = c.as_slice-above.ensures ∙ c.index-inner-memory.is ∙ get_or_default inner item.instance c.index-inner-memory.result [] known in
    let value : c.from.result ≡ made item = c.from.ensures ∙ c.in_ok-own.ensures ∙ ap₂ (λ (l n : List (Option ℕ)). map (clock_at l) n) above c.as_slice.ensures in
    items ∙ ap₂ (λ (l : List (List (Option ℕ))) (x : List (Option ℕ)). l ++ x ∷ []) c.loop-memory.invariant (value ∙ ap made c.memory-item.is) ∙ sym (map_more made memories k item c.loop-memory-test.true)
