use Rattle.std.proofs.Common.{◌++◌, [], ◌∷◌, ℕ, List, Option, map, sym, ap, ap₂, ◌∙◌}
use Rattle.std.proofs.lemmas.List.{map_more, take_all}
use Rattle.gg_flat.specs.declared.memory.Memory.{Memory}
use Rattle.gg_part.specs.inside.Clocking.{clocks_of_ports}
use Rattle.gg_cut_parts.proofs.whole.clocks_of_memories.Goals as goal

pub loop-memory-preserved : goal.loop-memory-preserved
loop-memory-preserved c =
    c.push_reserved.ensures.items
    ∙ ap₂ (λ (l : List (List (Option ℕ))) (own : List (Option ℕ)). l ++ own ∷ []) (c.reserve.ensures.items ∙ c.loop-memory.invariant) (c.in_ok-own.ensures {u = tt} ∙ ap (λ (m : Memory). clocks_of_ports m) c.memory-item.is)
    ∙ sym (map_more (λ (m : Memory). clocks_of_ports m) c.args.memories.now c.loop-memory.memory-index c.memory-item.result c.loop-memory-test.true)

pub returns : goal.returns
returns c = c.loop-memory.invariant ∙ ap (map (λ (m : Memory). clocks_of_ports m)) (take_all c.loop-memory.memory-index c.args.memories.now c.loop-memory-test.false)
