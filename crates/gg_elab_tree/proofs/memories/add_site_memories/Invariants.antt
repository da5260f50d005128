use Rattle.std.proofs.Common.{◌≡◌, ◌++◌, List, map, take}
use Rattle.gg_flat_tree.specs.Tree.{joined}
use Rattle.gg_elab_sites.specs.IsFlat.{memory_paths}
use Rattle.gg_elab_tree.specs.IsTreeOf.{Pairwise, HeldMemory, site_paths, memories_of}
use Rattle.gg_elab_tree.specs.inside.TreeParts.{IsHeldFor, held_at_place, with_memories}
use Rattle.gg_elab_tree.proofs.memories.add_site_memories.Given as goal

abbrev pub invariant-loop-own : goal.invariant-loop-own
invariant-loop-own l =
    (l.tree.memory_paths ≡ l.fn.tree.memory_paths ++ map (λ m. joined l.place.path m.name.now) (take l.own-index l.memories))
    × ((said : List HeldMemory) → l.paths ≡ site_paths l.typed.circuit → l.table.memories ≡ memory_paths (memories_of l.typed.circuit) → Pairwise (IsHeldFor l.typed.circuit) said l.fn.tree.memories → Pairwise (IsHeldFor l.typed.circuit) (said ++ map (held_at_place l.typed.circuit.modules l.place) (take l.own-index l.memories)) l.tree.memories)
    × (l.tree ≡ with_memories l.fn.tree l.tree.memory_paths l.tree.memories)
