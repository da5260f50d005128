use Rattle.std.proofs.Common.{◌≡◌, map, flat_map, take}
use Rattle.gg_elab_sites.specs.Flat.{flat_memories}
use Rattle.gg_elab_sites.specs.IsFlat.{memory_paths}
use Rattle.gg_elab_tree.specs.IsTreeOf.{Pairwise, held_memories}
use Rattle.gg_elab_tree.specs.inside.TreeParts.{IsHeldFor, with_memories}
use Rattle.gg_elab_sites.specs.inside.Views.{site_of}
use Rattle.gg_elab_tree.proofs.memories.add_memories.Given as goal

abbrev pub invariant-loop-place : goal.invariant-loop-place
invariant-loop-place l =
    (l.tree.memory_paths ≡ memory_paths (flat_memories l.typed.circuit.modules (map site_of (take l.place-index l.places))))
    × Pairwise (IsHeldFor l.typed.circuit) (flat_map (held_memories l.typed.circuit.modules) (map site_of (take l.place-index l.places))) l.tree.memories
    × (l.tree ≡ with_memories l.fn.tree l.tree.memory_paths l.tree.memories)
