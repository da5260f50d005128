use Rattle.std.proofs.Common.{◌≡◌, ◌++◌, map, take}
use Rattle.gg_flat_tree.specs.Tree.{joined}
use Rattle.gg_elab_sites.proofs.table.add_memories.Given as goal

abbrev pub invariant-loop-memory : goal.invariant-loop-memory
invariant-loop-memory l =
    (l.table.memories ≡ l.fn.table.memories ++ map (λ m. joined l.path m.name.now) (take l.memory-index l.memories))
    × (l.table.paths ≡ l.fn.table.paths)
    × (l.table.types ≡ l.fn.table.types)
