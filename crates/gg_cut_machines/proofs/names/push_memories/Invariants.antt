use Rattle.std.proofs.Common.{◌≡◌, ◌++◌, take, map}
use Rattle.gg_flat_tree.specs.Tree.{path_at}
use Rattle.gg_cut_machines.proofs.names.push_memories.Given as goal

abbrev pub invariant-loop-place : goal.invariant-loop-place
invariant-loop-place l = l.names.items ≡ l.initial.names.items ++ map (path_at l.tree.memory_paths) (take l.place-index l.memories)
