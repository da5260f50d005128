use Rattle.std.proofs.Common.{◌≡◌, [], take, map, slice_index_or}
use Rattle.gg_flat_tree.specs.Clocked.{clock_at}
use Rattle.gg_cut_parts.proofs.tables.port_table.Given as goal

abbrev pub invariant-loop-memory : goal.invariant-loop-memory
invariant-loop-memory l = l.ports.items ≡ map (λ memory. map (clock_at (slice_index_or l.inner memory.instance [])) memory.clocks) (take l.memory-index l.memories)
