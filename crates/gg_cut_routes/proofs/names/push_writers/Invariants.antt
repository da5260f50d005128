use Rattle.std.proofs.Common.{◌≡◌, ◌++◌, take}
use Rattle.std.specs.Prelude.{flat_map}
use Rattle.gg_flat_tree.specs.Scoped.{writer_fields}
use Rattle.gg_cut_routes.proofs.names.push_writers.Given as goal

abbrev pub invariant-loop-writer : goal.invariant-loop-writer
invariant-loop-writer l = l.names.items ≡ l.initial.names.items ++ flat_map (λ writer. writer_fields writer) (take l.writer-index l.writers)
