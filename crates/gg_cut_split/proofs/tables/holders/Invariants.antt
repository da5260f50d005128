use Rattle.std.proofs.Common.{◌≡◌, ◌<◌, ℕ, length}
use Rattle.gg_flat.specs.Line.{value_at}
use Rattle.gg_flat_tree.specs.Tree.{memory_at}
use Rattle.gg_cut_split.proofs.tables.holders.Given as goal

abbrev pub invariant-loop-place : goal.invariant-loop-place
invariant-loop-place l = (length l.found.items ≡ l.place) × ((place : ℕ) → place < l.place → value_at l.found.items place ≡ value_at l.owners (memory_at l.tree place).instance)
