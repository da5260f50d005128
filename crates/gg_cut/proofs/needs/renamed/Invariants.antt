use Rattle.std.proofs.Common.{◌≡◌, ℕ, ◌<◌, ◌≤◌, length}
use Rattle.gg_flat.specs.Line.{value_at}
use Rattle.gg_cut.proofs.needs.renamed.Given as goal

abbrev pub invariant-loop-index : goal.invariant-loop-index
invariant-loop-index l =
    (length l.items.items ≡ length l.initial.items.items)
    × ((k : ℕ) → k < l.index → value_at l.items.items k ≡ value_at l.values (value_at l.initial.items.items k))
    × ((k : ℕ) → l.index ≤ k → value_at l.items.items k ≡ value_at l.initial.items.items k)
