use Rattle.std.proofs.Common.{◌≡◌, ℕ, ◌<◌, length}
use Rattle.gg_flat.specs.Line.{value_at}
use Rattle.gg_cut_parts.proofs.lists.numbers.Given as goal

abbrev pub invariant-loop-number : goal.invariant-loop-number
invariant-loop-number l = (length l.numbers.items ≡ l.number) × ((m : ℕ) → m < l.number → value_at l.numbers.items m ≡ m)
