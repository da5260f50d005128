use Rattle.std.proofs.Common.{◌≡◌, ℕ, ◌<◌, ◌≤◌, length}
use Rattle.std.specs.Prelude.{◌==◌, filter}
use Rattle.std.specs.List.{range_with_len}
use Rattle.gg_flat.specs.Line.{value_at}
use Rattle.gg_cut_machines.proofs.hosts.firsts_before.Given as goal

abbrev pub invariant-loop-number : goal.invariant-loop-number
invariant-loop-number l =
    (length l.before.items ≡ l.number) × (l.total ≤ l.number)
    × (l.total ≡ length (filter (λ k. value_at l.leaders k == k) (range_with_len 0 l.number)))
    × ((m : ℕ) → m < l.number → value_at l.before.items m ≡ length (filter (λ k. value_at l.leaders k == k) (range_with_len 0 m)))
