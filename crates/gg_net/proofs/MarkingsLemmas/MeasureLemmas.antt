-- Each event lowers the measure by one.
use Rattle.std.proofs.Common.{◌≡◌, ℕ, suc, ◌+◌, ◌≤◌, length, refl, ◌∙◌, arith}
use Rattle.gg_net.specs.declared.event.Event.{Event}
use Rattle.gg_net.specs.declared.event.Event.TheVariants.{Latch, Fire, Serve, Finish}
use Rattle.gg_net.specs.markings.Marking.{Layout}
use Rattle.gg_net.specs.inside.Counts.{Counts, fires, latches, finishes, accesses, IsAllowed, AreAtMost, Raises}
use Rattle.gg_net.proofs.MarkingsLemmas.Free.{Free}
use Rattle.gg_net.specs.markings.Measure.{sum_below}
use Rattle.gg_net.specs.inside.Measure.{left_in, left_at, left}
use Rattle.gg_net.proofs.MarkingsLemmas.SumLemmas.{sum-same, sum-le, sum-add, sum-one, sum-none}

-- what an event does in a channel, and at a machine
abbrev moved_in : Event → ℕ → ℕ
moved_in event c = fires event c + latches event c

abbrev moved_at : Event → ℕ → ℕ
moved_at event m = finishes event m + accesses event m

-- an event does one thing
one-moved : (layout : Layout) (counts : Counts) (event : Event) → Free layout counts event → sum_below (moved_in event) (length layout.links) + sum_below (moved_at event) (length layout.turns) ≡ 1
one-moved layout counts (Latch d) free = omega (arith, sum-one (moved_in (Latch d)) d (length layout.links) free.known (λ c lt. omega arith), sum-none (moved_at (Latch d)) (length layout.turns) (λ m lt. refl))
one-moved layout counts (Fire d) free = omega (arith, sum-one (moved_in (Fire d)) d (length layout.links) free.known (λ c lt. omega arith), sum-none (moved_at (Fire d)) (length layout.turns) (λ m lt. refl))
one-moved layout counts (Serve k p) free = omega (arith, sum-none (moved_in (Serve k p)) (length layout.links) (λ c lt. refl), sum-one (moved_at (Serve k p)) k (length layout.turns) free.known (λ m lt. omega arith))
one-moved layout counts (Finish k) free = omega (arith, sum-none (moved_in (Finish k)) (length layout.links) (λ c lt. refl), sum-one (moved_at (Finish k)) k (length layout.turns) free.known (λ m lt. omega arith))

pub left-falls : (layout : Layout) (old new : Counts) (event : Event) → IsAllowed layout new → Free layout old event → Raises layout old event new → suc (left layout new) ≡ left layout old
left-falls layout old new event allowed free raises =
    let n : ℕ = length layout.links in
    let k : ℕ = length layout.turns in
    let channels : sum_below (left_in layout old) n ≡ sum_below (left_in layout new) n + sum_below (moved_in event) n =
    sum-same (left_in layout old) (λ c. left_in layout new c + moved_in event c) n (λ c known. omega (arith, raises.puts c known, raises.takes c known, allowed.put_end c known, allowed.take_end c known))
    ∙ sum-add (left_in layout new) (moved_in event) n in
    let machines : sum_below (left_at layout old) k ≡ sum_below (left_at layout new) k + sum_below (moved_at event) k =
    sum-same (left_at layout old) (λ m. left_at layout new m + moved_at event m) k (λ m known. omega (arith, raises.cycles m known, raises.serves m known, allowed.cycle_end m known, allowed.serve_end m known))
    ∙ sum-add (left_at layout new) (moved_at event) k in
    omega (arith, channels, machines, one-moved layout old event free)

-- higher counts have a lower measure
pub left-below : (layout : Layout) (old new : Counts) → AreAtMost layout old new → left layout new ≤ left layout old
left-below layout old new le =
    omega (
      arith,
      sum-le (left_in layout new) (left_in layout old) (length layout.links) (λ c known. omega (arith, le.puts c known, le.takes c known)),
      sum-le (left_at layout new) (left_at layout old) (length layout.turns) (λ m known. omega (arith, le.cycles m known, le.serves m known)),
    )
