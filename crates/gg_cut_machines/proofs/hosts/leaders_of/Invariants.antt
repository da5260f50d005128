use Rattle.std.proofs.Common.{◌≡◌, ℕ, ◌<◌, ◌-◌, length, drop}
use Rattle.gg_flat.specs.Line.{value_at}
use Rattle.gg_cut_plan.specs.Hosts.{leader}
use Rattle.gg_cut_machines.proofs.hosts.leaders_of.Given as goal

abbrev pub invariant-loop-step : goal.invariant-loop-step
invariant-loop-step l =
    (length l.leaders.items ≡ l.count)
    × ((m : ℕ) → m < l.count → value_at l.leaders.items m ≡ leader l.units (drop (length l.share - l.step) l.share) m)
