use Rattle.std.proofs.Common.{◌≡◌, ℕ, ◌<◌, length, take}
use Rattle.std.specs.Prelude.{◌==◌, if◌then◌else◌}
use Rattle.std.specs.List.{list_any}
use Rattle.gg_flat.specs.Line.{value_at}
use Rattle.gg_cut_plan.specs.Hosts.{machine_of}
use Rattle.gg_cut_machines.proofs.hosts.set_all.Given as goal

abbrev pub invariant-loop-path : goal.invariant-loop-path
invariant-loop-path l =
    (length l.leaders.items ≡ length l.initial.leaders.items)
    × ((m : ℕ) → m < length l.leaders.items → value_at l.leaders.items m ≡ (if list_any (λ path. machine_of l.units path == m) (take l.path-index l.group) then l.«number» else value_at l.initial.leaders.items m))
