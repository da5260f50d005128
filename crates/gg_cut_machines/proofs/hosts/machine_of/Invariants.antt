use Rattle.std.proofs.Common.{◌≡◌, ◌+◌, drop}
use Rattle.std.specs.Prelude.{option_map}
use Rattle.gg_cut_plan.specs.Listed.{place_of}
use Rattle.gg_cut_machines.proofs.hosts.machine_of.Given as goal

abbrev pub invariant-loop-number : goal.invariant-loop-number
invariant-loop-number l = place_of l.units l.path ≡ option_map (λ k. l.number + k) (place_of (drop l.number l.units) l.path)
