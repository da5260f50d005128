use Rattle.std.proofs.Common.{◌≡◌, ℕ, map, take}
use Rattle.gg_types.specs.Clocks.{is_outside}
use Rattle.gg_types.specs.inside.Places.{way_at}
use Rattle.gg_types_rules.proofs.clocks.outside_flags.Given as goal

abbrev pub invariant-loop-place : goal.invariant-loop-place
invariant-loop-place l = l.flags.items ≡ map (λ (place : ℕ). is_outside (way_at l.ways place)) (take l.place-index l.reached.items)
