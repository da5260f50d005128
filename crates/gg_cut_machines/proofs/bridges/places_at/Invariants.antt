use Rattle.std.proofs.Common.{◌≡◌, map, take}
use Rattle.gg_flat.specs.Line.{value_at}
use Rattle.gg_cut_plan.specs.Plan.{wire_at}
use Rattle.gg_cut_machines.proofs.bridges.places_at.Given as goal

abbrev pub invariant-loop-channel : goal.invariant-loop-channel
invariant-loop-channel l = l.places.items ≡ map (λ c. value_at l.table (wire_at l.wires c).signal) (take l.channel-index l.channels)
