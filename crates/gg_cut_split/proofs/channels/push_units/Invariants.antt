use Rattle.std.proofs.Common.{◌≡◌, ◌++◌, take}
use Rattle.gg_cut_plan.specs.Machines.{first_unit}
use Rattle.gg_cut_plan.specs.Channels.{numbered, port_wires}
use Rattle.gg_cut_split.proofs.channels.push_units.Given as goal

abbrev pub invariant-loop-place : goal.invariant-loop-place
invariant-loop-place l = l.wires.items ≡ l.initial.wires.items ++ numbered (port_wires l.tree l.units) first_unit (take l.place l.units)
