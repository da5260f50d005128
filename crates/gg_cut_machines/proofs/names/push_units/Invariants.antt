use Rattle.std.proofs.Common.{◌≡◌, ◌++◌, take}
use Rattle.gg_cut_machines.proofs.names.push_units.Given as goal

abbrev pub invariant-loop-unit : goal.invariant-loop-unit
invariant-loop-unit l = l.names.items ≡ l.initial.names.items ++ take l.unit-index l.units
