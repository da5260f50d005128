use Rattle.std.proofs.Common.{◌≡◌, ◌++◌, drop}
use Rattle.gg_types.specs.inside.Clocks.{clock_numbers}
use Rattle.gg_types_rules.proofs.inputs.clock_numbers.Given as goal

abbrev pub invariant-loop-port : goal.invariant-loop-port
invariant-loop-port l = l.numbers.items ++ clock_numbers l.count (drop l.port-index l.ports) ≡ clock_numbers 0 l.ports
