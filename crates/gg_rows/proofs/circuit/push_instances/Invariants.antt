use Rattle.std.proofs.Common.{◌≡◌, ◌++◌, string_bytes}
use Rattle.std.specs.List.{range_with_len, flat_map}
use Rattle.gg_rows.specs.CircuitText.{instance_line}
use Rattle.gg_rows.proofs.circuit.push_instances.Given as goal

abbrev pub invariant-loop-i : goal.invariant-loop-i
invariant-loop-i l = string_bytes l.text ≡ string_bytes l.initial.text ++ flat_map instance_line (range_with_len 0 l.i-counter)
