use Rattle.std.proofs.Common.{◌≡◌, take}
use Rattle.gg_flat_tree.specs.Scoped.{output_signals}
use Rattle.golden_commands.proofs.ports.outputs_among.Given as goal

abbrev pub invariant-loop-port : goal.invariant-loop-port
invariant-loop-port l = l.signals.items ≡ output_signals (take l.port-index l.ports)
