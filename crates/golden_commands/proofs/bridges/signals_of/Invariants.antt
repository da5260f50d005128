use Rattle.std.proofs.Common.{◌≡◌, ◌+◌, drop}
use Rattle.golden_commands.specs.inside.HandFault.{signals_of}
use Rattle.golden_commands.proofs.bridges.signals_of.Given as goal

abbrev pub invariant-loop-pair : goal.invariant-loop-pair
invariant-loop-pair g l = signals_of g.B.Bridge.piece l.bridges ≡ l.signals + signals_of g.B.Bridge.piece (drop l.pair-index l.bridges)
