use Rattle.golden_commands.proofs.HandedLemmas.{AreAdded}
use Rattle.golden_commands.proofs.handed.models_of.Given as goal

abbrev pub invariant-loop-bridge : goal.invariant-loop-bridge
invariant-loop-bridge g l = AreAdded g.B.Bridge.piece l.bridges l.bridge-index l.models
