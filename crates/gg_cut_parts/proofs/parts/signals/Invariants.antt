use Rattle.std.proofs.Common.{◌≡◌, take}
use Rattle.gg_cut_plan.specs.Plan.{signals_of}
use Rattle.gg_cut_parts.proofs.parts.signals.Given as goal

abbrev pub invariant-loop-channel : goal.invariant-loop-channel
invariant-loop-channel l = l.signals.items ≡ signals_of l.wires (take l.channel-index l.channels)
