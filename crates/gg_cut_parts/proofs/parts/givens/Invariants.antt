use Rattle.std.proofs.Common.{◌≡◌, take}
use Rattle.gg_cut_plan.specs.Plan.{givens_of}
use Rattle.gg_cut_parts.proofs.parts.givens.Given as goal

abbrev pub invariant-loop-channel : goal.invariant-loop-channel
invariant-loop-channel l = l.givens.items ≡ givens_of l.wires (take l.channel-index l.channels)
