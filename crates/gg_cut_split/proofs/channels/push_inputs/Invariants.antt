use Rattle.std.proofs.Common.{◌≡◌, ◌++◌, take}
use Rattle.gg_cut_plan.specs.Channels.{numbered}
use Rattle.gg_cut_split.specs.inside.Spread.{given_wires}
use Rattle.gg_cut_split.proofs.channels.push_inputs.Given as goal

abbrev pub invariant-loop-place : goal.invariant-loop-place
invariant-loop-place l = l.wires.items ≡ l.initial.wires.items ++ numbered (given_wires l.givers) 0 (take l.place l.ins)
