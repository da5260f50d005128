use Rattle.std.proofs.Common.{◌≡◌, take}
use Rattle.gg_bridge.specs.Joined.{without}
use Rattle.gg_bridge.proofs.numbers.left_of.Given as goal

abbrev pub invariant-loop-number : goal.invariant-loop-number
invariant-loop-number l = l.left.items ≡ without l.gone (take l.number-index l.list)
