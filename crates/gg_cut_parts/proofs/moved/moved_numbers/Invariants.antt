use Rattle.std.proofs.Common.{◌≡◌, map, take}
use Rattle.gg_part.specs.Moved.{shifted}
use Rattle.gg_cut_parts.proofs.moved.moved_numbers.Given as goal

abbrev pub invariant-loop-number : goal.invariant-loop-number
invariant-loop-number l = l.moved.items ≡ map (shifted l.from l.to) (take l.number-index l.numbers)
