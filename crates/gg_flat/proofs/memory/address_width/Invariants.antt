use Rattle.std.proofs.Common.{◌≡◌, ◌-◌}
use Rattle.gg_flat.specs.Memory.{address_width, first_width}
use Rattle.gg_flat.proofs.memory.address_width.Given as goal

abbrev pub invariant-loop-width : goal.invariant-loop-width
invariant-loop-width l = address_width l.depth ≡ first_width (32 - l.width) l.width l.depth
