use Rattle.std.proofs.Common.{◌≡◌, ◌+◌, length}
use Rattle.gg_net.specs.markings.Measure.{sum_below}
use Rattle.gg_measure.specs.inside.Nets.{wire_left, machine_left}
use Rattle.gg_measure.proofs.tells.left.Given as goal

abbrev pub invariant-loop-c : goal.invariant-loop-c
invariant-loop-c g l = l.left ≡ sum_below (wire_left l.net) l.c

abbrev pub invariant-loop-m : goal.invariant-loop-m
invariant-loop-m g l = l.left ≡ sum_below (wire_left l.net) (length l.net.wires) + sum_below (machine_left l.net) l.m
