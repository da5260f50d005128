use Rattle.std.proofs.Common.{length}
use Rattle.gg_measure.specs.inside.Turns.{NoneFound}
use Rattle.gg_measure.proofs.tells.find_event.Given as goal

abbrev pub invariant-loop-c : goal.invariant-loop-c
invariant-loop-c g l = NoneFound l.net l.c 0

abbrev pub invariant-loop-m : goal.invariant-loop-m
invariant-loop-m g l = NoneFound l.net (length l.net.wires) l.m
