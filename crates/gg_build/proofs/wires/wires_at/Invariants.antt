use Rattle.gg_build.specs.inside.Wires.{AreWires}
use Rattle.gg_build.proofs.wires.wires_at.Given as goal

abbrev pub invariant-loop-number : goal.invariant-loop-number
invariant-loop-number l = AreWires l.channels l.outs l.ins l.tokens l.«number» l.wires.items
