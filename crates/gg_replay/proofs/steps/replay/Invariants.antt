use Rattle.std.proofs.Common.{take}
use Rattle.gg_net.specs.markings.Steps.{Steps}
use Rattle.gg_replay.specs.inside.Log.{AreFronts}
use Rattle.gg_replay.proofs.steps.replay.Given as goal

abbrev pub invariant-loop-i : goal.invariant-loop-i
invariant-loop-i g l = Steps l.initial.net (take l.i l.steps) l.net × AreFronts g.Z.Streams.flow l.net l.log
